use Rattle.std.proofs.Common.{◌≡◌, ◌<◌, ◌≤◌, Some, None, refl, sym, ◌∙◌, append-nil, arith}
use Rattle.std.proofs.lemmas.Grind.{common_steps}
use Rattle.waveform.specs.Timelines.{first_after}
use Rattle.listing.proofs.Rising.{between_next, change_later, none_between, timeline_rises, until_between, until_none}
use Rattle.listing.proofs.wave_part.changes_between.Goals as goal

pub loop-time-init : goal.loop-time-init
loop-time-init g c = record {
  text = let none = none_between c.args.wave.now c.args.from c.args.from (omega arith) in rw (none, append-nil) refl;
  behind = omega arith;
  within = c.requires.order;
}

pub returns-then-time-to : goal.returns-then-time-to
returns-then-time-to g c =
    let wave = c.args.wave.now in
    let found : first_after wave c.loop-time.last ≡ Some (c.in-Some.time, c.in-Some.value) = sym c.next_after.ensures.found ∙ c.in-Some.is in
    let until = until_between wave c.loop-time.last c.args.to (c.in-Some.time, c.in-Some.value) (timeline_rises _ _ wave c.requires.timeline) found c.loop-time.invariant.within c.if-time-to.true in
    rw until c.loop-time.invariant.text

pub loop-time-smaller : goal.loop-time-smaller
loop-time-smaller g c =
    let wave = c.args.wave.now in
    let found : first_after wave c.loop-time.last ≡ Some (c.in-Some.time, c.in-Some.value) = sym c.next_after.ensures.found ∙ c.in-Some.is in
    let later : c.loop-time.last < c.in-Some.time = change_later wave c.loop-time.last (c.in-Some.time, c.in-Some.value) found in
    let within : c.in-Some.time ≤ c.args.to = c.if-time-to.false in
    omega arith

pub loop-time-preserved : goal.loop-time-preserved
loop-time-preserved g c =
    let wave = c.args.wave.now in
    let found : first_after wave c.loop-time.last ≡ Some (c.in-Some.time, c.in-Some.value) = sym c.next_after.ensures.found ∙ c.in-Some.is in
    let later : c.loop-time.last < c.in-Some.time = change_later wave c.loop-time.last (c.in-Some.time, c.in-Some.value) found in
    let more = between_next wave c.args.from c.loop-time.last (c.in-Some.time, c.in-Some.value) (timeline_rises _ _ wave c.requires.timeline) c.loop-time.invariant.behind found in
    record {
      text = rw more (grind (arith, common_steps, c.loop-time.invariant.text));
      behind = omega (arith, c.loop-time.invariant.behind);
      within = c.if-time-to.false;
    }

pub returns : goal.returns
returns g c =
    let wave = c.args.wave.now in
    let none : first_after wave c.loop-time.last ≡ None = sym c.next_after.ensures.found ∙ c.in_default.is in
    let all = until_none wave c.loop-time.last c.args.to c.loop-time.invariant.within none in
    let here = until_none wave c.loop-time.last c.loop-time.last (omega arith) none in
    rw (all ∙ sym here) c.loop-time.invariant.text
