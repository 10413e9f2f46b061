use Rattle.std.proofs.Common.{◌≡◌, ◌<◌, ◌-◌, ◌∙◌, ap, sym, subst, refl, suc, [], ◌∷◌, All, arith}
use Rattle.fourstate.specs.Nets.{net_of}
use Rattle.fourstate.specs.Values.{same_value}
use Rattle.gateline.proofs.Merging.{goes, merged}
use Rattle.gateline.proofs.merge.merge_waves.Goals as goal
use Rattle.waveform.specs.Changes.{wave_changes_below}
use Rattle.waveform.specs.Entries.{standing}
use Rattle.waveform.specs.declared.times.TheConstants.{TIME_END}
use Rattle.waveform.specs.kept.Timelines.{pushed}

pub loop-t-init : goal.loop-t-init
loop-t-init c =
    let kind = c.args.kind in let waves = c.args.waves.now in let r = c.min-t.result in let read = c.in_ok-read_each.ensures in
    let go = goes kind waves c.in_ok-readers.readers.items _ c.read_each.new.readers c.in_ok-readers.readers.len 0 0 _ r c.args.end c.in_ok-readers.ensures (omega arith) (omega arith)
    c.as_mut_slice.ensures.value read.readers c.in_ok-readers.readers.ok.0 (omega arith) c.requires.begun read.next c.min-t.ensures in
    record {
      begun = go.later;
      within = go.within;
      stand = go.stand;
      next = go.next;
      wave = c.in_ok-wave.ensures ∙ ap (λ v. (0, v) ∷ []) (c.resolve.ensures ∙ ap (net_of kind) (c.as_slice.ensures.value ∙ read.values) ∙ go.value)
          ∙ sym (c.no_change.ensures (merged kind waves) 1 r go.later go.still);
    }

pub loop-t-preserved : goal.loop-t-preserved
loop-t-preserved c =
    let kind = c.args.kind in let waves = c.args.waves.now in let t = c.loop-t.t in let r = c.min-t-in-loop-t.result in let read = c.in_ok-next.ensures in let so_far = c.loop-t.invariant in
    let low : t < c.args.end = c.loop-t-test.true in let stored : t < TIME_END = (let within = c.requires.within in omega arith) in
    let go = goes kind waves c.loop-t.readers.items _ c.read_each-in-loop-t.new.readers c.loop-t.readers.len (t - 1) t _ r c.args.end so_far.stand (omega arith) so_far.next
    c.as_mut_slice-in-loop-t.ensures.value read.readers c.loop-t.readers.ok.0 stored low read.next c.min-t-in-loop-t.ensures in
    record {
      begun = let later : t < r = go.later in omega arith;
      within = go.within;
      stand = go.stand;
      next = go.next;
      wave = c.in_ok-push.ensures.ok
          ∙ (λ i. pushed same_value standing (so_far.wave i) t ((c.resolve-in-loop-t.ensures ∙ ap (net_of kind) (c.as_slice-in-loop-t.ensures.value ∙ read.values) ∙ go.value) i))
          ∙ c.push_to_changes.ensures (merged kind waves) (λ u. refl) t
          ∙ sym (c.no_change.ensures (merged kind waves) (suc t) r go.later go.still);
    }

pub loop-t-smaller : goal.loop-t-smaller
loop-t-smaller c =
    let t = c.loop-t.t in let r = c.min-t-in-loop-t.result in let read = c.in_ok-next.ensures in let so_far = c.loop-t.invariant in
    let low : t < c.args.end = c.loop-t-test.true in let stored : t < TIME_END = (let within = c.requires.within in omega arith) in
    let go = goes c.args.kind c.args.waves.now c.loop-t.readers.items _ c.read_each-in-loop-t.new.readers c.loop-t.readers.len (t - 1) t _ r c.args.end so_far.stand (omega arith) so_far.next
    c.as_mut_slice-in-loop-t.ensures.value read.readers c.loop-t.readers.ok.0 stored low read.next c.min-t-in-loop-t.ensures in
    let later = go.later in let within = go.within in
    omega arith

pub push-requires-clause-later : goal.push-requires-clause-later
push-requires-clause-later c =
    subst (All (λ e. e.0 < c.loop-t.t)) (sym c.loop-t.invariant.wave) (c.changes_lie_before.ensures (merged c.args.kind c.args.waves.now) c.loop-t.t)

pub returns : goal.returns
returns c =
    let all : c.loop-t.t ≡ c.args.end = (let within = c.loop-t.invariant.within in let past = c.loop-t-test.false in omega arith) in
    c.loop-t.invariant.wave ∙ ap (wave_changes_below (merged c.args.kind c.args.waves.now)) all
