use Rattle.std.proofs.Common.{◌≡◌, ◌∙◌, ap, sym, refl, [], Some, length, slice_get, append-nil, arith}
use Rattle.std.proofs.lemmas.Grind.{common_steps}
use Rattle.catalog.specs.kept.Catalog.{keys_of}
use Rattle.scratch.proofs.Keyed.{none_left, none_under, put_last}
use Rattle.scratch.proofs.recording.put_waves.Goals as goal

pub loop-wave-init : goal.loop-wave-init
loop-wave-init c =
    record {
      done = ([], sym (append-nil c.args.waves.items), none_under _ c.args.run.now.waves c.requires.none);
      traces = refl;
      horizon = refl;
    }

pub loop-wave-preserved : goal.loop-wave-preserved
loop-wave-preserved c =
    let keys = keys_of c.args.design.now.nets in
    let left = c.pop.new.self.items in
    let done = c.loop-wave.invariant.done in
    let at : slice_get keys (length left) ≡ Some c.number.result =
    (let last : length left ≡ c.len.result = grind (arith, common_steps) in ap (λ p. slice_get keys p) last) ∙ c.net_key_at-net.ensures.key ∙ ap Some (sym c.number.ensures) in
    record {
      done = put_last keys c.args.waves.items c.loop-wave.waves.items left done.0 c.loop-wave.run.waves c.share_wave.new.self.waves c.number.result c.in-Some.wave done.1 c.in-Some.ensures.items done.2 at c.in_ok-share_wave.ensures.ok;
      traces = grind (arith, common_steps);
      horizon = grind (arith, common_steps);
    }

pub returns-clause-waves : goal.returns-clause-waves
returns-clause-waves c =
    let left = c.loop-wave.waves.items in
    let done = c.loop-wave.invariant.done in
    let none : length left ≡ 0 = grind (arith, common_steps) in
    none_left (keys_of c.args.design.now.nets) c.args.waves.items left done.0 c.loop-wave.run.waves done.1 none done.2
