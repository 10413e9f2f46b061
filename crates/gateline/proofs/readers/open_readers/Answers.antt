use Rattle.std.proofs.Common.{◌+◌, ◌∙◌, sym, subst, map, take}
use Rattle.std.proofs.lemmas.List.{take_all}
use Rattle.gateline.proofs.Stands.{stand_next}
use Rattle.gateline.proofs.readers.open_readers.Goals as goal
use Rattle.gateline.specs.kept.Readers.{GoesOn, StandAt}
use Rattle.gateline.specs.kept.Waves.{input_at, input_functions}

pub loop-input-preserved : goal.loop-input-preserved
loop-input-preserved c =
    let waves = c.args.waves.now in let inputs = c.inputs-inputs.result.now in let i = c.loop-input.input-index in let x = c.input-item.result in
    let goes : GoesOn (input_at waves x) c.of.result.value c.of.result.rest.now c.args.t =
    subst (λ input. GoesOn (input_at waves input) c.of.result.value c.of.result.rest.now c.args.t) c.get.ensures c.of.ensures in
    subst (λ readers. StandAt (map (input_at waves) (take (i + 1) inputs)) readers c.args.t) (sym c.in_ok-push.ensures.ok)
    (stand_next (input_at waves) inputs i x c.loop-input.readers.items c.of.result c.args.t c.loop-input-test.true c.input-item.is c.loop-input.invariant goes)

pub returns : goal.returns
returns c =
    subst (λ inputs. StandAt (input_functions c.args.waves.now inputs) c.loop-input.readers.items c.args.t)
    (take_all c.loop-input.input-index c.inputs-inputs.result.now c.loop-input-test.false ∙ c.inputs-inputs.ensures.inputs)
    c.loop-input.invariant
