use Rattle.std.proofs.Common.{◌≡◌, ◌∙◌, sym, arith}
use Rattle.std.proofs.lemmas.Grind.{common_steps}
use Rattle.fourstate.specs.kept.DelayLaws.{same_delays_equal}
use Rattle.fourstate.specs.kept.ValueLaws.{same_values_decides}
use Rattle.parstep.proofs.Same.{same_parts}
use Rattle.parstep.proofs.compare.same_task.Goals as goal

pub returns : goal.returns
returns c same =
    let kind : c.args.left.now.kind ≡ c.args.right.now.kind = grind (arith, common_steps) in
    let delays = same_delays_equal c.delays.result c.delays-else-ne.result (grind (arith, common_steps)) in
    let state = c.if-not-same_driver.ensures (grind (arith, common_steps)) in
    let inputs = (same_values_decides c.inputs.result c.inputs-2.result).0 (sym c.is_same-2.ensures ∙ same) in
    same_parts c.args.left.now c.args.right.now kind
    (sym c.delays.ensures ∙ delays ∙ c.delays-else-ne.ensures)
    (sym c.state.ensures ∙ state ∙ c.state-2.ensures)
    (sym c.inputs.ensures ∙ inputs ∙ c.inputs-2.ensures)
