use Rattle.std.proofs.Common.{List, Option, length, ap, ◌∙◌}
use Rattle.std.specs.Prelude.{option_map}
use Rattle.std.proofs.lemmas.List.{length-map}
use Rattle.vtext.specs.declared.gate.Terminal.{Terminal}
use Rattle.elaboration.specs.kept.Numbered.{ref_at}
use Rattle.elaboration.proofs.JointLemmas.{joints_count}
use Rattle.elaboration.proofs.start.given_of.Goals as goal

pub returns-clause-count : goal.returns-clause-count
returns-clause-count c =
    ap length c.in_ok-given.ensures
    ∙ length-map c.as_slice.result.now (option_map (ref_at c.args.scope.now))
    ∙ ap (λ (js : List (Option Terminal)). length js) (c.as_slice.ensures.value ∙ c.in_ok-joints.ensures)
    ∙ joints_count c.connections.result.now 0 0 c.args.entry.now.nets
