use Rattle.std.proofs.Common.{◌∙◌, sym}
use Rattle.gateline.proofs.Copied.{known_state}
use Rattle.gateline.proofs.old_line.next_state.Goals as goal
use Rattle.gateline.specs.kept.OldLines.{line_seen}

pub returns-then-not-wants-clause-state : goal.returns-then-not-wants-clause-state
returns-then-not-wants-clause-state g c =
    c.at_near.ensures
    ∙ known_state g.S.Stepper.answer c.args.cell.now (line_seen c.in-Some.old) c.args.state c.args.inputs c.args.t (sym c.wants.ensures ∙ c.if-not-wants.true)
    (c.requires.followed c.in-Some.old c.in-Some.is)
