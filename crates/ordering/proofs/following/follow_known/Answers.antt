use Rattle.std.proofs.Common.{ℕ, suc, subst, Option, IfSome, slice_get}
use Rattle.std.proofs.lemmas.Result.{on_err_weaker}
use Rattle.design.specs.Keys.{netlist}
use Rattle.gateline.specs.kept.OldLines.{OldRecord, wanted_by}
use Rattle.gateline.specs.kept.Starts.{begin_of}
use Rattle.scratch.specs.Asked.{IsAskedInPart}
use Rattle.scratch.specs.kept.Kept.{cell_of}
use Rattle.ordering.specs.kept.Gates.{gate_work_from}
use Rattle.ordering.specs.kept.OldRuns.{line_of}
use Rattle.ordering.proofs.following.follow_known.Goals as goal

pub returns-clause-part : goal.returns-clause-part
returns-clause-part g c =
    let answer = g.S.Stepper.answer in let d = netlist c.args.design.now in let begin = c.args.begin in
    let old = g.S.Stepper.asked c.args.stepper.now in let new = g.S.Stepper.asked c.follow_gate.new.stepper in
    let P : Option OldRecord → ℕ → Type 0 = λ line from.
    IfSome (slice_get d.gates c.args.place) (λ e. IsAskedInPart old new (gate_work_from answer d (wanted_by line (cell_of d e).inputs) e from (suc d.horizon))) in
    on_err_weaker c.follow_gate.result
    (λ part. subst (P (line_of begin.old c.args.place)) c.former_of.ensures.begin (subst (λ line. P line (begin_of c.former_of.result)) c.line_of.ensures part))
    c.follow_gate.ensures.part
