use Rattle.std.proofs.Common.{◌≡◌, ◌∙◌, ◌+◌, [], ap, subst, suc, arith, slice_index_or}
use Rattle.design.specs.Keys.{Keyed, netlist}
use Rattle.design.specs.kept.Lawful.{IsDesign}
use Rattle.rundiff.specs.kept.OldRuns.{OldLinesRecord, state_till}
use Rattle.rundiff.specs.kept.Places.{gate_at}
use Rattle.rundiff.proofs.Clean.{clean_after}
use Rattle.rundiff.proofs.OneGate.{clean_known, clean_within}
use Rattle.rundiff.proofs.ReadBefore.{state_read}
use Rattle.rundiff.proofs.old_lines.OldLines.state_after.Goals as goal

pub returns-clause-state : goal.returns-clause-state
returns-clause-state g c =
    let answer = g.S.Stepper.answer in let old = netlist c.args.self.now.design in let new = netlist c.args.present.now.design.now in let t = c.args.present.now.t in let p = c.args.place in let gate = gate_at new p in
    let within = clean_within answer old new gate t c.requires.clean in
    let next : t + 1 ≡ suc t = omega arith in
    c.state_before.ensures.state ∙ ap (state_till (slice_index_or c.args.self.now.run.traces p [])) next
    ∙ state_read answer old new c.args.self.now.run c.requires.lines c.value_of_changes.ensures g.met.S.Stepper.answer_pending (subst (λ (k : Keyed). IsDesign (netlist k)) (ap (λ (lines : OldLinesRecord). lines.design) c.self.view_is) c.lawful.ensures.design) p c.requires.there (clean_known answer old new gate t c.requires.clean) (suc t) (omega arith)
    ∙ clean_after answer old new gate t c.requires.clean
