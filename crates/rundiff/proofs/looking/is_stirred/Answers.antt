use Rattle.std.proofs.Common.{◌≡◌, ◌<◌, ◌-◌, ◌∙◌, ap, sym, false, not, arith}
use Rattle.gatestep.specs.Step.{State}
use Rattle.design.specs.Keys.{connection_in, entry_in, netlist}
use Rattle.scratch.specs.Run.{state_before}
use Rattle.rundiff.specs.kept.Kept.{read_at}
use Rattle.scratch.specs.Work.{is_due}
use Rattle.scratch.proofs.Moments.{map_twice}
use Rattle.rundiff.proofs.OneGate.{stirred_is}
use Rattle.rundiff.proofs.looking.is_stirred.Goals as goal

pub returns : goal.returns
returns g c =
    let answer = g.S.Stepper.answer in
    let new = netlist c.args.former.now.new.now in
    let nets = c.args.former.now.new.now.nets in
    let gate = entry_in nets c.args.gate.now in
    let some : 0 < c.args.t = let h = c.if-t-eq0.false in omega arith in
    let none : is_due (state_before answer new c.args.t gate) c.args.t ≡ false = ap (λ (s : State). is_due s c.args.t) (sym c.requires.state) ∙ sym c.is_due.ensures ∙ c.if-is_due.false in
    let before = c.inputs_at-before.ensures ∙ sym (map_twice (connection_in nets) (λ x. read_at answer new x (c.args.t - 1)) c.args.gate.now.inputs) in
    ap not c.is_same.ensures ∙ stirred_is answer new gate c.args.t some none c.args.inputs c.inputs_at-before.result c.requires.inputs before
