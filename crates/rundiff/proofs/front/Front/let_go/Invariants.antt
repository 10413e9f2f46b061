use Rattle.std.proofs.Common.{◌≡◌, suc}
use Rattle.design.specs.Keys.{netlist}
use Rattle.rundiff.specs.kept.Fronts.{IsFront}
use Rattle.rundiff.proofs.front.Front.let_go.Given as goal

-- the front stays right
abbrev pub invariant-loop-i : goal.invariant-loop-i
invariant-loop-i g l = record {
  front : IsFront g.S.Stepper.answer (netlist l.former.old.now) (netlist l.former.new.now) l.self (suc l.t);
  outcomes : l.self.outcomes ≡ l.fn.self.outcomes;
  done : l.self.done ≡ l.fn.self.done;
}
