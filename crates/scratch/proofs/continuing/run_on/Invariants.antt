use Rattle.std.proofs.Common.{◌≡◌, ◌≤◌, ◌-◌, suc}
use Rattle.design.specs.Keys.{netlist}
use Rattle.scratch.specs.kept.Stands.{Stands}
use Rattle.scratch.specs.Asked.{IsAskedInSomeOrder}
use Rattle.scratch.specs.kept.Open.{all_from, open_work_at}
use Rattle.scratch.proofs.continuing.run_on.Given as goal

-- the moments below `t` are done
abbrev pub invariant-loop-t : goal.invariant-loop-t
invariant-loop-t g l =
    let answer = g.S.Stepper.answer in
    let d = netlist l.fn.design in
    let is_open = g.B.Beside.is_open answer d l.fn.beside in
    record {
      stands : Stands answer d l.engine l.t;
      begun : l.fn.start ≤ l.t;
      within : l.t ≤ suc l.horizon;
      asked : IsAskedInSomeOrder (g.S.Stepper.asked l.fn.stepper) (g.S.Stepper.asked l.stepper) (all_from (open_work_at is_open answer d) l.fn.start l.t);
      losses : g.S.Stepper.losses l.stepper ≡ g.S.Stepper.losses l.fn.stepper;
      fits : g.B.Beside.fits answer d l.beside;
      same : g.B.Beside.is_open answer d l.beside ≡ is_open;
    }

abbrev pub decreases-loop-t : goal.decreases-loop-t
decreases-loop-t g l = suc l.horizon - l.t
