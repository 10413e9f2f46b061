use Rattle.std.proofs.Common.{◌≡◌, take, All}
use Rattle.std.specs.List.{flat_map}
use Rattle.gatestep.specs.Record.{at_moment}
use Rattle.gatestep.specs.Tasks.{IsReady}
use Rattle.design.specs.Keys.{netlist}
use Rattle.scratch.specs.kept.Open.{asked_at}
use Rattle.scratch.proofs.asking.find_open_tasks.Given as goal

-- the tasks so far
abbrev pub invariant-loop-i : goal.invariant-loop-i
invariant-loop-i g l =
    let answer = g.S.Stepper.answer in let d = netlist l.present.design.now in let t = l.present.t in
    let is_open = g.B.Beside.is_open answer d l.fn.beside in
    record {
      tasks : at_moment t l.tasks.items ≡ flat_map (asked_at is_open answer d t) (take l.i l.gates);
      ready : All (IsReady t) l.tasks.items;
      fits : g.B.Beside.fits answer d l.beside;
      same : g.B.Beside.is_open answer d l.beside ≡ is_open;
    }
