use Rattle.std.proofs.Common.{◌≡◌, ◌<◌, ◌++◌, ◌-◌, min, suc}
use Rattle.gateline.proofs.walk.Walk.go_on.Given as goal
use Rattle.gateline.specs.kept.Line.{line_work_from}
use Rattle.gateline.specs.kept.OldLines.{line_if, wanted_by}
use Rattle.gateline.specs.kept.Readers.{next_among}
use Rattle.gateline.specs.kept.Walks.{IsAt}
use Rattle.gateline.specs.kept.Waves.{inputs_by}

-- the moments before `t` are done, and nothing happens at it where it lies behind the last
abbrev pub invariant-loop-t : goal.invariant-loop-t
invariant-loop-t g l =
    record {
      at : IsAt g.S.Stepper.answer l.cell l.waves l.situation l.course (min l.last (l.t - 1));
      from : l.begin < l.t;
      next : min l.last (l.t - 1) < next_among l.course.readers.items;
      beside : l.course.beside ≡ l.fn.self.course.beside;
      asked : g.S.Stepper.asked l.stepper ≡ g.S.Stepper.asked l.fn.stepper
          ++ line_work_from g.S.Stepper.answer l.cell.kind l.cell.delays (inputs_by l.waves l.cell.inputs) (wanted_by (line_if l.fn.self.course.beside) l.cell.inputs) (suc l.begin) (suc (min l.last (l.t - 1)));
      lost : g.S.Stepper.losses l.stepper ≡ g.S.Stepper.losses l.fn.stepper;
    }

abbrev pub decreases-loop-t : goal.decreases-loop-t
decreases-loop-t g l = suc l.last - l.t
