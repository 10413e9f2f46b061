use Rattle.std.proofs.Common.{◌≡◌, ℕ, true, suc, take, ◌++◌}
use Rattle.std.specs.Prelude.{All}
use Rattle.design.specs.Keys.{netlist}
use Rattle.gateline.specs.kept.Known.{AreFound, IsTraced}
use Rattle.scratch.specs.kept.Places.{has}
use Rattle.ordering.specs.kept.Come.{IsReady, StayTraced}
use Rattle.ordering.specs.kept.Earlier.{begin_after}
use Rattle.ordering.specs.kept.Lines.{Fit}
use Rattle.ordering.specs.kept.Order.{order_work_from}
use Rattle.ordering.proofs.following.follow_here.Given as goal

-- the gates so far have their traces and were asked, and all are still ready
abbrev pub invariant-loop-place : goal.invariant-loop-place
invariant-loop-place g l =
    record {
      ready : All (IsReady g.S.Stepper.answer (netlist l.design) l.wiring l.lines.traces.items) l.places;
      fit : Fit (netlist l.design) l.lines;
      found : AreFound g.S.Stepper.answer (netlist l.design) l.lines.found.items l.lines.waves.items;
      traced : (p : ℕ) → has p (take l.place-index l.places) ≡ true → IsTraced g.S.Stepper.answer (netlist l.design) l.lines.traces.items p;
      kept : StayTraced g.S.Stepper.answer (netlist l.design) l.fn.lines.traces.items l.lines.traces.items;
      asked : g.S.Stepper.asked l.stepper
          ≡ g.S.Stepper.asked l.fn.stepper ++ order_work_from g.S.Stepper.answer (netlist l.design) l.begin.old (begin_after l.begin.earlier) (suc (netlist l.design).horizon) (take l.place-index l.places);
      lost : g.S.Stepper.losses l.stepper ≡ g.S.Stepper.losses l.fn.stepper;
    }
