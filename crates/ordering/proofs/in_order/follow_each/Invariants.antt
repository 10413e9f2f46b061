use Rattle.std.proofs.Common.{◌≡◌, ◌≤◌, ◌-◌, ℕ, true, suc, take, drop, length, ◌++◌}
use Rattle.design.specs.Keys.{netlist}
use Rattle.gateline.specs.kept.Known.{AreFound, IsTraced}
use Rattle.scratch.specs.kept.Places.{has}
use Rattle.ordering.specs.kept.Earlier.{begin_after}
use Rattle.ordering.specs.kept.Lines.{Fit}
use Rattle.ordering.specs.kept.Order.{may_follow, order_work_from}
use Rattle.ordering.proofs.in_order.follow_each.Given as goal

-- the gates so far have their traces and were asked, and the others may follow
abbrev pub invariant-loop-first : goal.invariant-loop-first
invariant-loop-first g l =
    record {
      within : l.first ≤ length l.order;
      follow : may_follow (netlist l.design) (take l.first l.order) (drop l.first l.order) ≡ true;
      fit : Fit (netlist l.design) l.lines;
      found : AreFound g.S.Stepper.answer (netlist l.design) l.lines.found.items l.lines.waves.items;
      traced : (p : ℕ) → has p (take l.first l.order) ≡ true → IsTraced g.S.Stepper.answer (netlist l.design) l.lines.traces.items p;
      asked : g.S.Stepper.asked l.stepper
          ≡ g.S.Stepper.asked l.fn.stepper ++ order_work_from g.S.Stepper.answer (netlist l.design) l.begin.old (begin_after l.begin.earlier) (suc (netlist l.design).horizon) (take l.first l.order);
      lost : g.S.Stepper.losses l.stepper ≡ g.S.Stepper.losses l.fn.stepper;
    }

abbrev pub decreases-loop-first : goal.decreases-loop-first
decreases-loop-first g l = length l.order - l.first
