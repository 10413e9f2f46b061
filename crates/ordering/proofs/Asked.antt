-- What was asked, where the order is left open.
use Rattle.std.proofs.Common.{◌≡◌, true, subst, sym, ℕ, List, ◌++◌, None}
use Rattle.gatestep.specs.Step.{State, Evaluation}
use Rattle.gatestep.proofs.Jobs.{part_moved}
use Rattle.design.specs.Netlist.{Netlist}
use Rattle.scratch.specs.Asked.{IsAskedInPart, IsAskedInSomeOrder}
use Rattle.scratch.specs.Work.{work_below}
use Rattle.scratch.specs.kept.Work.{work_from}
use Rattle.ordering.specs.kept.Order.{is_order, order_work_from}
use Rattle.ordering.proofs.Columns.{all_from_first}
use Rattle.ordering.proofs.Orders.{work_ordered}

module _ (answer : Evaluation → ℕ → State) (d : Netlist) (n : ℕ) (order : List ℕ) (ordered : is_order d order ≡ true) (old new : List (Evaluation × ℕ)) where
  -- gate after gate all is asked from a moment on
  pub gate_by_gate : (a : ℕ) → new ≡ old ++ order_work_from answer d None a n order → IsAskedInSomeOrder old new (work_from answer d a n)
  gate_by_gate a e = (order_work_from answer d None a n order, work_ordered d order ordered answer a n, e)

  -- or a part
  pub gates_in_part : (a : ℕ) → IsAskedInPart old new (order_work_from answer d None a n order) → IsAskedInPart old new (work_from answer d a n)
  gates_in_part a part = (part.0, part_moved (work_from answer d a n) (order_work_from answer d None a n order) part.0 (work_ordered d order ordered answer a n) part.1, part.2)

  -- and from moment 0 on
  pub gate_by_gate_all : new ≡ old ++ order_work_from answer d None 0 n order → IsAskedInSomeOrder old new (work_below answer d n)
  gate_by_gate_all e = subst (IsAskedInSomeOrder old new) (sym (all_from_first answer d n)) (gate_by_gate 0 e)

  pub gates_in_part_all : IsAskedInPart old new (order_work_from answer d None 0 n order) → IsAskedInPart old new (work_below answer d n)
  gates_in_part_all part = subst (IsAskedInPart old new) (sym (all_from_first answer d n)) (gates_in_part 0 part)
