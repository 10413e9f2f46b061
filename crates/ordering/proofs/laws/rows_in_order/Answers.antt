use Rattle.ordering.proofs.Orders.{rows_ordered}
use Rattle.ordering.proofs.laws.rows_in_order.Goals as goal

pub returns-clause-rows : goal.returns-clause-rows
returns-clause-rows g c = λ d order ordered asks times. rows_ordered d order ordered g.S.Stepper.answer asks times
