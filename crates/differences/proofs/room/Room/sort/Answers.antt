use Rattle.std.proofs.Common.{◌+◌, slice_index_or, arith}
use Rattle.differences.proofs.OrderLemmas.{in_order_by_steps, not_before}
use Rattle.differences.proofs.room.Room.sort.Goals as goal

pub returns-clause-order : goal.returns-clause-order
returns-clause-order c =
    let xs = c.sort_unstable.new.self.items in
    in_order_by_steps xs (λ k d within. not_before (slice_index_or xs (k + 1) d) (slice_index_or xs k d) (c.sort_unstable.ensures.sorted k d (omega arith) within))
