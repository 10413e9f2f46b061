use Rattle.std.proofs.Common.{◌≡◌, [], length, All}
use Rattle.event_queue.proofs.row.new_lists.Given as goal

abbrev pub invariant-loop : goal.invariant-loop
invariant-loop l =
    record {
      many : length l.lists.items ≡ l.counter;
      empty : All (λ list. list.items ≡ []) l.lists.items;
    }
