use Rattle.std.proofs.Common.{◌≡◌, ℕ, false, length}
use Rattle.scratch.specs.kept.Kept.{places_at}
use Rattle.scratch.specs.kept.Places.{has}
use Rattle.scratch.proofs.wiring.empty_lists.Given as goal

-- the lists so far
abbrev pub invariant-loop : goal.invariant-loop
invariant-loop l =
    record {
      none : (k m : ℕ) → has k (places_at l.all.items m) ≡ false;
      as_many : length l.all.items ≡ l.counter;
    }
