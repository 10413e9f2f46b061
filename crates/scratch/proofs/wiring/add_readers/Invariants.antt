use Rattle.std.proofs.Common.{◌≡◌, ◌<◌, ℕ, take, length}
use Rattle.std.specs.Prelude.{nat_eq, ◌||◌, ◌&&◌}
use Rattle.std.specs.List.{list_any}
use Rattle.scratch.specs.kept.Kept.{is_at, places_at}
use Rattle.scratch.specs.kept.Places.{has}
use Rattle.scratch.proofs.wiring.add_readers.Given as goal

-- the inputs so far
abbrev pub invariant-loop-input : goal.invariant-loop-input
invariant-loop-input l =
    record {
      readers : (k m : ℕ) → m < length l.fn.all.items → has k (places_at l.all.items m) ≡ (has k (places_at l.fn.all.items m) || (nat_eq k l.place && list_any (is_at m) (take l.input-index l.inputs)));
      as_many : length l.all.items ≡ length l.fn.all.items;
    }
