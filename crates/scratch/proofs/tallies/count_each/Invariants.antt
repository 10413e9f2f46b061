use Rattle.std.proofs.Common.{◌≡◌, ℕ, Some, length, slice_get}
use Rattle.scratch.specs.kept.Kept.{places_at, values_at}
use Rattle.scratch.specs.kept.Tally.{tally_of}
use Rattle.scratch.specs.declared.tally.Tally.{Tally}
use Rattle.scratch.proofs.tallies.count_each.Given as goal

-- the tallies so far
abbrev pub invariant-loop-places : goal.invariant-loop-places
invariant-loop-places l =
    record {
      tallies : (m : ℕ) (tally : Tally) → slice_get l.nets.items m ≡ Some (Some tally) → tally ≡ tally_of (values_at l.values (places_at l.drivers m));
      as_many : length l.nets.items ≡ l.places-index;
    }
