use Rattle.std.proofs.Common.{◌≡◌, ℕ, take}
use Rattle.std.specs.Prelude.{◌||◌}
use Rattle.std.specs.List.{list_any}
use Rattle.scratch.specs.kept.Kept.{places_at}
use Rattle.scratch.specs.kept.Places.{has}
use Rattle.scratch.proofs.stirring.insert_all_readers.Given as goal

-- the readers so far
abbrev pub invariant-loop-net : goal.invariant-loop-net
invariant-loop-net l =
    (k : ℕ) → has k l.gates ≡ (has k l.fn.gates || list_any (λ m. has k (places_at l.wiring.readers.items m)) (take l.net-index l.nets))
