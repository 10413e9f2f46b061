use Rattle.std.proofs.Common.{◌≡◌, ℕ, take, false, ◌||◌, ◌==◌}
use Rattle.std.specs.List.{list_any}
use Rattle.std.specs.Option.{option_map_or}
use Rattle.catalog.specs.kept.Catalog.{place_of}
use Rattle.rundiff.specs.kept.Places.{is_among}
use Rattle.rundiff.proofs.spreading.add_drivers_of.Given as goal

-- the drivers so far are added
abbrev pub invariant-loop-driver : goal.invariant-loop-driver
invariant-loop-driver l = (q : ℕ) → is_among l.gates.items q
    ≡ (list_any (λ key. option_map_or (λ p. p == q) (place_of l.new.gates key) false) (take l.driver-index l.drivers) || is_among l.fn.gates.items q)
