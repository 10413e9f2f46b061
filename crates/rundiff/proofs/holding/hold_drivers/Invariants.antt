use Rattle.std.proofs.Common.{◌≡◌, ℕ, take, false, nat_cmp, ◌||◌, ◌==◌}
use Rattle.std.specs.BTreeSet.{contains}
use Rattle.std.specs.List.{list_any}
use Rattle.std.specs.Option.{option_map_or}
use Rattle.catalog.specs.kept.Catalog.{place_of}
use Rattle.rundiff.proofs.holding.hold_drivers.Given as goal

-- the drivers so far are held
abbrev pub invariant-loop-driver : goal.invariant-loop-driver
invariant-loop-driver l = (p : ℕ) → contains nat_cmp l.held p
    ≡ (list_any (λ key. option_map_or (λ q. q == p) (place_of l.new.gates key) false) (take l.driver-index l.drivers) || contains nat_cmp l.fn.held p)
