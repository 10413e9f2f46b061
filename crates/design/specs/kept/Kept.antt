-- What is kept beside the nets and the gates: the count of the points, and by net key the keys of the gates that read the
-- net, and of those that drive it.
use Rattle.std.specs.Prelude.{◌≡◌, Bool, false, ℕ, nat_lt, List}
use Rattle.std.specs.Option.{option_map_or}
use Rattle.catalog.specs.Catalog.{records_of}
use Rattle.catalog.specs.kept.Catalog.{place_of}
use Rattle.design.specs.Keys.{Keyed, KeyedGate, netlist}
use Rattle.design.specs.kept.Keys.{AreKeys, driver_keys, reader_keys}
use Rattle.design.specs.kept.Lawful.{IsDesign}
use Rattle.design.specs.kept.Lists.{list_of}
use Rattle.design.specs.Netlist.{point_total}

-- what is kept beside a design
pub record IsKept (d : Keyed) (points : ℕ) (read driven : List (List ℕ)) : Type 0 where
  pub lawful : IsDesign (netlist d)
  pub keys : AreKeys d
  pub points_counted : points ≡ point_total (records_of d.nets)
  pub readers_listed : (key : ℕ) → list_of read key ≡ reader_keys d key
  pub drivers_listed : (key : ℕ) → list_of driven key ≡ driver_keys d key

-- the gate of a key stands before this place
abbrev pub stands_before : List (ℕ × KeyedGate) → ℕ → ℕ → Bool
stands_before gates place key = option_map_or (λ other. nat_lt other place) (place_of gates key) false
