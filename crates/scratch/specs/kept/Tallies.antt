-- Of the nets that have many drivers it is kept how many of these give each value.
use Rattle.std.specs.Prelude.{◌≡◌, ◌<◌, ℕ, List, Option, Some, length, slice_get}
use Rattle.fourstate.specs.declared.value.Value.{Value}
use Rattle.design.specs.Netlist.{NetEntry, Netlist}
use Rattle.design.specs.kept.Places.{driver_places}
use Rattle.scratch.specs.kept.Kept.{values_at}
use Rattle.scratch.specs.kept.Tally.{tally_of}
use Rattle.scratch.specs.declared.tallies.Tallies.{Tallies}
use Rattle.scratch.specs.declared.tally.Tally.{Tally}

-- each tally is that of the drivers of the net at its place, where the drivers give these values
abbrev pub AreTallies : Netlist → List (Option Tally) → List Value → Type 0
AreTallies d tallies values =
    (m : ℕ) (tally : Tally) (n : NetEntry) → slice_get tallies m ≡ Some (Some tally) → slice_get d.nets m ≡ Some n → tally ≡ tally_of (values_at values (driver_places d.gates n.name))

-- the drivers are counted with these values; without a tally nothing need be counted
pub record Counts (d : Netlist) (t : Tallies) (currents : List Value) : Type 0 where
  pub nets : AreTallies d t.nets.items t.counted.items
  pub counted : 0 < length t.nets.items → t.counted.items ≡ currents
