use Rattle.std.proofs.Common.{◌≡◌, ◌<◌, ℕ, length, false, slice_get, nat_lt}
use Rattle.std.specs.Prelude.{◌&&◌}
use Rattle.std.specs.List.{list_any}
use Rattle.std.specs.Option.{option_map_or}
use Rattle.design.specs.Keys.{netlist}
use Rattle.scratch.specs.kept.Cells.{CellRecord}
use Rattle.scratch.specs.kept.Kept.{is_at, places_at}
use Rattle.scratch.specs.kept.Places.{has}
use Rattle.scratch.proofs.wiring.all_readers.Given as goal

-- the readers among the cells so far
abbrev pub invariant-loop-place : goal.invariant-loop-place
invariant-loop-place l =
    record {
      readers : (k m : ℕ) → m < length (netlist l.design).nets → has k (places_at l.all.items m) ≡ (nat_lt k l.place && option_map_or (λ (cell : CellRecord). list_any (is_at m) cell.inputs) (slice_get l.cells k) false);
      as_many : length l.all.items ≡ length (netlist l.design).nets;
    }
