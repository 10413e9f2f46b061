use Rattle.std.proofs.Common.{◌≡◌, ◌<◌, ◌∙◌, ap, refl, ℕ, Bool, false, length, slice_get, arith}
use Rattle.std.specs.Prelude.{nat_eq, ◌||◌, ◌&&◌}
use Rattle.std.specs.List.{list_any}
use Rattle.std.specs.Option.{option_map_or}
use Rattle.std.proofs.lemmas.Option.{slice_get_read}
use Rattle.design.specs.Keys.{netlist}
use Rattle.scratch.specs.kept.Cells.{CellRecord}
use Rattle.scratch.specs.kept.Kept.{is_at, places_at}
use Rattle.scratch.specs.kept.Places.{has}
use Rattle.scratch.proofs.Readers.{none_first, one_cell_more, readers_are}
use Rattle.scratch.proofs.wiring.all_readers.Goals as goal

pub loop-place-init : goal.loop-place-init
loop-place-init c =
    record {
      readers = λ k m low. c.in_ok-all.ensures.none k m ∙ none_first k (option_map_or (λ (cell : CellRecord). list_any (is_at m) cell.inputs) (slice_get c.args.cells.now k) false);
      as_many = c.in_ok-all.ensures.as_many ∙ c.net_count.ensures;
    }

pub loop-place-preserved : goal.loop-place-preserved
loop-place-preserved c =
    let cells = c.args.cells.now in let place = c.loop-place.place in let cell = c.index-cells-place.result in
    let at = slice_get_read cells (length cells) place cell refl c.loop-place-test.true c.index-cells-place.is in
    record {
      readers = λ k m low.
          let y = list_any (is_at m) cell.inputs in
          let f : ℕ → Bool = λ j. option_map_or (λ (cell : CellRecord). list_any (is_at m) cell.inputs) (slice_get cells j) false in
          let is : f place ≡ y = ap (λ o. option_map_or (λ (cell : CellRecord). list_any (is_at m) cell.inputs) o false) at in
          let below : m < length c.loop-place.all.items = rw c.loop-place.invariant.as_many low in
          c.in_ok-add_readers.ensures.readers k m below
          ∙ ap (λ l. has k (places_at c.loop-place.all.items m) || (nat_eq k place && list_any (is_at m) l)) c.inputs.ensures.inputs
          ∙ ap (λ b. b || (nat_eq k place && y)) (c.loop-place.invariant.readers k m low) ∙ one_cell_more f k place y is;
      as_many = c.in_ok-add_readers.ensures.as_many ∙ c.loop-place.invariant.as_many;
    }

pub returns : goal.returns
returns c =
    readers_are (netlist c.args.design.now) c.lawful.ensures.design.distinct_nets c.args.cells.now c.requires c.loop-place.all.items c.loop-place.invariant.as_many c.loop-place.place
    (let past = c.loop-place-test.false in omega arith) c.loop-place.invariant.readers
