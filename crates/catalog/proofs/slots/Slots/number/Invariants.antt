use Rattle.std.proofs.Common.{◌≡◌, ℕ, ◌<◌, Some}
use Rattle.catalog.specs.kept.Blocks.{index_in}
use Rattle.catalog.specs.kept.Slots.{slot_at}
use Rattle.catalog.proofs.NumberLemmas.{AreNumbered}
use Rattle.catalog.proofs.slots.Slots.number.Given as goal

abbrev pub invariant-loop-index : goal.invariant-loop-index
invariant-loop-index g l = AreNumbered (slot_at l.fn.self) (index_in l.blocks.items) l.order l.index × ((key : ℕ) → key < l.straight → index_in l.blocks.items key ≡ Some key)
