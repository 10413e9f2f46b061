-- Where the entry under each key stands.
use Rattle.std.specs.Prelude.{ℕ, Option, Some, nat_lt, if◌then◌else◌}
use Rattle.catalog.specs.kept.Blocks.{index_in}
use Rattle.catalog.specs.declared.slots.Slots.{Slots}

-- the index of a key in the order
abbrev pub slot_at : Slots → ℕ → Option ℕ
slot_at slots key = if nat_lt key slots.straight then Some key else index_in slots.blocks.items key
