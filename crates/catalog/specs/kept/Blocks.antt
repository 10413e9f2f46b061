-- Keys that slabs give, a slab for each so many keys.
use Rattle.std.specs.Prelude.{◌≡◌, ◌≢◌, ◌/◌, ◌%◌, ◌<◌, ℕ, List, Option, None, Some, IsSomeAnd, slice_get}
use Rattle.std.specs.Arc.{arc_value}
use Rattle.std.specs.Global.{Global}
use Rattle.std.specs.declared.sync.Arc.{Arc}
use Rattle.slab.specs.Slab.{Slab, get}
use Rattle.catalog.specs.declared.blocks.TheConstants.{BLOCK}

-- the index that one slab has of a key of its own
abbrev pub index_at : Option (Arc (Slab ℕ) Global) → ℕ → Option ℕ
index_at None key = None
index_at (Some block) key = get (arc_value block) key

-- the index of a key
abbrev pub index_in : List (Arc (Slab ℕ) Global) → ℕ → Option ℕ
index_in blocks key = index_at (slice_get blocks (key / BLOCK)) (key % BLOCK)

-- the key has this index, and each other key what it had
pub record Changes (old new : List (Arc (Slab ℕ) Global)) (key : ℕ) (slot : Option ℕ) : Type 0 where
  pub changed : index_in new key ≡ slot
  pub others : (other : ℕ) → other ≢ key → index_in new other ≡ index_in old other

-- the slab is there, and the key that it gives next is one of its own
abbrev pub HasRoom : Option (Arc (Slab ℕ) Global) → Type 0
HasRoom block = IsSomeAnd block (λ b. (arc_value b).vacant_key < BLOCK)
