-- What the reference implementation keeps.
use Rattle.std.specs.Prelude.{ℕ, ◌<◌, List, All}
use Rattle.catalog.specs.kept.Catalog.{AreDistinct, keys_of}

-- no two entries have the same key or name, and the next key is none of theirs
pub record AreKept {R : Type 0} (name_of : R → List ℕ) (entries : List (ℕ × R)) (next_key : ℕ) : Type 0 where
  pub distinct : AreDistinct name_of entries
  pub below : All (λ key. key < next_key) (keys_of entries)
