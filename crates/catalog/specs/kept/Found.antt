-- The keys that names had last.
use Rattle.std.specs.Prelude.{ℕ, List, Option, Some, None}
use Rattle.std.specs.Arc.{arc_value}
use Rattle.std.specs.Global.{Global}
use Rattle.std.specs.HashMap.{HashMap, get_by}
use Rattle.std.specs.Option.{option_or}
use Rattle.std.specs.declared.sync.Arc.{Arc}
use Rattle.catalog.specs.Catalog.{same_name}
use Rattle.catalog.specs.declared.by_name.ByName.{ByName}
use Rattle.catalog.specs.declared.hasher.NameHasher.{NameHasher}
use Rattle.catalog.specs.declared.names.Names.{Names}

module _ {R : Type 0} (name_of : R → List ℕ) where
  -- the key under the record of a name
  abbrev pub key_under : HashMap (ByName R) ℕ NameHasher → List ℕ → Option ℕ
  key_under map name = get_by (λ k. same_name name (name_of k.record)) map

  -- the key of a name in one part
  abbrev pub found_in : Option (Arc (HashMap (ByName R) ℕ NameHasher) Global) → List ℕ → Option ℕ
  found_in None name = None
  found_in (Some map) name = key_under (arc_value map) name

  -- the key that a name had last
  abbrev pub found : Names R → List ℕ → Option ℕ
  found names name = option_or (found_in names.added name) (found_in names.base name)
