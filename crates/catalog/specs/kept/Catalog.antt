-- Records by key and by name: their keys and names, which all differ, and what takes their place.
use Rattle.std.specs.Prelude.{◌≢◌, ℕ, ◌==◌, not, if◌then◌else◌, List, map, Option, option_map, AllPairs}
use Rattle.std.specs.List.{filter, find, position_from}
use Rattle.catalog.specs.Catalog.{same_name}

module _ {R : Type 0} where
  -- the keys, in order
  abbrev pub keys_of : List (ℕ × R) → List ℕ
  keys_of entries = map (λ e. e.0) entries

  -- the place of the record under a key
  abbrev pub place_of : List (ℕ × R) → ℕ → Option ℕ
  place_of entries key = position_from (λ e. e.0 == key) 0 entries

  -- the entries with this record under the key
  abbrev pub with_record : List (ℕ × R) → ℕ → R → List (ℕ × R)
  with_record entries key item = map (λ e. (e.0, if e.0 == key then item else e.1)) entries

  -- the entries without that of the key
  abbrev pub without_key : List (ℕ × R) → ℕ → List (ℕ × R)
  without_key entries key = filter (λ e. not (e.0 == key)) entries

module _ {R : Type 0} (name_of : R → List ℕ) where
  -- the names, in order
  abbrev pub names_of : List (ℕ × R) → List (List ℕ)
  names_of entries = map (λ e. name_of e.1) entries

  -- the record of a name, with its key
  abbrev pub named : List (ℕ × R) → List ℕ → Option (ℕ × R)
  named entries name = find (λ e. same_name (name_of e.1) name) entries

  -- the key of the record of a name
  abbrev pub key_named : List (ℕ × R) → List ℕ → Option ℕ
  key_named entries name = option_map (λ e. e.0) (named entries name)

  -- no two records have the same key or the same name
  pub record AreDistinct (entries : List (ℕ × R)) : Type 0 where
    pub keys : AllPairs (λ a b. a ≢ b) (keys_of entries)
    pub names : AllPairs (λ a b. a ≢ b) (names_of entries)
