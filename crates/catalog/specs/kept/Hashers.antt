-- How names are hashed.
use Rattle.std.specs.Prelude.{Option, Some, None}
use Rattle.std.specs.Hash.DefaultHasher.{initial}
use Rattle.std.specs.RandomState.{initial_hasher}
use Rattle.std.specs.declared.collections.hash_map.RandomState.{RandomState}
use Rattle.std.specs.declared.hash.DefaultHasher.{DefaultHasher}
use Rattle.catalog.specs.declared.hasher.NameHasher.{NameHasher}

-- the hasher that begins with these keys
abbrev pub hasher_from : Option RandomState → DefaultHasher
hasher_from None = initial
hasher_from (Some state) = initial_hasher state

-- the hasher of each name
abbrev pub hasher_for : NameHasher → DefaultHasher
hasher_for hasher = hasher_from hasher.state
