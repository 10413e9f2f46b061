-- A list of gate keys, wherever it stands.
use Rattle.std.specs.Prelude.{ℕ, List}
use Rattle.std.specs.Arc.{arc_value}
use Rattle.design.specs.declared.key_list.Keys.{Keys}
use Rattle.design.specs.declared.key_list.Keys.TheVariants.{Here, Shared}

abbrev pub keys_in : Keys → List ℕ
keys_in (Here few) = few
keys_in (Shared keys) = (arc_value keys).items
