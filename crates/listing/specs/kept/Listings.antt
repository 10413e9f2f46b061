-- The names of gates by their keys.
use Rattle.std.specs.Prelude.{ℕ, List, []}
use Rattle.std.specs.List.{flat_map}
use Rattle.std.specs.Option.{option_map_or}
use Rattle.catalog.specs.Catalog.{record_at}
use Rattle.design.specs.Keys.{KeyedGate}
use Rattle.listing.specs.Lines.{name_line}

-- the names of the gates of these keys
abbrev pub names_at : List (ℕ × KeyedGate) → List ℕ → List ℕ
names_at gates keys = flat_map (λ key. name_line (option_map_or (λ g. g.name) (record_at gates key) [])) keys
