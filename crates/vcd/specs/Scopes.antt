-- The scopes that names stand in (IEEE 1364-2005, 18.2.3: $scope and $upscope).
use Rattle.std.specs.Prelude.{ℕ, if◌then◌else◌, List, [], ◌∷◌, ◌++◌, codes}
use Rattle.std.specs.List.{flat_map}
use Rattle.design.specs.Names.{parts, same_name}

-- the parts before the last one, and the last one
abbrev pub scopes_in : List (List ℕ) → List (List ℕ)
scopes_in [] = []
scopes_in (part ∷ []) = []
scopes_in (part ∷ next ∷ parts) = part ∷ scopes_in (next ∷ parts)

abbrev pub last_in : List (List ℕ) → List ℕ
last_in [] = []
last_in (part ∷ []) = part
last_in (part ∷ next ∷ parts) = last_in (next ∷ parts)

-- the scopes of a name, outermost first: its parts before the last dot
unfoldable pub scopes_of : List ℕ → List (List ℕ)
scopes_of name = scopes_in (parts name)

-- the name within its scopes: its last part
unfoldable pub reference_of : List ℕ → List ℕ
reference_of name = last_in (parts name)

-- Lines.

abbrev pub open_line : List ℕ → List ℕ
open_line scope = codes "$scope module " ++ scope ++ codes " $end\n"

abbrev pub close_line : List ℕ
close_line = codes "$upscope $end\n"

abbrev pub open_lines : List (List ℕ) → List ℕ
open_lines scopes = flat_map open_line scopes

abbrev pub close_lines : List (List ℕ) → List ℕ
close_lines scopes = flat_map (λ scope. close_line) scopes

-- from some scopes to others: those that they share stay open; of the rest the first ones are closed, from the innermost,
-- and the other ones opened
abbrev pub scope_lines : List (List ℕ) → List (List ℕ) → List ℕ
scope_lines (from ∷ froms) (to ∷ tos) =
    if same_name from to then scope_lines froms tos else close_lines (from ∷ froms) ++ open_lines (to ∷ tos)
scope_lines froms tos = close_lines froms ++ open_lines tos
