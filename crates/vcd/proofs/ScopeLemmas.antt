-- Names, scope by scope.
use Rattle.std.proofs.Common.{◌≡◌, ◌+◌, ◌<◌, ◌≤◌, ℕ, Bool, true, false, cond, refl, ap, ◌∙◌, List, [], ◌∷◌, length, take, drop, Some, None, arith}
use Rattle.std.specs.Prelude.{◌==◌, nat_lt, position}
use Rattle.std.specs.List.{position_or_len}
use Rattle.std.proofs.lemmas.Bool.{ltb-false}
use Rattle.std.proofs.lemmas.List.Sums.{fails_before_first, position_or_len_is}
use Rattle.std.proofs.lemmas.List.Splits.{length-slice_split, slice_split_first, slice_split_none}
use Rattle.std.proofs.lemmas.List.Quantifiers.{position-Some}
use Rattle.design.specs.Names.{parts}
use Rattle.vcd.specs.Scopes.{scopes_in, last_in, scopes_of, reference_of}

abbrev is_dot : ℕ → Bool
is_dot byte = byte == 46

-- up to the first dot
parts_by : (name : List ℕ) (i : ℕ) → position is_dot name ≡ Some i → parts name ≡ take i name ∷ parts (drop (i + 1) name)
parts_by name i at =
    let found = position-Some is_dot name i 0 at in
    let first : position_or_len is_dot name ≡ i = position_or_len_is is_dot name i 0 (let below = found.0 in omega arith) found.2 (λ below. found.1) in
    let below = found.0 in
    slice_split_first is_dot name 0 (omega (arith, first)) ∙ ap (λ (n : ℕ). take n name ∷ parts (drop (n + 1) name)) first

-- without a dot
none_found : (n len : ℕ) (t : Bool) → nat_lt n len ≡ t → cond t (Some n) None ≡ None → len ≤ n
none_found n len true e none = absurd (cc)
none_found n len false e none = ltb-false n len e

parts_whole : (name : List ℕ) → position is_dot name ≡ None → parts name ≡ name ∷ []
parts_whole name none =
    let all : length name ≤ position_or_len is_dot name = none_found _ _ _ refl none in
    slice_split_none is_dot name (λ k d below. fails_before_first is_dot name k d (omega arith))

-- there is a last part
some_part : (name : List ℕ) → 0 < length (parts name)
some_part name = omega (arith, length-slice_split is_dot name)

scopes_in-more : (scope : List ℕ) (found : List (List ℕ)) → 0 < length found → scopes_in (scope ∷ found) ≡ scope ∷ scopes_in found
scopes_in-more scope [] some = absurd (omega arith)
scopes_in-more scope (part ∷ found) some = refl

last_in-more : (scope : List ℕ) (found : List (List ℕ)) → 0 < length found → last_in (scope ∷ found) ≡ last_in found
last_in-more scope [] some = absurd (omega arith)
last_in-more scope (part ∷ found) some = refl

-- a name with a dot
pub scopes_of-first : (name : List ℕ) (i : ℕ) → position (λ byte. byte == 46) name ≡ Some i → scopes_of name ≡ take i name ∷ scopes_of (drop (i + 1) name)
unfolding scopes_of
scopes_of-first name i at = ap scopes_in (parts_by name i at) ∙ scopes_in-more (take i name) (parts (drop (i + 1) name)) (some_part (drop (i + 1) name))

pub reference_of-first : (name : List ℕ) (i : ℕ) → position (λ byte. byte == 46) name ≡ Some i → reference_of name ≡ reference_of (drop (i + 1) name)
unfolding reference_of
reference_of-first name i at = ap last_in (parts_by name i at) ∙ last_in-more (take i name) (parts (drop (i + 1) name)) (some_part (drop (i + 1) name))

-- a name without a dot
pub scopes_of-none : (name : List ℕ) → position (λ byte. byte == 46) name ≡ None → scopes_of name ≡ []
unfolding scopes_of
scopes_of-none name none = ap scopes_in (parts_whole name none)

pub reference_of-none : (name : List ℕ) → position (λ byte. byte == 46) name ≡ None → reference_of name ≡ name
unfolding reference_of
reference_of-none name none = ap last_in (parts_whole name none)
