-- The names that a module has taken.
use Rattle.std.proofs.Common.{◌≡◌, ℕ, zero, suc, ◌≤◌, Bool, true, false, cond, ◌||◌, nat_eq, List, [], ◌∷◌, ◌++◌, Option, Some, None, inl, inr, refl, sym, subst, ◌∙◌, arith}
use Rattle.std.proofs.lemmas.Bool.{cases_eq, eq-eqb, or_parts, or_left, or_right}
use Rattle.std.proofs.lemmas.List.Folds.{list_any-append}
use Rattle.std.specs.List.{list_any}
use Rattle.std.specs.Option.{option_map_or}
use Rattle.vtext.specs.GateNames.{is_name_taken, is_part_taken, is_taken, part_bytes, with_name_taken, with_parts_taken, with_taken}
use Rattle.vtext.specs.Names.{number_of}

-- A number.

pub taken_itself : (taken : List ℕ) (n : ℕ) → is_taken (with_taken taken n) n ≡ true
taken_itself taken n = step (list_any (nat_eq n) taken) refl
  where
    step : (there : Bool) → list_any (nat_eq n) taken ≡ there → list_any (nat_eq n) (cond there taken (taken ++ n ∷ [])) ≡ true
    step true h = h
    step false h = list_any-append (nat_eq n) taken (n ∷ []) ∙ or_right (list_any (nat_eq n) taken) (nat_eq n n || false) (or_left (nat_eq n n) false (eq-eqb n n refl))

pub taken_kept : (taken : List ℕ) (n m : ℕ) → is_taken taken m ≡ true → is_taken (with_taken taken n) m ≡ true
taken_kept taken n m h = step (list_any (nat_eq n) taken)
  where
    step : (there : Bool) → list_any (nat_eq m) (cond there taken (taken ++ n ∷ [])) ≡ true
    step true = h
    step false = list_any-append (nat_eq m) taken (n ∷ []) ∙ or_left (list_any (nat_eq m) taken) (nat_eq m n || false) h

-- Bytes.

-- what the table has of these bytes is taken
abbrev pub IsHeld : List (List ℕ) → List ℕ → List ℕ → Type 0
IsHeld names taken bytes = (m : ℕ) → number_of names bytes ≡ Some m → is_taken taken m ≡ true

-- all that was taken still is
abbrev pub Keeps : List ℕ → List ℕ → Type 0
Keeps taken later = (m : ℕ) → is_taken taken m ≡ true → is_taken later m ≡ true

pub name_kept : (names : List (List ℕ)) (taken bytes : List ℕ) → Keeps taken (with_name_taken names taken bytes)
name_kept names taken bytes m h = step (number_of names bytes)
  where
    step : (found : Option ℕ) → is_taken (option_map_or (with_taken taken) found taken) m ≡ true
    step None = h
    step (Some n) = taken_kept taken n m h

pub name_held : (names : List (List ℕ)) (taken bytes : List ℕ) → IsHeld names (with_name_taken names taken bytes) bytes
name_held names taken bytes m e =
    let P : Option ℕ → Type 0 = λ found. is_taken (option_map_or (with_taken taken) found taken) m ≡ true in
    subst P (sym e) (taken_itself taken m)

pub parts_kept : (names : List (List ℕ)) (taken base : List ℕ) (count : ℕ) → Keeps taken (with_parts_taken names taken base count)
parts_kept names taken base zero m h = h
parts_kept names taken base (suc count) m h =
    name_kept names (with_parts_taken names taken base count) (part_bytes base (suc count)) m (parts_kept names taken base count m h)

pub part_held : (names : List (List ℕ)) (taken base : List ℕ) (count part : ℕ) → 1 ≤ part → part ≤ count
    → IsHeld names (with_parts_taken names taken base count) (part_bytes base part)
part_held names taken base zero part low high = absurd (omega arith)
part_held names taken base (suc count) part low high =
    let before : List ℕ = with_parts_taken names taken base count in
    elim (cases_eq part (suc count)) [
      | inl same ↦ subst (λ (k : ℕ). IsHeld names (with_name_taken names before (part_bytes base (suc count))) (part_bytes base k)) (sym same) (name_held names before (part_bytes base (suc count)))
      | inr other ↦ λ m e. name_kept names before (part_bytes base (suc count)) m (part_held names taken base count part low (omega arith) m e)
    ]

pub part_free : (names : List (List ℕ)) (taken base : List ℕ) (count part : ℕ) → is_part_taken names taken base count ≡ false → 1 ≤ part → part ≤ count
    → is_name_taken names taken (part_bytes base part) ≡ false
part_free names taken base zero part free low high = absurd (omega arith)
part_free names taken base (suc count) part free low high =
    let parts = or_parts (is_part_taken names taken base count) (is_name_taken names taken (part_bytes base (suc count))) free in
    elim (cases_eq part (suc count)) [
      | inl same ↦ subst (λ (k : ℕ). is_name_taken names taken (part_bytes base k) ≡ false) (sym same) parts.1
      | inr other ↦ part_free names taken base count part parts.0 low (omega arith)
    ]

-- bytes whose number would be taken and is not have no number
pub unnumbered : (names : List (List ℕ)) (taken bytes : List ℕ) → IsHeld names taken bytes → is_name_taken names taken bytes ≡ false → number_of names bytes ≡ None
unnumbered names taken bytes held free = step (number_of names bytes) held free
  where
    step : (found : Option ℕ) → ((m : ℕ) → found ≡ Some m → is_taken taken m ≡ true) → option_map_or (is_taken taken) found false ≡ false → found ≡ None
    step None holds none = refl
    step (Some m) holds none = let some = holds m refl in absurd cc
