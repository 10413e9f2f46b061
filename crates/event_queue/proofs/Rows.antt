-- What is noted for moments in a row.
use Rattle.std.proofs.Common.{◌≡◌, ◌≢◌, ◌<◌, ◌≤◌, ◌+◌, ◌-◌, ◌%◌, ◌∙◌, ap, sym, subst, refl, Bool, true, false, cond, ℕ, suc, List, [], ◌∷◌, ◌++◌, Some, length, get_or, take, drop, set, map, Vec, Global, All, IsTrue, ◌↔◌, ◌⊎◌, inl, inr, length-drop, length-take, arith}
use Rattle.std.specs.Map.{lookup}
use Rattle.std.specs.Option.{option_map_or}
use Rattle.std.specs.Ordering.{is_eq, nat_cmp}
use Rattle.std.specs.Prelude.{◌==◌, nat_eq}
use Rattle.std.proofs.lemmas.Bool.Decides.{nat_tests}
use Rattle.std.proofs.lemmas.Grind.{get_or-set_at}
use Rattle.std.proofs.Math.Seq.{map-set_same}
use Rattle.std.proofs.lemmas.List.{get_or-drop, get_or-take, get_or-append-add, get_or_append_left, get_or_past, get_or_default, get_or-map, get_or-set_other, length-append, length-map, length-set, map-set}
use Rattle.event_queue.specs.kept.Noted.{AreSame, IsAdded, IsTaken, noted}
use Rattle.event_queue.specs.kept.Lists.{in_ring, in_row}
use Rattle.event_queue.proofs.Moments.{same_moment}

pub either : (a b : ℕ) → (a < b) ⊎ (b ≤ a)
either a b = search arith

first_by : (from t : ℕ) (list : List ℕ) (lists : List (List ℕ)) (b : Bool) → nat_eq t from ≡ b → from ≤ t →
    (from + 1 ≤ t → noted (in_row (from + 1) lists) t ≡ get_or lists (t - (from + 1)) []) →
    option_map_or (λ numbers. numbers) (cond b (Some list) (lookup (λ moment. is_eq (nat_cmp t moment)) (in_row (from + 1) lists))) [] ≡ get_or (list ∷ lists) (t - from) []
first_by from t list lists true same low later = let none : t - from ≡ 0 = grind (arith, nat_tests) in rw none refl
first_by from t list lists false apart low later =
    let above : from + 1 ≤ t = grind (arith, nat_tests) in
    let next : t - from ≡ suc (t - (from + 1)) = omega arith in
    rw next (later above)

-- a moment of the row has the list at its place
pub within : (from : ℕ) (lists : List (List ℕ)) (t : ℕ) → from ≤ t → noted (in_row from lists) t ≡ get_or lists (t - from) []
within from [] t low = refl
within from (list ∷ lists) t low =
    ap (λ (b : Bool). option_map_or (λ numbers. numbers) (cond b (Some list) (lookup (λ moment. is_eq (nat_cmp t moment)) (in_row (from + 1) lists))) []) (same_moment t from)
    ∙ first_by from t list lists (nat_eq t from) refl low (within (from + 1) lists t)

-- one before it has none
pub before : (from : ℕ) (lists : List (List ℕ)) (t : ℕ) → t < from → noted (in_row from lists) t ≡ []
before from [] t low = refl
before from (list ∷ lists) t low =
    let apart : nat_eq t from ≡ false = grind (arith, nat_tests) in
    ap (λ (b : Bool). option_map_or (λ numbers. numbers) (cond b (Some list) (lookup (λ moment. is_eq (nat_cmp t moment)) (in_row (from + 1) lists))) []) (same_moment t from ∙ apart)
    ∙ before (from + 1) lists t (omega arith)

-- The lists of a ring: a moment that is near has the list at its remainder.

abbrev Place : ℕ → ℕ → Type 0
Place from u = ((u < from) ⊎ (from + 64 ≤ u)) ⊎ ((from ≤ u) × (u < from + 64))

place_by : (from u : ℕ) → (u < from) ⊎ (from ≤ u) → (u < from + 64) ⊎ (from + 64 ≤ u) → Place from u
place_by from u (inl under) _ = inl (inl under)
place_by from u (inr low) (inl high) = inr (low, high)
place_by from u (inr low) (inr past) = inl (inr past)

place_of : (from u : ℕ) → Place from u
place_of from u = place_by from u (either u from) (either u (from + 64))

abbrev pub IsWhole : List (List ℕ) → Type 0
IsWhole lists = 0 < length lists → length lists ≡ 64

module _ (from : ℕ) (lists : List (List ℕ)) (whole : IsWhole lists) where
  abbrev k : ℕ
  k = from % 64

  abbrev turned : List (List ℕ)
  turned = drop k lists ++ take k lists

  behind_by : (t : ℕ) → from ≤ t → t < from + 64 → length lists - k ≤ t - from → (length lists ≡ 0) ⊎ (0 < length lists) → get_or turned (t - from) [] ≡ get_or lists (t % 64) []
  behind_by t low high past (inl none) =
      let short : length turned ≡ 0 = omega (arith, length-drop k lists, length-take k lists, length-append (drop k lists) (take k lists)) in
      get_or_past turned (t - from) [] (omega arith) ∙ sym (get_or_past lists (t % 64) [] (omega arith))
  behind_by t low high past (inr some) =
      let size : length lists ≡ 64 = whole some in
      let m = (t - from) - (length lists - k) in
      let place : t - from ≡ length (drop k lists) + m = omega (arith, length-drop k lists) in
      let is : m ≡ t % 64 = omega arith in
      ap (λ i. get_or turned i []) place ∙ get_or-append-add (drop k lists) (take k lists) m [] ∙ get_or-take k lists m [] (omega arith) ∙ ap (λ i. get_or lists i []) is

  turned_by : (t : ℕ) → from ≤ t → t < from + 64 → (t - from < length lists - k) ⊎ (length lists - k ≤ t - from) → get_or turned (t - from) [] ≡ get_or lists (t % 64) []
  turned_by t low high (inl there) =
      let size : length lists ≡ 64 = whole (omega arith) in
      let place : k + (t - from) ≡ t % 64 = omega arith in
      get_or_append_left (drop k lists) (take k lists) [] (t - from) (omega (arith, length-drop k lists)) ∙ get_or-drop k lists (t - from) [] ∙ ap (λ i. get_or lists i []) place
  turned_by t low high (inr past) = behind_by t low high past (search arith)

  pub near : (t : ℕ) → from ≤ t → t < from + 64 → noted (in_ring 64 from lists) t ≡ get_or lists (t % 64) []
  near t low high = within from turned t low ∙ turned_by t low high (either (t - from) (length lists - k))

  few : (length lists ≡ 0) ⊎ (0 < length lists) → length turned ≤ 64
  few (inl none) = omega (arith, length-drop k lists, length-take k lists, length-append (drop k lists) (take k lists))
  few (inr some) = let size : length lists ≡ 64 = whole some in omega (arith, length-drop k lists, length-take k lists, length-append (drop k lists) (take k lists))

  -- no other moment has a number
  pub beside : (t : ℕ) → (t < from) ⊎ (from + 64 ≤ t) → noted (in_ring 64 from lists) t ≡ []
  beside t (inl under) = before from turned t under
  beside t (inr past) = within from turned t (omega arith) ∙ get_or_past turned (t - from) [] (let size = few (search arith) in omega arith)

-- The list of a moment is another one.
module _ (from t : ℕ) (old new : List (List ℕ)) (list : List ℕ) (whole : IsWhole old) (low : from ≤ t) (high : t < from + 64) (short : t % 64 < length old) (changed : new ≡ set old (t % 64) list) where
  whole_new : IsWhole new
  whole_new some = let size : length old ≡ 64 = whole (omega arith) in ap length changed ∙ length-set old (t % 64) list ∙ size

  there_by : (u : ℕ) (b : Bool) → nat_eq t u ≡ b → Place from u → noted (in_ring 64 from new) u ≡ cond b list (noted (in_ring 64 from old) u)
  there_by u true same (inl out) = absurd (let is : t ≡ u = grind (arith, nat_tests) in elim out [
    | inl under ↦ omega arith
    | inr past ↦ omega arith
  ])
  there_by u true same (inr in_it) =
      let is : u % 64 ≡ t % 64 = (let e : t ≡ u = grind (arith, nat_tests) in ap (λ v. v % 64) (sym e)) in
      near from new whole_new u in_it.0 in_it.1 ∙ ap (λ l. get_or l (u % 64) []) changed ∙ get_or-set_at old (t % 64) (u % 64) list [] is short
  there_by u false apart (inl out) = beside from new whole_new u out ∙ sym (beside from old whole u out)
  there_by u false apart (inr in_it) =
      let other : u % 64 ≢ t % 64 = λ e. (let is : t ≡ u = (let a = in_it.0 in let b = in_it.1 in omega arith) in absurd (let same : nat_eq t u ≡ true = grind (arith, nat_tests) in let no : true ≡ false = sym same ∙ apart in cc)) in
      near from new whole_new u in_it.0 in_it.1 ∙ ap (λ l. get_or l (u % 64) []) changed ∙ get_or-set_other old (t % 64) (u % 64) list [] other ∙ sym (near from old whole u in_it.0 in_it.1)

  pub there : (u : ℕ) → noted (in_ring 64 from new) u ≡ cond (nat_eq t u) list (noted (in_ring 64 from old) u)
  there u = there_by u (nat_eq t u) refl (place_of from u)

  more_by : (number u : ℕ) (b : Bool) → nat_eq t u ≡ b → list ≡ get_or old (t % 64) [] ++ number ∷ [] →
      cond b list (noted (in_ring 64 from old) u) ≡ cond b (noted (in_ring 64 from old) u ++ number ∷ []) (noted (in_ring 64 from old) u)
  more_by number u true same more =
      let is : t ≡ u = grind (arith, nat_tests) in
      more ∙ ap (λ l. l ++ number ∷ []) (sym (near from old whole t low high)) ∙ ap (λ v. noted (in_ring 64 from old) v ++ number ∷ []) is
  more_by number u false apart more = refl

  pub row_added : (number : ℕ) → list ≡ get_or old (t % 64) [] ++ number ∷ [] → IsAdded t number (in_ring 64 from old) (in_ring 64 from new)
  row_added number more u = there u ∙ more_by number u (nat_eq t u) refl more

  pub row_taken : list ≡ [] → IsTaken t (in_ring 64 from old) (in_ring 64 from new)
  row_taken none u = there u ∙ ap (λ l. cond (nat_eq t u) l (noted (in_ring 64 from old) u)) none

-- Where no list has a number, no moment has one.
pub none_noted : (from : ℕ) (lists : List (List ℕ)) → IsWhole lists → ((k : ℕ) → get_or lists k [] ≡ []) → (u : ℕ) → noted (in_ring 64 from lists) u ≡ []
none_noted from lists whole none u = elim (place_of from u) [
  | inl out ↦ beside from lists whole u out
  | inr in_it ↦ near from lists whole u in_it.0 in_it.1 ∙ none (u % 64)
]

-- The ring begins at a later moment: those before it have no number.
module _ (from to : ℕ) (lists : List (List ℕ)) (whole : IsWhole lists) (later : from ≤ to) (none_near : (u : ℕ) → from ≤ u → u < to → noted (in_ring 64 from lists) u ≡ []) where
  none : (u : ℕ) → u < to → noted (in_ring 64 from lists) u ≡ []
  none u low = elim (either u from) [
    | inl under ↦ beside from lists whole u (inl under)
    | inr above ↦ none_near u above low
  ]

  -- the list of a moment that comes near was that of one that is past
  comes : (u : ℕ) → from + 64 ≤ u → u < to + 64 → get_or lists (u % 64) [] ≡ []
  comes u past high =
      let v = from + (u - from) % 64 in
      let same : u % 64 ≡ v % 64 = omega arith in
      ap (λ i. get_or lists i []) same ∙ sym (near from lists whole v (omega arith) (omega arith)) ∙ none v (omega arith)

  moved_by : (u : ℕ) → Place to u → (u < from + 64) ⊎ (from + 64 ≤ u) → noted (in_ring 64 to lists) u ≡ noted (in_ring 64 from lists) u
  moved_by u (inl (inl under)) _ = beside to lists whole u (inl under) ∙ sym (none u under)
  moved_by u (inl (inr past)) _ = beside to lists whole u (inr past) ∙ sym (beside from lists whole u (inr (omega arith)))
  moved_by u (inr in_it) (inl high) = near to lists whole u in_it.0 in_it.1 ∙ sym (near from lists whole u (let low = in_it.0 in omega arith) high)
  moved_by u (inr in_it) (inr past) = near to lists whole u in_it.0 in_it.1 ∙ comes u past in_it.1 ∙ sym (beside from lists whole u (inr past))

  pub row_moved : AreSame (in_ring 64 from lists) (in_ring 64 to lists)
  row_moved u = moved_by u (place_of to u) (either u (from + 64))

-- An empty ring may begin anywhere.
module _ (from to : ℕ) (lists : List (List ℕ)) (whole : IsWhole lists) (none : (u : ℕ) → noted (in_ring 64 from lists) u ≡ []) where
  all_empty : (u : ℕ) → get_or lists (u % 64) [] ≡ []
  all_empty u =
      let v = from + (u % 64 + 64 - from % 64) % 64 in
      let same : u % 64 ≡ v % 64 = omega arith in
      ap (λ i. get_or lists i []) same ∙ sym (near from lists whole v (omega arith) (omega arith)) ∙ none v

  pub row_started : AreSame (in_ring 64 from lists) (in_ring 64 to lists)
  row_started u = elim (place_of to u) [
    | inl out ↦ beside to lists whole u out
    | inr in_it ↦ near to lists whole u in_it.0 in_it.1 ∙ all_empty u
  ] ∙ sym (none u)

-- The lists of a row.

abbrev pub lists_of : List (Vec ℕ Global) → List (List ℕ)
lists_of xs = map (λ list. list.items) xs

pub nth : (xs : List (Vec ℕ Global)) (k : ℕ) (x : Vec ℕ Global) → k < length xs → x ≡ get_or xs k x → get_or (lists_of xs) k [] ≡ x.items
nth xs k x low read = get_or-map (λ (list : Vec ℕ Global). list.items) xs k x [] low ∙ ap (λ (list : Vec ℕ Global). list.items) (sym read)

pub past : (xs : List (Vec ℕ Global)) (k : ℕ) → length xs ≤ k → get_or (lists_of xs) k [] ≡ []
past xs k high = get_or_past (lists_of xs) k [] (omega (arith, length-map xs (λ (list : Vec ℕ Global). list.items)))

none_long : {X : Type 0} (l : List X) → length l ≡ 0 → l ≡ []
none_long [] e = refl
none_long (x ∷ l) e = absurd (omega arith)

-- what a test for an empty list says
pub emptied : {X : Type 0} (l : List X) (n : ℕ) (b : Bool) → n ≡ length l → b ≡ (n == 0) → b ≡ true → l ≡ []
emptied l n b long is on = none_long l (let none : n ≡ 0 = grind (arith, nat_tests) in sym long ∙ none)

pub same_length : (xs : List (Vec ℕ Global)) → length (lists_of xs) ≡ length xs
same_length xs = length-map xs (λ (list : Vec ℕ Global). list.items)

pub shorter : (xs : List (Vec ℕ Global)) (k : ℕ) → k < length xs → k < length (lists_of xs)
shorter xs k low = omega (arith, length-map xs (λ (list : Vec ℕ Global). list.items))

pub set_lists : (xs : List (Vec ℕ Global)) (k : ℕ) (x : Vec ℕ Global) → lists_of (set xs k x) ≡ set (lists_of xs) k x.items
set_lists xs k x = map-set (λ (list : Vec ℕ Global). list.items) xs k x

pub whole_lists : (xs : List (Vec ℕ Global)) → (0 < length xs → length xs ≡ 64) → IsWhole (lists_of xs)
whole_lists xs whole some = same_length xs ∙ whole (omega (arith, same_length xs))

-- lists without a number
pub each_empty : (xs : List (Vec ℕ Global)) → All (λ list. list.items ≡ []) xs → (k : ℕ) → (k < length xs) ⊎ (length xs ≤ k) → get_or (lists_of xs) k [] ≡ []
each_empty [] none k _ = refl
each_empty (x ∷ xs) none k (inl low) = nth (x ∷ xs) k (get_or (x ∷ xs) k x) low (get_or_default (x ∷ xs) k x (get_or (x ∷ xs) k x) low) ∙ none k x low
each_empty (x ∷ xs) none k (inr high) = past (x ∷ xs) k high

-- what the test says whether a moment is near
pub is_beside : (from t : ℕ) (b : Bool) → IsTrue b ↔ ((from ≤ t) × (t < from + 64)) → b ≡ false → (t < from) ⊎ (from + 64 ≤ t)
is_beside from t b is off = elim (place_of from t) [
  | inl out ↦ out
  | inr in_it ↦ absurd (let on : b ≡ true = is.1 in_it in let no : true ≡ false = sym on ∙ off in cc)
]

-- A list of a row is written over.
module _ (now : List (ℕ × List ℕ)) (from t : ℕ) (lists : List (Vec ℕ Global)) (x y : Vec ℕ Global) (view : in_ring 64 from (lists_of lists) ≡ now) (read : x ≡ get_or lists (t % 64) x) where
  pub one_same : y.items ≡ x.items → AreSame now (in_ring 64 from (lists_of (set lists (t % 64) y)))
  one_same e u =
      let is : lists_of (set lists (t % 64) y) ≡ lists_of lists = map-set_same (λ (list : Vec ℕ Global). list.items) lists (t % 64) y x (e ∙ ap (λ (list : Vec ℕ Global). list.items) read) in
      ap (λ l. noted (in_ring 64 from l) u) is ∙ ap (λ q. noted q u) view

  module _ (whole : 0 < length lists → length lists ≡ 64) (low : from ≤ t) (high : t < from + 64) (short : t % 64 < length lists) where
    pub one_there : noted now t ≡ x.items
    one_there = ap (λ q. noted q t) (sym view) ∙ near from (lists_of lists) (whole_lists lists whole) t low high ∙ nth lists (t % 64) x short read

    pub one_added : (number : ℕ) → y.items ≡ x.items ++ number ∷ [] → IsAdded t number now (in_ring 64 from (lists_of (set lists (t % 64) y)))
    one_added number more =
        subst (λ q. IsAdded t number q (in_ring 64 from (lists_of (set lists (t % 64) y)))) view
        (row_added from t (lists_of lists) (lists_of (set lists (t % 64) y)) y.items (whole_lists lists whole) low high (shorter lists (t % 64) short) (set_lists lists (t % 64) y) number
        (more ∙ ap (λ l. l ++ number ∷ []) (sym (nth lists (t % 64) x short read))))

    pub one_taken : y.items ≡ [] → IsTaken t now (in_ring 64 from (lists_of (set lists (t % 64) y)))
    one_taken none =
        subst (λ q. IsTaken t q (in_ring 64 from (lists_of (set lists (t % 64) y)))) view
        (row_taken from t (lists_of lists) (lists_of (set lists (t % 64) y)) y.items (whole_lists lists whole) low high (shorter lists (t % 64) short) (set_lists lists (t % 64) y) none)
