-- Points in pieces: where a point belongs, and what a change of its piece does to all points.
use Rattle.std.proofs.Common.{◌≡◌, ℕ, zero, suc, ◌-◌, ◌<◌, ◌≤◌, nat_le, Bool, true, false, not, cond, ◌==◌, ◌||◌, inl, inr, List, [], ◌∷◌, ◌++◌, length, get_or, All, Option, Some, None, sym, refl, ap, subst, ◌∙◌, arith}
use Rattle.std.proofs.lemmas.Bool.{cases_order, le-leb, leb-false, leb-true, lt-leb, ne_eqb}
use Rattle.std.proofs.lemmas.List.{append_assoc}
use Rattle.std.proofs.lemmas.List.Elements.{All-cons, All-head, All-nil, All-tail, All-weaker, filter-append}
use Rattle.std.proofs.lemmas.List.Folds.{list_any-append, list_any_none}
use Rattle.std.specs.List.{AllZip, filter, flat_map, insert, last_or, remove, slice_set}
use Rattle.std.proofs.lemmas.List.Kept.{AllPairs-cons}
use Rattle.std.specs.List.Sorted.{IsPartitionPoint, IsPartitionedBy}
use Rattle.std.specs.Option.{option_map_or}
use Rattle.std.specs.Ordering.{nat_cmp}
use Rattle.std.specs.BTreeMap.{insert_entry}
use Rattle.fourstate.specs.declared.value.Value.{Value}
use Rattle.fourstate.specs.declared.value.Value.TheVariants.{Unknown}
use Rattle.design.specs.kept.Lawful.{AreRising}
use Rattle.design.specs.Netlist.{has_point, stimulus}
use Rattle.design.specs.kept.Pieces.{AreFilled, IsHome, begins_by}
use Rattle.design.proofs.PointLemmas.{count_set, rising_head, rising_tail, set_equal, set_greater, set_less}

-- Parts of lists in order of time.

all_left : {X : Type 0} (P : X → Type 0) (xs ys : List X) → All P (xs ++ ys) → All P xs
all_left P [] ys h = All-nil P
all_left P (x ∷ xs) ys h = All-cons P x xs (All-head P x (xs ++ ys) h) (all_left P xs ys (All-tail P x (xs ++ ys) h))

all_right : {X : Type 0} (P : X → Type 0) (xs ys : List X) → All P (xs ++ ys) → All P ys
all_right P [] ys h = h
all_right P (x ∷ xs) ys h = all_right P xs ys (All-tail P x (xs ++ ys) h)

pub rising_right : (xs ys : List (ℕ × Value)) → AreRising (xs ++ ys) → AreRising ys
rising_right [] ys h = h
rising_right (x ∷ xs) ys h = rising_right xs ys (rising_tail x (xs ++ ys) h)

-- what stands before a point is before it
all_before : (xs : List (ℕ × Value)) (p : ℕ × Value) (ys : List (ℕ × Value)) → AreRising (xs ++ p ∷ ys) → All (λ q. q.0 < p.0) xs
all_before [] p ys h = All-nil (λ q. q.0 < p.0)
all_before (x ∷ xs) p ys h =
    All-cons (λ q. q.0 < p.0) x xs (All-head (λ q. x.0 < q.0) p ys (all_right (λ q. x.0 < q.0) xs (p ∷ ys) (rising_head x (xs ++ p ∷ ys) h))) (all_before xs p ys (rising_tail x (xs ++ p ∷ ys) h))

-- A change of a part.

set_later : (xs ys : List (ℕ × Value)) (t : ℕ) (v : Value) → All (λ p. t < p.0) ys → insert_entry nat_cmp (xs ++ ys) t v ≡ insert_entry nat_cmp xs t v ++ ys
set_later [] [] t v later = refl
set_later [] (y ∷ ys) t v later = set_less y ys t v (All-head (λ p. t < p.0) y ys later)
set_later (x ∷ xs) ys t v later = elim (cases_order t x.0) [
  | inl same ↦ set_equal x (xs ++ ys) t v same ∙ ap (λ l. l ++ ys) (sym (set_equal x xs t v same))
  | inr order ↦ elim order [
    | inl less ↦ set_less x (xs ++ ys) t v less ∙ ap (λ l. l ++ ys) (sym (set_less x xs t v less))
    | inr more ↦ set_greater x (xs ++ ys) t v more ∙ ap (λ l. x ∷ l) (set_later xs ys t v later) ∙ ap (λ l. l ++ ys) (sym (set_greater x xs t v more))
  ]
]

set_earlier : (xs ys : List (ℕ × Value)) (t : ℕ) (v : Value) → All (λ p. p.0 < t) xs → insert_entry nat_cmp (xs ++ ys) t v ≡ xs ++ insert_entry nat_cmp ys t v
set_earlier [] ys t v before = refl
set_earlier (x ∷ xs) ys t v before =
    set_greater x (xs ++ ys) t v (All-head (λ p. p.0 < t) x xs before) ∙ ap (λ l. x ∷ l) (set_earlier xs ys t v (All-tail (λ p. p.0 < t) x xs before))

none_at : (P : ℕ × Value → Type 0) (ps : List (ℕ × Value)) (t : ℕ) → ((p : ℕ × Value) → P p → (p.0 == t) ≡ false) → All P ps → has_point ps t ≡ false
none_at P ps t off h = list_any_none (λ p. p.0 == t) ps (All-weaker P (λ p. (p.0 == t) ≡ false) off ps h)

pub kept_all : (p : ℕ × Value → Bool) (P : ℕ × Value → Type 0) (ps : List (ℕ × Value)) → ((q : ℕ × Value) → P q → p q ≡ true) → All P ps → filter p ps ≡ ps
kept_all p P [] on h = refl
kept_all p P (q ∷ ps) on h = ap (λ b. cond b (q ∷ filter p ps) (filter p ps)) (on q (All-head P q ps h)) ∙ ap (λ l. q ∷ l) (kept_all p P ps on (All-tail P q ps h))

pub kept_none : (p : ℕ × Value → Bool) (P : ℕ × Value → Type 0) (ps : List (ℕ × Value)) → ((q : ℕ × Value) → P q → p q ≡ false) → All P ps → filter p ps ≡ []
kept_none p P [] off h = refl
kept_none p P (q ∷ ps) off h = ap (λ b. cond b (q ∷ filter p ps) (filter p ps)) (off q (All-head P q ps h)) ∙ kept_none p P ps off (All-tail P q ps h)

pub nil_right : {X : Type 0} (xs : List X) → xs ++ [] ≡ xs
nil_right [] = refl
nil_right (x ∷ xs) = ap (λ l. x ∷ l) (nil_right xs)

-- the last of a list that has one does not depend on what stands before
pub last_of : {X : Type 0} (o : Option X) (xs : List X) (y : X) (ys : List X) → last_or o (xs ++ y ∷ ys) ≡ last_or None (y ∷ ys)
last_of o [] y ys = refl
last_of o (x ∷ xs) y ys = last_of (Some x) xs y ys

earlier_stimulus : (xs ys : List (ℕ × Value)) (t : ℕ) → All (λ p. p.0 < t) xs → begins_by t ys ≡ true → stimulus (xs ++ ys) t ≡ stimulus ys t
earlier_stimulus xs [] t before begun = cc
earlier_stimulus xs (y ∷ ys) t before begun =
    let test : ℕ × Value → Bool = λ p. nat_le p.0 t in
    let rest : filter test (y ∷ ys) ≡ y ∷ filter test ys = ap (λ b. cond b (y ∷ filter test ys) (filter test ys)) begun in
    let all : filter test (xs ++ y ∷ ys) ≡ xs ++ y ∷ filter test ys =
    filter-append test xs (y ∷ ys) ∙ ap (λ l. l ++ filter test (y ∷ ys)) (kept_all test (λ p. p.0 < t) xs (λ q low. le-leb q.0 t (omega arith)) before) ∙ ap (λ l. xs ++ l) rest in
    ap (λ l. option_map_or (λ p. p.1) (last_or None l) Unknown) all ∙ ap (λ o. option_map_or (λ p. p.1) o Unknown) (last_of None xs y (filter test ys))
    ∙ ap (λ l. option_map_or (λ p. p.1) (last_or None l) Unknown) (sym rest)

later_stimulus : (xs ys : List (ℕ × Value)) (t : ℕ) → All (λ p. t < p.0) ys → stimulus (xs ++ ys) t ≡ stimulus xs t
later_stimulus xs ys t later =
    let test : ℕ × Value → Bool = λ p. nat_le p.0 t in
    ap (λ l. option_map_or (λ p. p.1) (last_or None l) Unknown)
    (filter-append test xs ys ∙ ap (λ l. filter test xs ++ l) (kept_none test (λ p. t < p.0) ys (λ q high. lt-leb q.0 t (omega arith)) later) ∙ nil_right (filter test xs))

-- A change of the piece where a point is or belongs.

module _ {C : Type 0} (items : C → List (ℕ × Value)) (t : ℕ) where
  pub home_set : (v : Value) (cs : List C) (h : ℕ) (old new : C) → IsHome items t cs h → old ≡ get_or cs h old → items new ≡ insert_entry nat_cmp (items old) t v → flat_map items (slice_set cs h new) ≡ insert_entry nat_cmp (flat_map items cs) t v
  home_set v [] h old new home e at = absurd home
  home_set v (c ∷ cs) zero old new home e at =
      ap (λ l. l ++ flat_map items cs) (at ∙ ap (λ o. insert_entry nat_cmp (items o) t v) e) ∙ sym (set_later (items c) (flat_map items cs) t v home)
  home_set v (c ∷ cs) (suc h) old new home e at = ap (λ l. items c ++ l) (home_set v cs h old new home.1 e at) ∙ sym (set_earlier (items c) (flat_map items cs) t v home.0)

  pub home_removed : (cs : List C) (h : ℕ) (old new : C) → IsHome items t cs h → old ≡ get_or cs h old → items new ≡ filter (λ p. not (p.0 == t)) (items old) → flat_map items (slice_set cs h new) ≡ filter (λ p. not (p.0 == t)) (flat_map items cs)
  home_removed [] h old new home e at = absurd home
  home_removed (c ∷ cs) zero old new home e at =
      let test : ℕ × Value → Bool = λ p. not (p.0 == t) in
      ap (λ l. l ++ flat_map items cs) (at ∙ ap (λ o. filter test (items o)) e)
      ∙ ap (λ l. filter test (items c) ++ l) (sym (kept_all test (λ p. t < p.0) (flat_map items cs) (λ q high. ap not (ne_eqb q.0 t (λ same. omega arith))) home)) ∙ sym (filter-append test (items c) (flat_map items cs))
  home_removed (c ∷ cs) (suc h) old new home e at =
      let test : ℕ × Value → Bool = λ p. not (p.0 == t) in
      ap (λ l. items c ++ l) (home_removed cs h old new home.1 e at)
      ∙ ap (λ l. l ++ filter test (flat_map items cs)) (sym (kept_all test (λ p. p.0 < t) (items c) (λ q low. ap not (ne_eqb q.0 t (λ same. omega arith))) home.0)) ∙ sym (filter-append test (items c) (flat_map items cs))

  pub home_has : (cs : List C) (h : ℕ) (old : C) → IsHome items t cs h → old ≡ get_or cs h old → has_point (items old) t ≡ has_point (flat_map items cs) t
  home_has [] h old home e = absurd home
  home_has (c ∷ cs) zero old home e =
      ap (λ o. has_point (items o) t) e ∙ or_none (has_point (items c) t) (has_point (flat_map items cs) t) (none_at (λ p. t < p.0) (flat_map items cs) t (λ q high. ne_eqb q.0 t (λ same. omega arith)) home)
      ∙ sym (list_any-append (λ p. p.0 == t) (items c) (flat_map items cs))
    where
      or_none : (a b : Bool) → b ≡ false → a ≡ (a || b)
      or_none true b h = refl
      or_none false b h = sym h
  home_has (c ∷ cs) (suc h) old home e =
      home_has cs h old home.1 e ∙ ap (λ b. b || has_point (flat_map items cs) t) (sym (none_at (λ p. p.0 < t) (items c) t (λ q low. ne_eqb q.0 t (λ same. omega arith)) home.0))
      ∙ sym (list_any-append (λ p. p.0 == t) (items c) (flat_map items cs))

  begins_left : (xs ys : List (ℕ × Value)) → begins_by t xs ≡ true → begins_by t (xs ++ ys) ≡ true
  begins_left [] ys h = cc
  begins_left (x ∷ xs) ys h = h

  begins_before : (xs ys : List (ℕ × Value)) → 0 < length xs → All (λ p. p.0 < t) xs → begins_by t (xs ++ ys) ≡ true
  begins_before [] ys some before = absurd (omega arith)
  begins_before (x ∷ xs) ys some before = let low : x.0 < t = All-head (λ p. p.0 < t) x xs before in le-leb x.0 t (omega arith)

  home_begins : (cs : List C) (h : ℕ) (old : C) → AreFilled items cs → IsHome items t cs h → old ≡ get_or cs h old → begins_by t (items old) ≡ true → begins_by t (flat_map items cs) ≡ true
  home_begins [] h old filled home e begun = absurd home
  home_begins (c ∷ cs) zero old filled home e begun = begins_left (items c) (flat_map items cs) (ap (λ o. begins_by t (items o)) (sym e) ∙ begun)
  home_begins (c ∷ cs) (suc h) old filled home e begun = begins_before (items c) (flat_map items cs) filled.0 home.0

  pub home_stimulus : (cs : List C) (h : ℕ) (old : C) → AreFilled items cs → IsHome items t cs h → old ≡ get_or cs h old → (0 < h → begins_by t (items old) ≡ true) → stimulus (items old) t ≡ stimulus (flat_map items cs) t
  home_stimulus [] h old filled home e begun = absurd home
  home_stimulus (c ∷ cs) zero old filled home e begun = ap (λ o. stimulus (items o) t) e ∙ sym (later_stimulus (items c) (flat_map items cs) t home)
  home_stimulus (c ∷ cs) (suc h) old filled home e begun =
      let now : begins_by t (items old) ≡ true = begun (omega arith) in
      home_stimulus cs h old filled.1 home.1 e (λ above. now) ∙ sym (earlier_stimulus (items c) (flat_map items cs) t home.0 (home_begins cs h old filled.1 home.1 e now))

  -- Where the search ends.

  before_begun : (xs ys zs : List (ℕ × Value)) → begins_by t ys ≡ true → AreRising (xs ++ (ys ++ zs)) → All (λ p. p.0 < t) xs
  before_begun xs [] zs begun rising = cc
  before_begun xs (p ∷ ps) zs begun rising =
      let low : p.0 ≤ t = leb-true p.0 t begun in
      All-weaker (λ q. q.0 < p.0) (λ q. q.0 < t) (λ q less. omega arith) xs (all_before xs p (ps ++ zs) rising)

  from_first : (ys zs : List (ℕ × Value)) → 0 < length ys → begins_by t ys ≡ false → AreRising (ys ++ zs) → All (λ p. t < p.0) (ys ++ zs)
  from_first [] zs some off rising = absurd (omega arith)
  from_first (p ∷ ps) zs some off rising =
      let high : t < p.0 = leb-false p.0 t off in
      All-cons (λ q. t < q.0) p (ps ++ zs) high (All-weaker (λ q. p.0 < q.0) (λ q. t < q.0) (λ q more. omega arith) (ps ++ zs) (rising_head p (ps ++ zs) rising))

  later_from : (cs : List C) → AreRising (flat_map items cs) → AreFilled items cs → ((d : C) → 0 < length cs → begins_by t (items (get_or cs 0 d)) ≡ false) → All (λ p. t < p.0) (flat_map items cs)
  later_from [] rising filled off = All-nil (λ p. t < p.0)
  later_from (c ∷ cs) rising filled off = from_first (items c) (flat_map items cs) filled.0 (off c (omega arith)) rising

  pub home_from : (cs : List C) (n h : ℕ) → AreRising (flat_map items cs) → AreFilled items cs → IsPartitionPoint (λ c. begins_by t (items c) ≡ true) (λ c. begins_by t (items c) ≡ false) cs n → h ≡ n - 1 → 0 < length cs → n ≤ length cs → IsHome items t cs h
  home_from [] n h rising filled split e some within = absurd (omega arith)
  home_from (c ∷ cs) n zero rising filled split e some within =
      later_from cs (rising_right (items c) (flat_map items cs) rising) filled.1 (λ d more. split.1 1 d (omega arith) (omega arith))
  home_from (c ∷ []) n (suc h) rising filled split e some within = absurd (omega arith)
  home_from (c ∷ b ∷ cs) n (suc h) rising filled split e some within = (
    before_begun (items c) (items b) (flat_map items cs) (split.0 1 c (omega arith) (omega arith)) rising,
    home_from (b ∷ cs) (n - 1) h (rising_right (items c) (flat_map items (b ∷ cs)) rising) filled.1
        (λ k d low high. split.0 (suc k) d (omega arith) (omega arith), λ k d low high. split.1 (suc k) d (omega arith) (omega arith)) (omega arith) (omega arith) (omega arith),
  )

  above_begun : (cs : List C) (j q : ℕ) (d : C) → j < length cs → begins_by t (items (get_or cs j d)) ≡ true → All (λ p. q < p.0) (flat_map items cs) → q < t
  above_begun [] j q d within begun above = absurd (omega arith)
  above_begun (c ∷ cs) zero q d within begun above = first (items c) begun (all_left (λ p. q < p.0) (items c) (flat_map items cs) above)
    where
      first : (xs : List (ℕ × Value)) → begins_by t xs ≡ true → All (λ p. q < p.0) xs → q < t
      first [] on h = cc
      first (x ∷ xs) on h = let low : x.0 ≤ t = leb-true x.0 t on in let high : q < x.0 = All-head (λ p. q < p.0) x xs h in omega arith
  above_begun (c ∷ cs) (suc j) q d within begun above = above_begun cs j q d (omega arith) begun (all_right (λ p. q < p.0) (items c) (flat_map items cs) above)

  pub begun_in_order : (cs : List C) → AreRising (flat_map items cs) → AreFilled items cs → IsPartitionedBy (λ c. begins_by t (items c)) cs
  begun_in_order [] rising filled i j d below within on = absurd (omega arith)
  begun_in_order (c ∷ cs) rising filled zero zero d below within on = on
  begun_in_order (c ∷ cs) rising filled (suc i) zero d below within on = absurd (omega arith)
  begun_in_order (c ∷ cs) rising filled (suc i) (suc j) d below within on = begun_in_order cs (rising_right (items c) (flat_map items cs) rising) filled.1 i j d (omega arith) (omega arith) on
  begun_in_order (c ∷ cs) rising filled zero (suc j) d below within on = first (items c) filled.0 rising
    where
      first : (xs : List (ℕ × Value)) → 0 < length xs → AreRising (xs ++ flat_map items cs) → begins_by t xs ≡ true
      first [] some up = absurd (omega arith)
      first (x ∷ xs) some up =
          let low : x.0 < t = above_begun cs j x.0 d (omega arith) on (all_right (λ p. x.0 < p.0) xs (flat_map items cs) (rising_head x (xs ++ flat_map items cs) up)) in
          le-leb x.0 t (omega arith)

-- The points of a piece.

rising_left : (xs ys : List (ℕ × Value)) → AreRising (xs ++ ys) → AreRising xs
rising_left [] ys h = λ i j d below within. absurd (omega arith)
rising_left (x ∷ xs) ys h = AllPairs-cons (λ p q. p.0 < q.0) x xs (all_left (λ q. x.0 < q.0) xs ys (rising_head x (xs ++ ys) h)) (rising_left xs ys (rising_tail x (xs ++ ys) h))

pub some_set : (ps : List (ℕ × Value)) (t : ℕ) (v : Value) → AreRising ps → 0 < length (insert_entry nat_cmp ps t v)
some_set [] t v rising = omega arith
some_set (p ∷ ps) t v rising = omega (arith, count_set (p ∷ ps) t v rising)

module _ {C : Type 0} (items : C → List (ℕ × Value)) where
  pub rising_in : (cs : List C) (h : ℕ) (old : C) → AreRising (flat_map items cs) → h < length cs → old ≡ get_or cs h old → AreRising (items old)
  rising_in [] h old rising within e = absurd (omega arith)
  rising_in (c ∷ cs) zero old rising within e = subst (λ (o : C). AreRising (items o)) (sym e) (rising_left (items c) (flat_map items cs) rising)
  rising_in (c ∷ cs) (suc h) old rising within e = rising_in cs h old (rising_right (items c) (flat_map items cs) rising) (omega arith) e

  pub filled_in : (cs : List C) (h : ℕ) (old : C) → AreFilled items cs → h < length cs → old ≡ get_or cs h old → 0 < length (items old)
  filled_in [] h old filled within e = absurd (omega arith)
  filled_in (c ∷ cs) zero old filled within e = subst (λ (o : C). 0 < length (items o)) (sym e) filled.0
  filled_in (c ∷ cs) (suc h) old filled within e = filled_in cs h old filled.1 (omega arith) e

  pub filled_set : (cs : List C) (h : ℕ) (new : C) → AreFilled items cs → 0 < length (items new) → AreFilled items (slice_set cs h new)
  filled_set [] h new filled some = tt
  filled_set (c ∷ cs) zero new filled some = (some, filled.1)
  filled_set (c ∷ cs) (suc h) new filled some = (filled.0, filled_set cs h new filled.1 some)

  -- a piece made two
  pub halved : (cs : List C) (h : ℕ) (old front back : C) → h < length cs → old ≡ get_or cs h old → items front ++ items back ≡ items old → flat_map items (insert (slice_set cs h front) (suc h) back) ≡ flat_map items cs
  halved [] h old front back within e same = absurd (omega arith)
  halved (c ∷ cs) zero old front back within e same = sym (append_assoc (items front) (items back) (flat_map items cs)) ∙ ap (λ l. l ++ flat_map items cs) (same ∙ ap items e)
  halved (c ∷ cs) (suc h) old front back within e same = ap (λ l. items c ++ l) (halved cs h old front back (omega arith) e same)

  pub filled_halved : (cs : List C) (h : ℕ) (front back : C) → AreFilled items cs → 0 < length (items front) → 0 < length (items back) → h < length cs → AreFilled items (insert (slice_set cs h front) (suc h) back)
  filled_halved [] h front back filled some more within = absurd (omega arith)
  filled_halved (c ∷ cs) zero front back filled some more within = (some, (more, filled.1))
  filled_halved (c ∷ cs) (suc h) front back filled some more within = (filled.0, filled_halved cs h front back filled.1 some more (omega arith))

  -- an empty piece taken away
  pub emptied : (cs : List C) (h : ℕ) (new : C) → h < length cs → length (items new) ≡ 0 → flat_map items (remove (slice_set cs h new) h) ≡ flat_map items (slice_set cs h new)
  emptied [] h new within none = absurd (omega arith)
  emptied (c ∷ cs) zero new within none = ap (λ l. l ++ flat_map items cs) (sym (empty (items new) none))
    where
      empty : (xs : List (ℕ × Value)) → length xs ≡ 0 → xs ≡ []
      empty [] h = refl
      empty (x ∷ xs) h = absurd (omega arith)
  emptied (c ∷ cs) (suc h) new within none = ap (λ l. items c ++ l) (emptied cs h new (omega arith) none)

  pub filled_emptied : (cs : List C) (h : ℕ) (new : C) → AreFilled items cs → h < length cs → AreFilled items (remove (slice_set cs h new) h)
  filled_emptied [] h new filled within = absurd (omega arith)
  filled_emptied (c ∷ cs) zero new filled within = filled.1
  filled_emptied (c ∷ cs) (suc h) new filled within = (filled.0, filled_emptied cs h new filled.1 (omega arith))

-- pieces that show the same points
pub pieces_same : {C : Type 0} (items : C → List (ℕ × Value)) (S : C → C → Type 0) → ((x y : C) → S x y → items y ≡ items x) → (xs ys : List C) → AllZip S xs ys → (flat_map items ys ≡ flat_map items xs) × (AreFilled items xs → AreFilled items ys)
pieces_same items S same [] [] h = (refl, λ filled. filled)
pieces_same items S same [] (y ∷ ys) h = absurd h
pieces_same items S same (x ∷ xs) [] h = absurd h
pieces_same items S same (x ∷ xs) (y ∷ ys) h =
    let rest = pieces_same items S same xs ys h.1 in
    let one : items y ≡ items x = same x y h.0 in
    (λ i. one i ++ rest.0 i, λ filled. (omega (arith, filled.0, ap (λ l. length l) one), rest.1 filled.1))
