-- Stimulus points in order of time: what a search for a time finds, and what setting a point leaves.
use Rattle.std.proofs.Common.{◌≡◌, ◌≢◌, ℕ, zero, suc, ◌+◌, ◌-◌, ◌<◌, ◌≤◌, nat_le, nat_lt, Bool, true, false, not, cond, ◌==◌, ◌||◌, inl, inr, List, [], ◌∷◌, length, get_or, take, Option, Some, None, All, sym, refl, ap, subst, ◌∙◌, arith}
use Rattle.std.proofs.lemmas.Bool.{cases_order, cases_eq, ltb-true, ltb-false, eq-eqb, eqb-true, ne_eqb}
use Rattle.std.proofs.lemmas.List.Elements.{All-cons, All-head, All-tail, All-weaker}
use Rattle.std.proofs.lemmas.List.Folds.{list_any_none}
use Rattle.std.proofs.lemmas.List.Kept.{AllPairs-cons}
use Rattle.std.specs.List.{AllWithin, filter, last_or, slice_set, insert}
use Rattle.std.specs.List.Sorted.{IsPartitionPoint, IsNonDecreasingBy}
use Rattle.std.specs.Option.{option_map_or}
use Rattle.std.specs.Ordering.{nat_cmp, match_ordering}
use Rattle.std.specs.Cmp.{nat_cmp_is}
use Rattle.std.specs.declared.cmp.Ordering.TheVariants.{Less, Equal, Greater}
use Rattle.std.specs.BTreeMap.{insert_entry}
use Rattle.fourstate.specs.declared.value.Value.{Value}
use Rattle.fourstate.specs.declared.value.Value.TheVariants.{Unknown}
use Rattle.design.specs.kept.Lawful.{AreRising}
use Rattle.design.specs.Netlist.{has_point, stimulus}

-- Points in order of time.

pub rising_head : (p : ℕ × Value) (ps : List (ℕ × Value)) → AreRising (p ∷ ps) → All (λ q. p.0 < q.0) ps
rising_head p ps h = λ k d within. h zero (suc k) d (omega arith) (omega arith)

pub rising_tail : (p : ℕ × Value) (ps : List (ℕ × Value)) → AreRising (p ∷ ps) → AreRising ps
rising_tail p ps h = λ i j d below within. h (suc i) (suc j) d (omega arith) (omega arith)

-- as a search asks
pub non_decreasing : (ps : List (ℕ × Value)) → AreRising ps → IsNonDecreasingBy (λ p. p.0) ps
non_decreasing ps h i j d below within = elim (cases_eq i j) [
  | inl e ↦ let same : (get_or ps i d).0 ≡ (get_or ps j d).0 = ap (λ k. (get_or ps k d).0) e in omega arith
  | inr apart ↦ let less : (get_or ps i d).0 < (get_or ps j d).0 = h i j d (omega arith) within in omega arith
]

-- The latest point.

front_passes : {X : Type 0} (p : X → Bool) (xs : List X) (n : ℕ) → AllWithin (λ x. p x ≡ true) xs 0 n → AllWithin (λ x. p x ≡ false) xs n (length xs) → filter p xs ≡ take n xs
front_passes p [] zero pass fail = refl
front_passes p [] (suc n) pass fail = refl
front_passes p (x ∷ xs) zero pass fail =
    rw (fail zero x (omega arith) (omega arith)) (front_passes p xs zero (λ k d low high. absurd (omega arith)) (λ k d low high. fail (suc k) d (omega arith) (omega arith)))
front_passes p (x ∷ xs) (suc n) pass fail =
    rw (pass zero x (omega arith) (omega arith)) (ap (λ l. x ∷ l) (front_passes p xs n (λ k d low high. pass (suc k) d (omega arith) (omega arith)) (λ k d low high. fail (suc k) d (omega arith) (omega arith))))

last_of_take : {X : Type 0} (xs : List X) (k : ℕ) (o : Option X) (d : X) → k < length xs → last_or o (take (suc k) xs) ≡ Some (get_or xs k d)
last_of_take [] k o d within = absurd (omega arith)
last_of_take (x ∷ xs) zero o d within = refl
last_of_take (x ∷ xs) (suc k) o d within = last_of_take xs k (Some x) d (omega arith)

pub stimulus_none : (ps : List (ℕ × Value)) (t n : ℕ) → IsPartitionPoint (λ p. nat_le p.0 t ≡ true) (λ p. nat_le p.0 t ≡ false) ps n → n ≡ 0 → stimulus ps t ≡ Unknown
stimulus_none ps t n split e =
    let kept : filter (λ p. nat_le p.0 t) ps ≡ take n ps = front_passes (λ p. nat_le p.0 t) ps n split.0 split.1 in
    let none : filter (λ p. nat_le p.0 t) ps ≡ [] = kept ∙ ap (λ k. take k ps) e in
    rw none refl

latest : (ps : List (ℕ × Value)) (t k : ℕ) (d : ℕ × Value) → filter (λ q. nat_le q.0 t) ps ≡ take (suc k) ps → k < length ps → (get_or ps k d).1 ≡ stimulus ps t
latest ps t k d kept within =
    sym (ap (λ l. option_map_or (λ q. q.1) (last_or None l) Unknown) kept ∙ ap (λ o. option_map_or (λ q. q.1) o Unknown) (last_of_take ps k None d within))

pub stimulus_at : (ps : List (ℕ × Value)) (t n : ℕ) (d : ℕ × Value) → IsPartitionPoint (λ p. nat_le p.0 t ≡ true) (λ p. nat_le p.0 t ≡ false) ps n → 0 < n → n ≤ length ps → (get_or ps (n - 1) d).1 ≡ stimulus ps t
stimulus_at ps t zero d split above within = absurd (omega arith)
stimulus_at ps t (suc k) d split above within =
    let last : suc k - 1 ≡ k = omega arith in
    ap (λ i. (get_or ps i d).1) last ∙ latest ps t k d (front_passes (λ q. nat_le q.0 t) ps (suc k) split.0 split.1) (omega arith)

-- A point at a time.

pub has_point_at : (ps : List (ℕ × Value)) (t n : ℕ) (d : ℕ × Value) → AreRising ps → IsPartitionPoint (λ p. nat_lt p.0 t ≡ true) (λ p. nat_lt p.0 t ≡ false) ps n → n < length ps → has_point ps t ≡ ((get_or ps n d).0 == t)
has_point_at [] t n d rising split within = absurd (omega arith)
has_point_at (q ∷ ps) t zero d rising split within =
    let here : t ≤ q.0 = ltb-false q.0 t (split.1 zero q (omega arith) (omega arith)) in
    let none : has_point ps t ≡ false =
    list_any_none (λ r. r.0 == t) ps (λ k d low. let above : q.0 < (get_or ps k d).0 = rising_head q ps rising k d low in ne_eqb (get_or ps k d).0 t (λ same. omega arith)) in
    rw none (elim (q.0 == t) as (λ b. (b || false) ≡ b) [ true ↦ refl | false ↦ refl ])
has_point_at (q ∷ ps) t (suc n) d rising split within =
    let before : q.0 < t = ltb-true q.0 t (split.0 zero q (omega arith) (omega arith)) in
    rw (ne_eqb q.0 t (λ same. omega arith)) (has_point_at ps t n d (rising_tail q ps rising) (λ k d low high. split.0 (suc k) d (omega arith) (omega arith), λ k d low high. split.1 (suc k) d (omega arith) (omega arith)) (omega arith))

pub has_point_past : (ps : List (ℕ × Value)) (t n : ℕ) → IsPartitionPoint (λ p. nat_lt p.0 t ≡ true) (λ p. nat_lt p.0 t ≡ false) ps n → length ps ≤ n → has_point ps t ≡ false
has_point_past ps t n split past =
    list_any_none (λ r. r.0 == t) ps (λ k d low. let before : (get_or ps k d).0 < t = ltb-true (get_or ps k d).0 t (split.0 k d (omega arith) (omega arith)) in ne_eqb (get_or ps k d).0 t (λ same. omega arith))

-- A point set.

pub set_less : (e : ℕ × Value) (es : List (ℕ × Value)) (t : ℕ) (v : Value) → t < e.0 → insert_entry nat_cmp (e ∷ es) t v ≡ (t, v) ∷ (e ∷ es)
set_less e es t v h =
    ap (λ o. match_ordering o ((t, v) ∷ (e ∷ es)) ((e.0, v) ∷ es) (e ∷ insert_entry nat_cmp es t v)) (sym (nat_cmp_is t e.0 Less h))

pub set_equal : (e : ℕ × Value) (es : List (ℕ × Value)) (t : ℕ) (v : Value) → t ≡ e.0 → insert_entry nat_cmp (e ∷ es) t v ≡ (e.0, v) ∷ es
set_equal e es t v h =
    ap (λ o. match_ordering o ((t, v) ∷ (e ∷ es)) ((e.0, v) ∷ es) (e ∷ insert_entry nat_cmp es t v)) (sym (nat_cmp_is t e.0 Equal h))

pub set_greater : (e : ℕ × Value) (es : List (ℕ × Value)) (t : ℕ) (v : Value) → e.0 < t → insert_entry nat_cmp (e ∷ es) t v ≡ e ∷ insert_entry nat_cmp es t v
set_greater e es t v h =
    ap (λ o. match_ordering o ((t, v) ∷ (e ∷ es)) ((e.0, v) ∷ es) (e ∷ insert_entry nat_cmp es t v)) (sym (nat_cmp_is t e.0 Greater h))

pub set_here : (ps : List (ℕ × Value)) (t n : ℕ) (v : Value) (d : ℕ × Value) → IsPartitionPoint (λ p. nat_lt p.0 t ≡ true) (λ p. nat_lt p.0 t ≡ false) ps n → n < length ps → (get_or ps n d).0 ≡ t → slice_set ps n (t, v) ≡ insert_entry nat_cmp ps t v
set_here [] t n v d split within same = absurd (omega arith)
set_here (q ∷ ps) t zero v d split within same = sym (set_equal q ps t v (sym same) ∙ ap (λ k. (k, v) ∷ ps) same)
set_here (q ∷ ps) t (suc n) v d split within same =
    ap (λ l. q ∷ l) (set_here ps t n v d (λ k d low high. split.0 (suc k) d (omega arith) (omega arith), λ k d low high. split.1 (suc k) d (omega arith) (omega arith)) (omega arith) same)
    ∙ sym (set_greater q ps t v (ltb-true q.0 t (split.0 zero q (omega arith) (omega arith))))

pub insert_here : (ps : List (ℕ × Value)) (t n : ℕ) (v : Value) → IsPartitionPoint (λ p. nat_lt p.0 t ≡ true) (λ p. nat_lt p.0 t ≡ false) ps n → n ≤ length ps → (d : ℕ × Value) → (n < length ps → (get_or ps n d).0 ≢ t) → insert ps n (t, v) ≡ insert_entry nat_cmp ps t v
insert_here [] t zero v split within d apart = refl
insert_here [] t (suc n) v split within d apart = absurd (omega arith)
insert_here (q ∷ ps) t zero v split within d apart =
    let least : t ≤ q.0 = ltb-false q.0 t (split.1 zero q (omega arith) (omega arith)) in
    let other : q.0 ≢ t = apart (omega arith) in
    sym (set_less q ps t v (elim (cases_order t q.0) [ inl same ↦ absurd (other (sym same)) | inr order ↦ elim order [ inl less ↦ less | inr more ↦ absurd (omega arith) ] ]))
insert_here (q ∷ ps) t (suc n) v split within d apart =
    ap (λ l. q ∷ l) (insert_here ps t n v (λ k d low high. split.0 (suc k) d (omega arith) (omega arith), λ k d low high. split.1 (suc k) d (omega arith) (omega arith)) (omega arith) d (λ inside. apart (omega arith)))
    ∙ sym (set_greater q ps t v (ltb-true q.0 t (split.0 zero q (omega arith) (omega arith))))

-- What setting a point keeps.

times_set : (P : ℕ → Type 0) (ps : List (ℕ × Value)) (t : ℕ) (v : Value) → All (λ p. P p.0) ps → P t → All (λ p. P p.0) (insert_entry nat_cmp ps t v)
times_set P [] t v h at = All-cons (λ p. P p.0) (t, v) [] at h
times_set P (q ∷ ps) t v h at =
    let A : List (ℕ × Value) → Type 0 = λ l. All (λ p. P p.0) l in
    let first : P q.0 = All-head (λ p. P p.0) q ps h in
    let rest : A ps = All-tail (λ p. P p.0) q ps h in
    elim (cases_order t q.0) [
      | inl same ↦ subst A (sym (set_equal q ps t v same)) (All-cons (λ p. P p.0) (q.0, v) ps first rest)
      | inr order ↦ elim order [
        | inl less ↦ subst A (sym (set_less q ps t v less)) (All-cons (λ p. P p.0) (t, v) (q ∷ ps) at h)
        | inr more ↦ subst A (sym (set_greater q ps t v more)) (All-cons (λ p. P p.0) q (insert_entry nat_cmp ps t v) first (times_set P ps t v rest at))
      ]
    ]

pub timely_set : (ps : List (ℕ × Value)) (t m : ℕ) (v : Value) → All (λ p. p.0 ≤ m) ps → t ≤ m → All (λ p. p.0 ≤ m) (insert_entry nat_cmp ps t v)
timely_set ps t m v timely within = times_set (λ s. s ≤ m) ps t v timely within

pub rising_set : (ps : List (ℕ × Value)) (t : ℕ) (v : Value) → AreRising ps → AreRising (insert_entry nat_cmp ps t v)
rising_set [] t v rising = λ i j d below within. absurd (omega arith)
rising_set (q ∷ ps) t v rising =
    let R : ℕ × Value → ℕ × Value → Type 0 = λ p r. p.0 < r.0 in
    let above : All (λ r. q.0 < r.0) ps = rising_head q ps rising in
    elim (cases_order t q.0) [
      | inl same ↦ subst AreRising (sym (set_equal q ps t v same)) (AllPairs-cons R (q.0, v) ps above (rising_tail q ps rising))
      | inr order ↦ elim order [
        | inl less ↦ subst AreRising (sym (set_less q ps t v less))
            (AllPairs-cons R (t, v) (q ∷ ps) (All-cons (λ r. t < r.0) q ps less (All-weaker (λ r. q.0 < r.0) (λ r. t < r.0) (λ r later. omega arith) ps above)) rising)
        | inr more ↦ subst AreRising (sym (set_greater q ps t v more))
            (AllPairs-cons R q (insert_entry nat_cmp ps t v) (times_set (λ s. q.0 < s) ps t v above more) (rising_set ps t v (rising_tail q ps rising)))
      ]
    ]

-- How many points there are.

point_absent : (ps : List (ℕ × Value)) (t : ℕ) → All (λ p. t < p.0) ps → has_point ps t ≡ false
point_absent ps t later = list_any_none (λ p. p.0 == t) ps (λ k d within. let above : t < (get_or ps k d).0 = later k d within in ne_eqb (get_or ps k d).0 t (λ same. omega arith))

pub count_set : (ps : List (ℕ × Value)) (t : ℕ) (v : Value) → AreRising ps → length (insert_entry nat_cmp ps t v) ≡ length ps + cond (has_point ps t) 0 1
count_set [] t v rising = refl
count_set (q ∷ ps) t v rising =
    let above : All (λ r. q.0 < r.0) ps = rising_head q ps rising in
    elim (cases_order t q.0) [
      | inl same ↦ rw (set_equal q ps t v same, eq-eqb q.0 t (sym same)) (omega arith)
      | inr order ↦ elim order [
        | inl less ↦ rw (set_less q ps t v less, ne_eqb q.0 t (λ same. omega arith), point_absent ps t (All-weaker (λ r. q.0 < r.0) (λ r. t < r.0) (λ r later. omega arith) ps above)) (omega arith)
        | inr more ↦ rw (set_greater q ps t v more, ne_eqb q.0 t (λ same. omega arith)) (omega (arith, count_set ps t v (rising_tail q ps rising)))
      ]
    ]

-- A point taken away.

later_kept : (ps : List (ℕ × Value)) (t : ℕ) → All (λ p. t < p.0) ps → filter (λ p. not (p.0 == t)) ps ≡ ps
later_kept [] t later = refl
later_kept (q ∷ ps) t later =
    let above : t < q.0 = All-head (λ p. t < p.0) q ps later in
    ap (λ b. cond (not b) (q ∷ filter (λ p. not (p.0 == t)) ps) (filter (λ p. not (p.0 == t)) ps)) (ne_eqb q.0 t (λ same. omega arith)) ∙ ap (λ l. q ∷ l) (later_kept ps t (All-tail (λ p. t < p.0) q ps later))

pub count_removed : (ps : List (ℕ × Value)) (t : ℕ) → AreRising ps → has_point ps t ≡ true → length (filter (λ p. not (p.0 == t)) ps) + 1 ≡ length ps
count_removed [] t rising h = cc
count_removed (q ∷ ps) t rising h = step (q.0 == t) refl h (λ g. count_removed ps t (rising_tail q ps rising) g)
  where
    step : (b : Bool) → (q.0 == t) ≡ b → (b || has_point ps t) ≡ true → (has_point ps t ≡ true → length (filter (λ p. not (p.0 == t)) ps) + 1 ≡ length ps) → length (cond (not b) (q ∷ filter (λ p. not (p.0 == t)) ps) (filter (λ p. not (p.0 == t)) ps)) + 1 ≡ length (q ∷ ps)
    step true at on rest =
        let here : q.0 ≡ t = eqb-true q.0 t at in
        let kept : filter (λ p. not (p.0 == t)) ps ≡ ps = later_kept ps t (All-weaker (λ r. q.0 < r.0) (λ r. t < r.0) (λ r later. omega arith) ps (rising_head q ps rising)) in
        omega (arith, ap length kept)
    step false at on rest = let more = rest on in omega (arith, more)

absent_kept : (ps : List (ℕ × Value)) (t : ℕ) → has_point ps t ≡ false → filter (λ p. not (p.0 == t)) ps ≡ ps
absent_kept [] t h = refl
absent_kept (q ∷ ps) t h = step (q.0 == t) h (λ g. absent_kept ps t g)
  where
    step : (b : Bool) → (b || has_point ps t) ≡ false → (has_point ps t ≡ false → filter (λ p. not (p.0 == t)) ps ≡ ps) → cond (not b) (q ∷ filter (λ p. not (p.0 == t)) ps) (filter (λ p. not (p.0 == t)) ps) ≡ q ∷ ps
    step true on rest = cc
    step false off rest = ap (λ l. q ∷ l) (rest off)

-- whether or not there is one
pub count_without : (ps : List (ℕ × Value)) (t : ℕ) → AreRising ps → length (filter (λ p. not (p.0 == t)) ps) + cond (has_point ps t) 1 0 ≡ length ps
count_without ps t rising = step (has_point ps t) refl
  where
    step : (b : Bool) → has_point ps t ≡ b → length (filter (λ p. not (p.0 == t)) ps) + cond b 1 0 ≡ length ps
    step true on = count_removed ps t rising on
    step false off = omega (arith, ap length (absent_kept ps t off))
