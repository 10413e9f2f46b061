-- Numbers of places, which stand page by page.
use Rattle.std.proofs.Common.{◌≡◌, ◌≢◌, ◌∙◌, ◌<◌, ◌≤◌, ◌/◌, ◌%◌, ap, sym, refl, ℕ, inl, inr, ⊎_elim, false, List, [], map, length, arith, nat_eq, Vec}
use Rattle.std.proofs.Math.ListN.{get_or, get_or-eq_default, set}
use Rattle.std.proofs.lemmas.Bool.{cases_lt, eqb-true}
use Rattle.std.proofs.lemmas.List.{get_or-map, get_or-set_same, get_or-set_other, length-map, map-set}
use Rattle.std.specs.Global.{Global}
use Rattle.scratch.proofs.Among.{nat_itself}
use Rattle.scratch.proofs.Driven.{either}
use Rattle.rundiff.specs.kept.PlaceMaps.{number_at, page_at}
use Rattle.rundiff.specs.declared.place_map.TheConstants.{PAGE}

-- numbers that differ by test differ
differs : (j i : ℕ) → nat_eq i j ≡ false → j ≢ i
differs j i off = λ same. let itself = nat_itself i in cc

-- a page that is written
pub page_here : (pages : List (Vec ℕ Global)) (i : ℕ) (page : Vec ℕ Global) → i < length pages → page_at (set pages i page) i ≡ page.items
page_here pages i page there =
    ap (λ rows. get_or rows i []) (map-set (λ (p : Vec ℕ Global). p.items) pages i page)
    ∙ get_or-set_same (map (λ (p : Vec ℕ Global). p.items) pages) i page.items [] (rw (length-map pages (λ (p : Vec ℕ Global). p.items)) there)

-- and another one
pub page_apart : (pages : List (Vec ℕ Global)) (i k : ℕ) (page : Vec ℕ Global) → nat_eq i k ≡ false → page_at (set pages i page) k ≡ page_at pages k
page_apart pages i k page off =
    ap (λ rows. get_or rows k []) (map-set (λ (p : Vec ℕ Global). p.items) pages i page)
    ∙ get_or-set_other (map (λ (p : Vec ℕ Global). p.items) pages) i k page.items [] (differs k i off)

-- the number of a place stands in its page
pub number_is : (pages : List (Vec ℕ Global)) (q : ℕ) → number_at pages q ≡ get_or (page_at pages (q / PAGE)) (q % PAGE) 0
unfolding number_at
number_is pages q = refl

-- where the pages have the same numbers, the places do
pub same_pages : (old new : List (Vec ℕ Global)) → ((q : ℕ) → page_at new q ≡ page_at old q) → (q : ℕ) → number_at new q ≡ number_at old q
same_pages old new same q = number_is new q ∙ ap (λ row. get_or row (q % PAGE) 0) (same (q / PAGE)) ∙ sym (number_is old q)

-- a page that is read
pub page_is : (pages : List (Vec ℕ Global)) (i : ℕ) (page : Vec ℕ Global) → i < length pages → page ≡ get_or pages i page → page.items ≡ page_at pages i
page_is pages i page there is = ap (λ (p : Vec ℕ Global). p.items) is ∙ sym (get_or-map (λ (p : Vec ℕ Global). p.items) pages i page [] there)

-- the numbers where a page is written that has, but at one place at most, what was there
pub other_numbers : (pages : List (Vec ℕ Global)) (i q : ℕ) (page : Vec ℕ Global) → i < length pages →
    (i ≡ q / PAGE → get_or page.items (q % PAGE) 0 ≡ get_or (page_at pages i) (q % PAGE) 0) → number_at (set pages i page) q ≡ number_at pages q
other_numbers pages i q page there as_before =
    let in_page : get_or (page_at (set pages i page) (q / PAGE)) (q % PAGE) 0 ≡ get_or (page_at pages (q / PAGE)) (q % PAGE) 0 =
    either (nat_eq i (q / PAGE))
    (λ same.
    let is : i ≡ q / PAGE = eqb-true i (q / PAGE) same in
    ap (λ k. get_or (page_at (set pages i page) k) (q % PAGE) 0) (sym is) ∙ ap (λ row. get_or row (q % PAGE) 0) (page_here pages i page there)
    ∙ as_before is ∙ ap (λ k. get_or (page_at pages k) (q % PAGE) 0) is)
    (λ off. ap (λ row. get_or row (q % PAGE) 0) (page_apart pages i (q / PAGE) page off)) in
    number_is (set pages i page) q ∙ in_page ∙ sym (number_is pages q)

-- a list that is filled up with 0 has the numbers that it had
pub filled : (old new : List ℕ) (n q : ℕ) → length new ≡ n → length old ≤ n → ((k : ℕ) → k < n → k < length old → get_or new k 0 ≡ get_or old k 0) →
    ((k : ℕ) → length old ≤ k → k < n → get_or new k 0 ≡ 0) → get_or new q 0 ≡ get_or old q 0
filled old new n q many few kept zeros =
    elim (cases_lt q (length old)) [
      | inl low ↦ kept q (omega (arith, few, low)) low
      | inr high ↦ elim (cases_lt q n) [
        | inl within ↦ zeros q high within ∙ sym (get_or-eq_default old 0 high)
        | inr past ↦ get_or-eq_default new 0 (rw many past) ∙ sym (get_or-eq_default old 0 high)
      ]
    ]

-- a page that is missing has no number
pub no_page : (pages : List (Vec ℕ Global)) (i k : ℕ) → length pages ≤ i → 0 ≡ get_or (page_at pages i) k 0
no_page pages i k past = ap (λ row. get_or row k 0) (sym (get_or-eq_default (map (λ (p : Vec ℕ Global). p.items) pages) [] (rw length-map past)))

-- a place with a number has room for it
pub numbered : (pages : List (Vec ℕ Global)) (p : ℕ) → 0 < number_at pages p → (p % PAGE < length (page_at pages (p / PAGE))) × (p / PAGE < length pages)
numbered pages p some =
    let row = page_at pages (p / PAGE) in
    let is = number_is pages p in (
      ⊎_elim (λ low. low) (λ high. absurd (let none = get_or-eq_default row 0 high in omega (arith, some, is, none))) (cases_lt (p % PAGE) (length row)),
      ⊎_elim (λ low. low) (λ high. absurd (let none = no_page pages (p / PAGE) (p % PAGE) high in omega (arith, some, is, none))) (cases_lt (p / PAGE) (length pages)),
    )

-- without pages no place has a number
pub no_number : (p : ℕ) → number_at [] p ≡ 0
no_number p = number_is [] p ∙ sym (no_page [] (p / PAGE) (p % PAGE) (omega arith))
