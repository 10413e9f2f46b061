-- Entries with a record replaced, taken away or added.
use Rattle.std.proofs.Common.{◌≡◌, ◌≢◌, ℕ, ◌+◌, Bool, true, false, not, cond, ◌==◌, List, [], ◌∷◌, ◌++◌, map, Option, Some, None, option_map, sym, refl, ap, ◌∙◌, arith}
use Rattle.std.proofs.lemmas.Bool.{eq-eqb, eqb-false, eqb-true, ne_eqb}
use Rattle.std.proofs.lemmas.List.Sums.{sum_by-cons}
use Rattle.std.specs.List.{filter, find, sum_by}
use Rattle.catalog.specs.Catalog.{record_at, records_of}
use Rattle.catalog.specs.kept.Catalog.{keys_of, with_record, without_key}
use Rattle.design.specs.kept.Lists as Lists
use Rattle.design.specs.Names.{same_name}
use Rattle.design.proofs.EntryLemmas.{Apart, Each, alone, each_here, each_map, each_weaker, filter_map, filter_within, map_map, map_within}

-- A record replaced.

pub keys_with : {X : Type 0} (es : List (ℕ × X)) (key : ℕ) (y : X) → keys_of (with_record es key y) ≡ keys_of es
keys_with es key y = map_map (λ e. e.0) (λ e. (e.0, cond (e.0 == key) y e.1)) es

-- the records, where that of the key is changed by its name
pub records_with : {X : Type 0} (name : X → List ℕ) (change : X → X) (es : List (ℕ × X)) (key : ℕ) (x : X) → Apart (λ e. e.0) es → Apart (λ e. name e.1) es → record_at es key ≡ Some x →
    records_of (with_record es key (change x)) ≡ map (λ m. cond (same_name (name m) (name x)) (change m) m) (records_of es)
records_with {X} name change es key x keys names h =
    let one : ℕ × X → X = λ e. cond (e.0 == key) (change x) e.1 in
    let two : ℕ × X → X = λ e. cond (same_name (name e.1) (name x)) (change e.1) e.1 in
    let same : (e : ℕ × X) → ((e.0 == key) ≡ same_name (name e.1) (name x)) × ((e.0 == key) ≡ true → e.1 ≡ x) → one e ≡ two e = λ e at. agreed (change x) change e.1 x (e.0 == key) (same_name (name e.1) (name x)) at.0 at.1 refl in
    map_map (λ e. e.1) (λ e. (e.0, cond (e.0 == key) (change x) e.1)) es
    ∙ map_within one two es (each_weaker (λ e. ((e.0 == key) ≡ same_name (name e.1) (name x)) × ((e.0 == key) ≡ true → e.1 ≡ x)) (λ e. one e ≡ two e) same es (alone name es key x keys names h))
    ∙ sym (map_map (λ m. cond (same_name (name m) (name x)) (change m) m) (λ e. e.1) es)
  where
    agreed : (y : X) (f : X → X) (m n : X) (b c : Bool) → b ≡ c → (b ≡ true → m ≡ n) → y ≡ f n → cond b y m ≡ cond c (f m) m
    agreed y f m n true c e w at = at ∙ ap f (sym (w refl)) ∙ ap (λ (b : Bool). cond b (f m) m) e
    agreed y f m n false c e w at = ap (λ (b : Bool). cond b (f m) m) e

-- what is said of the records, once more
pub each_with : {X : Type 0} (P : X → Type 0) (es : List (ℕ × X)) (key : ℕ) (y : X) → Each (λ e. P e.1) es → P y → Each (λ e. P e.1) (with_record es key y)
each_with {X} P es key y all here =
    each_map (λ e. P e.1) (λ e. (e.0, cond (e.0 == key) y e.1)) es (each_weaker (λ e. P e.1) (λ e. P (cond (e.0 == key) y e.1)) (λ e was. step (e.0 == key) e.1 was) es all)
  where
    step : (b : Bool) (m : X) → P m → P (cond b y m)
    step true m was = here
    step false m was = was

pub record_with : {X : Type 0} (es : List (ℕ × X)) (key : ℕ) (y : X) (k : ℕ) → record_at (with_record es key y) k ≡ option_map (λ x. cond (k == key) y x) (record_at es k)
record_with [] key y k = refl
record_with {X} (e ∷ es) key y k = step (e.0 == k) refl (record_with es key y k)
  where
    step : (b : Bool) → (e.0 == k) ≡ b → record_at (with_record es key y) k ≡ option_map (λ x. cond (k == key) y x) (record_at es k) →
        option_map (λ (f : ℕ × X). f.1) (cond b (Some (e.0, cond (e.0 == key) y e.1)) (find (λ f. f.0 == k) (with_record es key y))) ≡ option_map (λ x. cond (k == key) y x) (option_map (λ (f : ℕ × X). f.1) (cond b (Some e) (find (λ f. f.0 == k) es)))
    step true at rest = let same : e.0 ≡ k = eqb-true e.0 k at in ap (λ (n : ℕ). Some (cond (n == key) y e.1)) same
    step false at rest = rest

-- what stands under the key afterwards
pub record_kept : {X : Type 0} (es : List (ℕ × X)) (key : ℕ) (x y : X) → record_at es key ≡ Some x → record_at (with_record es key y) key ≡ Some y
record_kept {X} es key x y there =
    record_with es key y key ∙ ap (λ (o : Option X). option_map (λ z. cond (key == key) y z) o) there ∙ ap (λ (b : Bool). Some (cond b y x)) (eq-eqb key key refl)

pub replaced_twice : {X : Type 0} (es : List (ℕ × X)) (key : ℕ) (x y : X) → with_record (with_record es key x) key y ≡ with_record es key y
replaced_twice {X} es key x y =
    let first : ℕ × X → ℕ × X = λ e. (e.0, cond (e.0 == key) x e.1) in
    let second : ℕ × X → ℕ × X = λ e. (e.0, cond (e.0 == key) y e.1) in
    map_map second first es ∙ map_within (λ e. second (first e)) second es (each_here (λ e. second (first e) ≡ second e) (λ e i. (e.0, step (e.0 == key) e.1 i)) es)
  where
    step : (b : Bool) (z : X) → cond b y (cond b x z) ≡ cond b y z
    step true z = refl
    step false z = refl

-- A record taken away.

pub records_without : {X : Type 0} (name : X → List ℕ) (es : List (ℕ × X)) (key : ℕ) (x : X) → Apart (λ e. e.0) es → Apart (λ e. name e.1) es → record_at es key ≡ Some x →
    records_of (without_key es key) ≡ filter (λ m. not (same_name (name m) (name x))) (records_of es)
records_without {X} name es key x keys names h =
    ap (λ l. records_of l) (filter_within (λ e. not (e.0 == key)) (λ e. not (same_name (name e.1) (name x))) es
    (each_weaker (λ e. ((e.0 == key) ≡ same_name (name e.1) (name x)) × ((e.0 == key) ≡ true → e.1 ≡ x)) (λ e. not (e.0 == key) ≡ not (same_name (name e.1) (name x))) (λ e at. ap not at.0) es (alone name es key x keys names h)))
    ∙ sym (filter_map (λ m. not (same_name (name m) (name x))) (λ e. e.1) es)

pub keys_without : {X : Type 0} (es : List (ℕ × X)) (key : ℕ) → keys_of (without_key es key) ≡ Lists.without_key (keys_of es) key
keys_without es key = sym (filter_map (λ k. not (k == key)) (λ e. e.0) es)

either_none : {X : Type 0} (b : Bool) (o : Option X) → o ≡ None → o ≡ cond b None o
either_none true o e = e
either_none false o e = refl

pub record_without : {X : Type 0} (es : List (ℕ × X)) (key k : ℕ) → record_at (without_key es key) k ≡ cond (k == key) None (record_at es k)
record_without {X} [] key k = either_none {X = X} (k == key) None refl
record_without {X} (e ∷ es) key k = step (e.0 == key) refl (e.0 == k) refl (record_without es key k)
  where
    step : (b : Bool) → (e.0 == key) ≡ b → (c : Bool) → (e.0 == k) ≡ c → record_at (without_key es key) k ≡ cond (k == key) None (record_at es k) →
        record_at (cond (not b) (e ∷ without_key es key) (without_key es key)) k ≡ cond (k == key) None (option_map (λ (f : ℕ × X). f.1) (cond c (Some e) (find (λ f. f.0 == k) es)))
    step true at true here rest =
        let same : k ≡ key = sym (eqb-true e.0 k here) ∙ eqb-true e.0 key at in
        rest ∙ ap (λ (b : Bool). cond b None (record_at es k)) (eq-eqb k key same) ∙ ap (λ (b : Bool). cond b None (Some e.1)) (sym (eq-eqb k key same))
    step true at false here rest = rest
    step false at true here rest =
        let off : (k == key) ≡ false = ap (λ (n : ℕ). n == key) (sym (eqb-true e.0 k here)) ∙ at in
        ap (λ (b : Bool). option_map (λ (f : ℕ × X). f.1) (cond b (Some e) (find (λ f. f.0 == k) (without_key es key)))) here ∙ ap (λ (b : Bool). cond b None (Some e.1)) (sym off)
    step false at false here rest = ap (λ (b : Bool). option_map (λ (f : ℕ × X). f.1) (cond b (Some e) (find (λ f. f.0 == k) (without_key es key)))) here ∙ rest

-- A record added.

pub record_added : {X : Type 0} (es : List (ℕ × X)) (key : ℕ) (y : X) (k : ℕ) → record_at es key ≡ None → record_at (es ++ (key, y) ∷ []) k ≡ cond (k == key) (Some y) (record_at es k)
record_added {X} [] key y k h = step (key == k) refl
  where
    step : (b : Bool) → (key == k) ≡ b → option_map (λ (f : ℕ × X). f.1) (cond b (Some (key, y)) None) ≡ cond (k == key) (Some y) None
    step true at = ap (λ (b : Bool). cond b (Some y) None) (sym (eq-eqb k key (sym (eqb-true key k at))))
    step false at = ap (λ (b : Bool). cond b (Some y) None) (sym (ne_eqb k key (λ same. eqb-false key k at (sym same))))
record_added {X} (e ∷ es) key y k h = step (e.0 == k) refl (λ g. record_added es key y k g) (e.0 == key) refl h
  where
    step : (c : Bool) → (e.0 == k) ≡ c → (record_at es key ≡ None → record_at (es ++ (key, y) ∷ []) k ≡ cond (k == key) (Some y) (record_at es k)) → (b : Bool) → (e.0 == key) ≡ b → option_map (λ (f : ℕ × X). f.1) (cond b (Some e) (find (λ f. f.0 == key) es)) ≡ None →
        option_map (λ (f : ℕ × X). f.1) (cond c (Some e) (find (λ f. f.0 == k) (es ++ (key, y) ∷ []))) ≡ cond (k == key) (Some y) (option_map (λ (f : ℕ × X). f.1) (cond c (Some e) (find (λ f. f.0 == k) es)))
    step c here rest true at g = cc
    step true here rest false at g = ap (λ (b : Bool). cond b (Some y) (Some e.1)) (sym (ap (λ (n : ℕ). n == key) (sym (eqb-true e.0 k here)) ∙ at))
    step false here rest false at g = rest g

pub record_pushed : {X : Type 0} (es : List (ℕ × X)) (key : ℕ) (y : X) → record_at es key ≡ None → record_at (es ++ (key, y) ∷ []) key ≡ Some y
record_pushed es key y free = record_added es key y key free ∙ ap (λ (b : Bool). cond b (Some y) (record_at es key)) (eq-eqb key key refl)

-- Sums over the records.

pub sum_with : {X : Type 0} (f : X → ℕ) (es : List (ℕ × X)) (key : ℕ) (x y : X) → Apart (λ e. e.0) es → record_at es key ≡ Some x → sum_by f (records_of (with_record es key y)) + f x ≡ sum_by f (records_of es) + f y
sum_with f [] key x y apart h = cc
sum_with {X} f (e ∷ es) key x y apart h = step (e.0 == key) refl (λ g. sum_with f es key x y apart.1 g) h
  where
    step : (b : Bool) → (e.0 == key) ≡ b → (record_at es key ≡ Some x → sum_by f (records_of (with_record es key y)) + f x ≡ sum_by f (records_of es) + f y) → option_map (λ (g : ℕ × X). g.1) (cond b (Some e) (find (λ g. g.0 == key) es)) ≡ Some x →
        sum_by f (records_of (with_record (e ∷ es) key y)) + f x ≡ sum_by f (records_of (e ∷ es)) + f y
    step true at later g =
        let same : e.1 ≡ x = cc in
        let rest : records_of (with_record es key y) ≡ records_of es =
        map_map (λ g. g.1) (λ g. (g.0, cond (g.0 == key) y g.1)) es
        ∙ map_within (λ g. cond (g.0 == key) y g.1) (λ g. g.1) es (each_weaker (λ g. e.0 ≢ g.0) (λ g. cond (g.0 == key) y g.1 ≡ g.1) (λ g apart. ap (λ (b : Bool). cond b y g.1) (ne_eqb g.0 key (λ on. apart (eqb-true e.0 key at ∙ sym on)))) es apart.0) in
        let first : sum_by f (records_of (with_record (e ∷ es) key y)) ≡ f y + sum_by f (records_of es) =
        sum_by-cons f (cond (e.0 == key) y e.1) (records_of (with_record es key y)) ∙ ap (λ (b : Bool). f (cond b y e.1) + sum_by f (records_of (with_record es key y))) at ∙ ap (λ l. f y + sum_by f l) rest in
        omega (arith, first, sum_by-cons f e.1 (records_of es), ap f same)
    step false at later g =
        let first : sum_by f (records_of (with_record (e ∷ es) key y)) ≡ f e.1 + sum_by f (records_of (with_record es key y)) =
        sum_by-cons f (cond (e.0 == key) y e.1) (records_of (with_record es key y)) ∙ ap (λ (b : Bool). f (cond b y e.1) + sum_by f (records_of (with_record es key y))) at in
        omega (arith, first, sum_by-cons f e.1 (records_of es), later g)

pub sum_without : {X : Type 0} (f : X → ℕ) (es : List (ℕ × X)) (key : ℕ) (x : X) → Apart (λ e. e.0) es → record_at es key ≡ Some x → sum_by f (records_of (without_key es key)) + f x ≡ sum_by f (records_of es)
sum_without f [] key x apart h = cc
sum_without {X} f (e ∷ es) key x apart h = step (e.0 == key) refl (λ g. sum_without f es key x apart.1 g) h
  where
    step : (b : Bool) → (e.0 == key) ≡ b → (record_at es key ≡ Some x → sum_by f (records_of (without_key es key)) + f x ≡ sum_by f (records_of es)) → option_map (λ (g : ℕ × X). g.1) (cond b (Some e) (find (λ g. g.0 == key) es)) ≡ Some x →
        sum_by f (records_of (cond (not b) (e ∷ without_key es key) (without_key es key))) + f x ≡ sum_by f (records_of (e ∷ es))
    step true at later g =
        let same : e.1 ≡ x = cc in
        let rest : without_key es key ≡ es = all_kept es (each_weaker (λ g. e.0 ≢ g.0) (λ g. not (g.0 == key) ≡ true) (λ g apart. ap not (ne_eqb g.0 key (λ on. apart (eqb-true e.0 key at ∙ sym on)))) es apart.0) in
        omega (arith, sum_by-cons f e.1 (records_of es), ap f same, ap (λ l. sum_by f (records_of l)) rest)
      where
        all_kept : (fs : List (ℕ × X)) → Each (λ g. not (g.0 == key) ≡ true) fs → without_key fs key ≡ fs
        all_kept [] h = refl
        all_kept (g ∷ fs) h = ap (λ (b : Bool). cond b (g ∷ without_key fs key) (without_key fs key)) h.0 ∙ ap (λ l. g ∷ l) (all_kept fs h.1)
    step false at later g = omega (arith, sum_by-cons f e.1 (records_of (without_key es key)), sum_by-cons f e.1 (records_of es), later g)
