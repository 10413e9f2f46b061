-- Lists of keys in the order of all keys: which keys they have, and where one more belongs.
use Rattle.std.proofs.Common.{◌≡◌, ◌≢◌, ℕ, Bool, true, false, not, cond, ◌==◌, ◌&&◌, ◌||◌, List, [], ◌∷◌, ◌++◌, None, sym, refl, ap, subst, ◌∙◌}
use Rattle.std.proofs.lemmas.Bool.{eq-eqb, eqb-true, ne_eqb}
use Rattle.std.proofs.lemmas.List.{append-nil, map_push}
use Rattle.std.proofs.lemmas.List.Elements.{filter-append}
use Rattle.std.specs.List.{filter}
use Rattle.catalog.specs.Catalog.{record_at}
use Rattle.catalog.specs.kept.Catalog.{keys_of}
use Rattle.design.specs.kept.Keys.{keys_where}
use Rattle.design.specs.kept.Lists.{IsInOrder, contains, with_key_in, without_key}
use Rattle.design.proofs.EntryLemmas.{Apart, Each, absent, each_both, each_here, each_weaker, filter_filter, filter_map, filter_within}

-- Which keys a list has.

contains_none : (key : ℕ) (ks : List ℕ) → Each (λ k. (k == key) ≡ false) ks → contains ks key ≡ false
contains_none key [] h = refl
contains_none key (k ∷ ks) h = ap (λ (b : Bool). b || contains ks key) h.0 ∙ contains_none key ks h.1

each_where : {X : Type 0} (P : ℕ → Type 0) (t : ℕ × X → Bool) (es : List (ℕ × X)) → Each (λ e. P e.0) es → Each P (keys_where t es)
each_where P t [] h = tt
each_where {X} P t (e ∷ es) h = step (t e) (each_where P t es h.1)
  where
    step : (b : Bool) → Each P (keys_where t es) → Each P (keys_of (cond b (e ∷ filter t es) (filter t es)))
    step true rest = (h.0, rest)
    step false rest = rest

-- the keys of the entries that pass are just those
pub has_where : {X : Type 0} (t : ℕ × X → Bool) (es : List (ℕ × X)) → Apart (λ e. e.0) es → Each (λ e. contains (keys_where t es) e.0 ≡ t e) es
has_where t [] apart = tt
has_where {X} t (e ∷ es) apart = (first (t e) refl, each_both (λ f. e.0 ≢ f.0) (λ f. contains (keys_where t es) f.0 ≡ t f) (λ f. contains (keys_where t (e ∷ es)) f.0 ≡ t f) (λ f other h. later f other (t e) refl ∙ h) es apart.0 (has_where t es apart.1))
  where
    first : (b : Bool) → t e ≡ b → contains (keys_where t (e ∷ es)) e.0 ≡ t e
    first true at = ap (λ (b : Bool). contains (keys_of (cond b (e ∷ filter t es) (filter t es))) e.0) at ∙ ap (λ (b : Bool). b || contains (keys_where t es) e.0) (eq-eqb e.0 e.0 refl) ∙ sym at
    first false at =
        ap (λ (b : Bool). contains (keys_of (cond b (e ∷ filter t es) (filter t es))) e.0) at
        ∙ contains_none e.0 (keys_where t es) (each_where (λ k. (k == e.0) ≡ false) t es (each_weaker (λ f. e.0 ≢ f.0) (λ f. (f.0 == e.0) ≡ false) (λ f other. ne_eqb f.0 e.0 (λ same. other (sym same))) es apart.0)) ∙ sym at

    later : (f : ℕ × X) → e.0 ≢ f.0 → (b : Bool) → t e ≡ b → contains (keys_where t (e ∷ es)) f.0 ≡ contains (keys_where t es) f.0
    later f other true at = ap (λ (b : Bool). contains (keys_of (cond b (e ∷ filter t es) (filter t es))) f.0) at ∙ ap (λ (b : Bool). b || contains (keys_where t es) f.0) (ne_eqb e.0 f.0 other)
    later f other false at = ap (λ (b : Bool). contains (keys_of (cond b (e ∷ filter t es) (filter t es))) f.0) at

pub where_in_order : {X : Type 0} (t : ℕ × X → Bool) (es : List (ℕ × X)) → Apart (λ e. e.0) es → IsInOrder (keys_of es) (keys_where t es)
where_in_order {X} t es apart =
    let same : (e : ℕ × X) → contains (keys_where t es) e.0 ≡ t e → t e ≡ contains (keys_where t es) e.0 = λ e h. sym h in
    ap (λ l. keys_of l) (filter_within t (λ e. contains (keys_where t es) e.0) es (each_weaker (λ e. contains (keys_where t es) e.0 ≡ t e) (λ e. t e ≡ contains (keys_where t es) e.0) same es (has_where t es apart)))
    ∙ sym (filter_map (contains (keys_where t es)) (λ e. e.0) es)

-- the keys of the entries that pass, and one key more
pub where_with : {X : Type 0} (t : ℕ × X → Bool) (key : ℕ) (es : List (ℕ × X)) → Apart (λ e. e.0) es → with_key_in (keys_of es) key (keys_where t es) ≡ keys_where (λ e. e.0 == key || t e) es
where_with {X} t key es apart =
    filter_map (λ k. k == key || contains (keys_where t es) k) (λ e. e.0) es
    ∙ ap (λ l. keys_of l) (filter_within (λ e. e.0 == key || contains (keys_where t es) e.0) (λ e. e.0 == key || t e) es (each_weaker (λ e. contains (keys_where t es) e.0 ≡ t e) (λ e. (e.0 == key || contains (keys_where t es) e.0) ≡ (e.0 == key || t e)) (λ e h. ap (λ (b : Bool). e.0 == key || b) h) es (has_where t es apart)))

-- once more the same key
pub with_twice : {X : Type 0} (es : List (ℕ × X)) (key : ℕ) (list : List ℕ) → Apart (λ e. e.0) es → with_key_in (keys_of es) key (with_key_in (keys_of es) key list) ≡ with_key_in (keys_of es) key list
with_twice {X} es key list apart =
    let t : ℕ × X → Bool = λ e. e.0 == key || contains list e.0 in
    let plain : with_key_in (keys_of es) key list ≡ keys_where t es = filter_map (λ k. k == key || contains list k) (λ e. e.0) es in
    let twice : keys_where (λ e. e.0 == key || t e) es ≡ keys_where t es =
    ap (λ l. keys_of l) (filter_within (λ e. e.0 == key || t e) t es (each_here (λ e. (e.0 == key || t e) ≡ t e) (λ e. or_twice (e.0 == key) (contains list e.0)) es)) in
    ap (λ l. with_key_in (keys_of es) key l) plain ∙ where_with t key es apart ∙ twice ∙ sym plain
  where
    or_twice : (a b : Bool) → (a || (a || b)) ≡ (a || b)
    or_twice true b = refl
    or_twice false b = refl

pub with_in_order : {X : Type 0} (es : List (ℕ × X)) (key : ℕ) (list : List ℕ) → Apart (λ e. e.0) es → IsInOrder (keys_of es) (with_key_in (keys_of es) key list)
with_in_order {X} es key list apart =
    let t : ℕ × X → Bool = λ e. e.0 == key || contains list e.0 in
    let plain : with_key_in (keys_of es) key list ≡ keys_where t es = filter_map (λ k. k == key || contains list k) (λ e. e.0) es in
    subst (IsInOrder (keys_of es)) (sym plain) (where_in_order t es apart)

-- with a key more in the order that the list has not
pub more_in_order : {X : Type 0} (es : List (ℕ × X)) (key : ℕ) (x : X) (list : List ℕ) → record_at es key ≡ None → IsInOrder (keys_of es) list → IsInOrder (keys_of (es ++ (key, x) ∷ [])) list
more_in_order {X} es key x list free h =
    let has : ℕ → Bool = contains list in
    let none : has key ≡ false = ap (λ (l : List ℕ). contains l key) (h ∙ filter_map has (λ (e : ℕ × X). e.0) es) ∙ contains_none key (keys_where (λ e. has e.0) es) (each_where (λ k. (k == key) ≡ false) (λ e. has e.0) es (absent es key free)) in
    let off : filter has (key ∷ []) ≡ [] = ap (λ (b : Bool). cond b (key ∷ []) []) none in
    h ∙ sym (append-nil (filter has (keys_of es))) ∙ ap (λ l. filter has (keys_of es) ++ l) (sym off) ∙ sym (filter-append has (keys_of es) (key ∷ [])) ∙ ap (λ l. filter has l) (sym (map_push (λ (e : ℕ × X). e.0) es (key, x)))

-- without a key
pub without_in_order : (keys list : List ℕ) (key : ℕ) → IsInOrder keys list → IsInOrder keys (without_key list key)
without_in_order keys list key h =
    let t : ℕ → Bool = λ k. not (k == key) && contains list k in
    let is : without_key list key ≡ filter t keys = ap (λ l. without_key l key) h ∙ filter_filter (λ k. not (k == key)) (contains list) keys in
    is ∙ filter_within t (contains (without_key list key)) keys (each_here (λ k. t k ≡ contains (without_key list key) k) (λ k. sym (has_without k list)) keys)
  where
    has_without : (k : ℕ) (l : List ℕ) → contains (without_key l key) k ≡ (not (k == key) && contains l k)
    has_without k [] = none (not (k == key))
      where
        none : (b : Bool) → false ≡ (b && false)
        none true = refl
        none false = refl
    has_without k (m ∷ l) = step (m == key) refl (has_without k l)
      where
        step : (b : Bool) → (m == key) ≡ b → contains (without_key l key) k ≡ (not (k == key) && contains l k) → contains (cond (not b) (m ∷ without_key l key) (without_key l key)) k ≡ (not (k == key) && ((m == k) || contains l k))
        step true at rest = rest ∙ gone (m == k) refl
          where
            gone : (c : Bool) → (m == k) ≡ c → (not (k == key) && contains l k) ≡ (not (k == key) && (c || contains l k))
            gone true on = let off : (k == key) ≡ true = eq-eqb k key (sym (eqb-true m k on) ∙ eqb-true m key at) in ap (λ (b : Bool). not b && contains l k) off ∙ ap (λ (b : Bool). not b && true) (sym off)
            gone false on = refl
        step false at rest = ap (λ (b : Bool). (m == k) || b) rest ∙ kept (m == k) refl
          where
            kept : (c : Bool) → (m == k) ≡ c → (c || (not (k == key) && contains l k)) ≡ (not (k == key) && (c || contains l k))
            kept true on = sym (ap (λ (b : Bool). not b && true) (ap (λ (j : ℕ). j == key) (sym (eqb-true m k on)) ∙ at))
            kept false on = refl
