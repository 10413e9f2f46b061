-- Keys in the order of all keys: which stand before a place, and where the key of the place belongs in a list.
use Rattle.std.proofs.Common.{◌≡◌, ◌≢◌, ◌⊎◌, inl, inr, ℕ, zero, suc, ◌+◌, ◌-◌, ◌<◌, ◌≤◌, Bool, true, false, cond, ◌==◌, ◌||◌, List, [], ◌∷◌, length, get_or, Option, Some, None, IsSome, IfSome, option_map, nat_lt, insert, sym, refl, ap, subst, ◌∙◌, arith}
use Rattle.std.proofs.lemmas.Bool.{both_ways, eq-eqb, eqb-true, le-ltb, lt-ltb, ne_eqb}
use Rattle.std.specs.List.{AllWithin, filter, find, position_from}
use Rattle.std.specs.List.Sorted.{IsPartitionPoint, IsPartitionedBy}
use Rattle.std.specs.Option.{option_map_or}
use Rattle.catalog.specs.Catalog.{record_at}
use Rattle.catalog.specs.kept.Catalog.{keys_of, place_of}
use Rattle.design.specs.kept.Keys.{keys_where}
use Rattle.design.specs.kept.Lists.{IsInOrder, contains, with_key_in}
use Rattle.design.proofs.EntryLemmas.{Apart, Each, each_both, each_weaker, filter_map, filter_within}

-- the first p keys pass, and the others don't
abbrev pub Splits : {X : Type 0} → (ℕ → Bool) → ℕ → List (ℕ × X) → Type 0
Splits before p [] = Unit {0}
Splits before zero (e ∷ es) = Each (λ f. before f.0 ≡ false) (e ∷ es)
Splits before (suc p) (e ∷ es) = (before e.0 ≡ true) × Splits before p es

-- the key stands at this place
abbrev pub KeyAt : {X : Type 0} → ℕ → List (ℕ × X) → ℕ → Type 0
KeyAt p [] key = ⊥
KeyAt zero (e ∷ es) key = e.0 ≡ key
KeyAt (suc p) (e ∷ es) key = KeyAt p es key

splits_same : {X : Type 0} (b c : ℕ → Bool) (p : ℕ) (es : List (ℕ × X)) → Each (λ f. b f.0 ≡ c f.0) es → Splits b p es → Splits c p es
splits_same b c p [] same h = tt
splits_same b c zero (e ∷ es) same h = each_both (λ f. b f.0 ≡ c f.0) (λ f. b f.0 ≡ false) (λ f. c f.0 ≡ false) (λ f s off. sym s ∙ off) (e ∷ es) same h
splits_same b c (suc p) (e ∷ es) same h = (sym same.0 ∙ h.0, splits_same b c p es same.1 h.1)

position_above : {X : Type 0} (p : X → Bool) (k i : ℕ) (xs : List X) → position_from p k xs ≡ Some i → k ≤ i
position_above p k i [] h = cc
position_above {X} p k i (x ∷ xs) h = step (p x) (λ g. position_above p (k + 1) i xs g) h
  where
    step : (b : Bool) → (position_from p (k + 1) xs ≡ Some i → k + 1 ≤ i) → cond b (Some k) (position_from p (k + 1) xs) ≡ Some i → k ≤ i
    step true later g = let same : k ≡ i = cc in omega arith
    step false later g = let above = later g in omega (arith, above)

not_before : (o : Option ℕ) (j : ℕ) → ((i : ℕ) → o ≡ Some i → j ≤ i) → option_map_or (λ other. nat_lt other j) o false ≡ false
not_before None j h = refl
not_before (Some i) j h = le-ltb i j (h i refl)

abbrev below : {X : Type 0} → List (ℕ × X) → ℕ → ℕ → ℕ → Bool
below es j place k = option_map_or (λ other. nat_lt other place) (position_from (λ e. e.0 == k) j es) false

splits_from : {X : Type 0} (es : List (ℕ × X)) (j p place : ℕ) → j + p ≡ place → Apart (λ e. e.0) es → Splits (below es j place) p es
splits_from [] j p place e apart = tt
splits_from {X} (x ∷ es) j zero place e apart = all (x ∷ es)
  where
    all : (fs : List (ℕ × X)) → Each (λ f. below (x ∷ es) j place f.0 ≡ false) fs
    all [] = tt
    all (f ∷ fs) =
        let low : place ≡ j = omega (arith, e) in
        (ap (λ (q : ℕ). below (x ∷ es) j q f.0) low ∙ not_before (position_from (λ g. g.0 == f.0) j (x ∷ es)) j (λ i h. position_above (λ g. g.0 == f.0) j i (x ∷ es) h), all fs)
splits_from {X} (x ∷ es) j (suc p) place e apart =
    let here : below (x ∷ es) j place x.0 ≡ true =
    ap (λ (b : Bool). option_map_or (λ other. nat_lt other place) (cond b (Some j) (position_from (λ g. g.0 == x.0) (j + 1) es)) false) (eq-eqb x.0 x.0 refl) ∙ lt-ltb j place (omega (arith, e)) in
    let rest : Splits (below es (j + 1) place) p es = splits_from es (j + 1) p place (omega (arith, e)) apart.1 in (
      here,
      splits_same (below es (j + 1) place) (below (x ∷ es) j place) p es
          (each_weaker (λ f. x.0 ≢ f.0) (λ f. below es (j + 1) place f.0 ≡ below (x ∷ es) j place f.0)
          (λ f other. ap (λ (b : Bool). option_map_or (λ other. nat_lt other place) (cond b (Some j) (position_from (λ g. g.0 == f.0) (j + 1) es)) false) (sym (ne_eqb x.0 f.0 other))) es apart.0) rest,
    )

pub splits : {X : Type 0} (es : List (ℕ × X)) (place : ℕ) → Apart (λ e. e.0) es → Splits (λ k. option_map_or (λ other. nat_lt other place) (place_of es k) false) place es
splits es place apart = splits_from es 0 place place (omega arith) apart

key_at_from : {X : Type 0} (es : List (ℕ × X)) (j p place key : ℕ) → j + p ≡ place → position_from (λ e. e.0 == key) j es ≡ Some place → KeyAt p es key
key_at_from [] j p place key e h = cc
key_at_from {X} (x ∷ es) j zero place key e h = step (x.0 == key) refl h
  where
    step : (b : Bool) → (x.0 == key) ≡ b → cond b (Some j) (position_from (λ g. g.0 == key) (j + 1) es) ≡ Some place → x.0 ≡ key
    step true at g = eqb-true x.0 key at
    step false at g = let above = position_above (λ f. f.0 == key) (j + 1) place es g in absurd (omega (arith, above, e))
key_at_from {X} (x ∷ es) j (suc p) place key e h = step (x.0 == key) (λ g. key_at_from es (j + 1) p place key (omega (arith, e)) g) h
  where
    step : (b : Bool) → (position_from (λ g. g.0 == key) (j + 1) es ≡ Some place → KeyAt p es key) → cond b (Some j) (position_from (λ g. g.0 == key) (j + 1) es) ≡ Some place → KeyAt p es key
    step true later g = let same : j ≡ place = cc in absurd (omega (arith, e, same))
    step false later g = later g

pub key_at : {X : Type 0} (es : List (ℕ × X)) (place key : ℕ) → place_of es key ≡ Some place → KeyAt place es key
key_at es place key h = key_at_from es 0 place place key (omega arith) h

-- A search for the place.

each_at : {X : Type 0} (P : X → Type 0) (xs : List X) → Each P xs → (k : ℕ) (d : X) → k < length xs → P (get_or xs k d)
each_at P [] h k d within = absurd (omega arith)
each_at P (x ∷ xs) h zero d within = h.0
each_at P (x ∷ xs) h (suc k) d within = each_at P xs h.1 k d (omega arith)

each_key : {X : Type 0} (P : ℕ → Type 0) (t : ℕ × X → Bool) (es : List (ℕ × X)) → Each (λ e. P e.0) es → Each P (keys_where t es)
each_key P t [] h = tt
each_key {X} P t (e ∷ es) h = step (t e) (each_key P t es h.1)
  where
    step : (b : Bool) → Each P (keys_where t es) → Each P (keys_of (cond b (e ∷ filter t es) (filter t es)))
    step true rest = (h.0, rest)
    step false rest = rest

where_partitioned : {X : Type 0} (before : ℕ → Bool) (t : ℕ × X → Bool) (p : ℕ) (es : List (ℕ × X)) → Splits before p es → IsPartitionedBy before (keys_where t es)
where_partitioned before t p [] h i j d low within on = absurd (omega arith)
where_partitioned before t zero (e ∷ es) h i j d low within on =
    let off : before (get_or (keys_where t (e ∷ es)) j d) ≡ false = each_at (λ k. before k ≡ false) (keys_where t (e ∷ es)) (each_key (λ k. before k ≡ false) t (e ∷ es) h) j d within in
    absurd (both_ways (before (get_or (keys_where t (e ∷ es)) j d)) off on)
where_partitioned {X} before t (suc p) (e ∷ es) h i j d low within on = step (t e) (where_partitioned before t p es h.1) i j low within on
  where
    step : (b : Bool) → IsPartitionedBy before (keys_where t es) → (i j : ℕ) → i ≤ j → j < length (keys_of (cond b (e ∷ filter t es) (filter t es))) → before (get_or (keys_of (cond b (e ∷ filter t es) (filter t es))) j d) ≡ true → before (get_or (keys_of (cond b (e ∷ filter t es) (filter t es))) i d) ≡ true
    step true rest zero j low within on = h.0
    step true rest (suc i) zero low within on = absurd (omega arith)
    step true rest (suc i) (suc j) low within on = rest i j d (omega arith) (omega arith) on
    step false rest i j low within on = rest i j d low within on

ordered_is : {X : Type 0} (es : List (ℕ × X)) (list : List ℕ) → IsInOrder (keys_of es) list → list ≡ keys_where (λ e. contains list e.0) es
ordered_is es list h = h ∙ filter_map (contains list) (λ e. e.0) es

pub in_order_partitioned : {X : Type 0} (es : List (ℕ × X)) (list : List ℕ) (place : ℕ) → Apart (λ e. e.0) es → IsInOrder (keys_of es) list → IsPartitionedBy (λ k. option_map_or (λ other. nat_lt other place) (place_of es k) false) list
in_order_partitioned es list place apart h =
    let before : ℕ → Bool = λ k. option_map_or (λ other. nat_lt other place) (place_of es k) false in
    subst (IsPartitionedBy before) (sym (ordered_is es list h)) (where_partitioned before (λ e. contains list e.0) place es (splits es place apart))

-- The key put at its place.

key_apart : {X : Type 0} (P : ℕ → Type 0) (p : ℕ) (es : List (ℕ × X)) (key : ℕ) → KeyAt p es key → Each (λ f. P f.0) es → P key
key_apart P p [] key at h = absurd at
key_apart P zero (e ∷ es) key at h = subst P at h.0
key_apart P (suc p) (e ∷ es) key at h = key_apart P p es key at h.1

put_at : {X : Type 0} (before : ℕ → Bool) (t : ℕ × X → Bool) (p : ℕ) (es : List (ℕ × X)) (key n : ℕ) → Splits before p es → KeyAt p es key → Apart (λ e. e.0) es →
    AllWithin (λ k. before k ≡ true) (keys_where t es) 0 n → AllWithin (λ k. before k ≡ false) (keys_where t es) n (length (keys_where t es)) → n ≤ length (keys_where t es) → (n < length (keys_where t es) → (d : ℕ) → get_or (keys_where t es) n d ≢ key) →
    insert (keys_where t es) n key ≡ keys_where (λ e. e.0 == key || t e) es
put_at before t p [] key n split at apart front back within free = absurd at
put_at {X} before t zero (e ∷ es) key (suc n) split at apart front back within free =
    let off : before (get_or (keys_where t (e ∷ es)) 0 0) ≡ false = each_at (λ k. before k ≡ false) (keys_where t (e ∷ es)) (each_key (λ k. before k ≡ false) t (e ∷ es) split) 0 0 (omega arith) in
    absurd (both_ways (before (get_or (keys_where t (e ∷ es)) 0 0)) off (front 0 0 (omega arith) (omega arith)))
put_at {X} before t zero (e ∷ es) key zero split at apart front back within free = step (t e) refl free
  where
    step : (b : Bool) → t e ≡ b → (0 < length (keys_of (cond b (e ∷ filter t es) (filter t es))) → (d : ℕ) → get_or (keys_of (cond b (e ∷ filter t es) (filter t es))) 0 d ≢ key) → insert (keys_of (cond (t e) (e ∷ filter t es) (filter t es))) zero key ≡ keys_where (λ f. f.0 == key || t f) (e ∷ es)
    step true on room = absurd (room (omega arith) 0 at)
    step false on room =
        let same : (f : ℕ × X) → e.0 ≢ f.0 → t f ≡ (f.0 == key || t f) = λ f other. ap (λ (b : Bool). b || t f) (sym (ne_eqb f.0 key (λ same. other (at ∙ sym same)))) in
        let list : keys_where t es ≡ keys_where (λ f. f.0 == key || t f) es = ap (λ l. keys_of l) (filter_within t (λ f. f.0 == key || t f) es (each_weaker (λ f. e.0 ≢ f.0) (λ f. t f ≡ (f.0 == key || t f)) same es apart.0)) in
        let back : key ≡ e.0 = sym at in
        ap (λ (b : Bool). key ∷ keys_of (cond b (e ∷ filter t es) (filter t es))) on
        ∙ (λ i. back i ∷ list i)
        ∙ ap (λ (b : Bool). keys_of (cond (b || t e) (e ∷ filter (λ f. f.0 == key || t f) es) (filter (λ f. f.0 == key || t f) es))) (sym (eq-eqb e.0 key at))
put_at {X} before t (suc p) (e ∷ es) key n split at apart front back within free =
    step (t e) (λ m f b w r. put_at before t p es key m split.1 at apart.1 f b w r) n front back within free (key_apart (λ k. e.0 ≢ k) p es key at apart.0) split.0
  where
    more : List (ℕ × X)
    more = filter (λ f. f.0 == key || t f) es

    step : (b : Bool) → ((m : ℕ) → AllWithin (λ k. before k ≡ true) (keys_where t es) 0 m → AllWithin (λ k. before k ≡ false) (keys_where t es) m (length (keys_where t es)) → m ≤ length (keys_where t es) → (m < length (keys_where t es) → (d : ℕ) → get_or (keys_where t es) m d ≢ key) → insert (keys_where t es) m key ≡ keys_of more) →
        (m : ℕ) → AllWithin (λ k. before k ≡ true) (keys_of (cond b (e ∷ filter t es) (filter t es))) 0 m → AllWithin (λ k. before k ≡ false) (keys_of (cond b (e ∷ filter t es) (filter t es))) m (length (keys_of (cond b (e ∷ filter t es) (filter t es)))) → m ≤ length (keys_of (cond b (e ∷ filter t es) (filter t es))) →
        (m < length (keys_of (cond b (e ∷ filter t es) (filter t es))) → (d : ℕ) → get_or (keys_of (cond b (e ∷ filter t es) (filter t es))) m d ≢ key) → e.0 ≢ key → before e.0 ≡ true →
        insert (keys_of (cond b (e ∷ filter t es) (filter t es))) m key ≡ keys_of (cond (e.0 == key || b) (e ∷ filter (λ f. f.0 == key || t f) es) (filter (λ f. f.0 == key || t f) es))
    step true ih zero f b w r other on = absurd (both_ways (before e.0) (b zero 0 (omega arith) (omega arith)) on)
    step true ih (suc m) f b w r other on =
        ap (λ l. e.0 ∷ l) (ih m (λ k d low high. f (suc k) d (omega arith) (omega arith)) (λ k d low high. b (suc k) d (omega arith) (omega arith)) (omega arith) (λ room. r (omega arith)))
        ∙ ap (λ (c : Bool). keys_of (cond (c || true) (e ∷ filter (λ f. f.0 == key || t f) es) (filter (λ f. f.0 == key || t f) es))) (sym (ne_eqb e.0 key other))
    step false ih m f b w r other on =
        ih m f b w r ∙ ap (λ (c : Bool). keys_of (cond (c || false) (e ∷ filter (λ f. f.0 == key || t f) es) (filter (λ f. f.0 == key || t f) es))) (sym (ne_eqb e.0 key other))

-- the key put where the search ends, which has not found it
pub put_in_order : {X : Type 0} (es : List (ℕ × X)) (list : List ℕ) (key place n : ℕ) → Apart (λ e. e.0) es → IsInOrder (keys_of es) list → place_of es key ≡ Some place →
    AllWithin (λ k. option_map_or (λ other. nat_lt other place) (place_of es k) false ≡ true) list 0 n → AllWithin (λ k. option_map_or (λ other. nat_lt other place) (place_of es k) false ≡ false) list n (length list) → n ≤ length list → (n < length list → (d : ℕ) → get_or list n d ≢ key) →
    insert list n key ≡ with_key_in (keys_of es) key list
put_in_order {X} es list key place n apart ordered at front back within free =
    let before : ℕ → Bool = λ k. option_map_or (λ other. nat_lt other place) (place_of es k) false in
    let t : ℕ × X → Bool = λ e. contains list e.0 in
    let is : list ≡ keys_where t es = ordered_is es list ordered in
    let Ready : List ℕ → Type 0 = λ l. AllWithin (λ k. before k ≡ true) l 0 n × AllWithin (λ k. before k ≡ false) l n (length l) × (n ≤ length l) × (n < length l → (d : ℕ) → get_or l n d ≢ key) in
    let ready : Ready (keys_where t es) = subst Ready is (front, back, within, free) in
    ap (λ l. insert l n key) is ∙ put_at before t place es key n (splits es place apart) (key_at es place key at) apart ready.0 ready.1 ready.2 ready.3
    ∙ sym (filter_map (λ k. k == key || contains list k) (λ e. e.0) es)

-- a record has a place
no_place : {X : Type 0} (es : List (ℕ × X)) (key : ℕ) → place_of es key ≡ None → record_at es key ≡ None
no_place {X} es key h = from es 0 h
  where
    from : (fs : List (ℕ × X)) (j : ℕ) → position_from (λ e. e.0 == key) j fs ≡ None → record_at fs key ≡ None
    from [] j h = refl
    from (f ∷ fs) j h = step (f.0 == key) (λ g. from fs (j + 1) g) h
      where
        step : (b : Bool) → (position_from (λ e. e.0 == key) (j + 1) fs ≡ None → record_at fs key ≡ None) → cond b (Some j) (position_from (λ e. e.0 == key) (j + 1) fs) ≡ None → option_map (λ (e : ℕ × X). e.1) (cond b (Some f) (find (λ e. e.0 == key) fs)) ≡ None
        step true later g = cc
        step false later g = later g

none_some : {X : Type 0} (o : Option X) → o ≡ None → IsSome o → ⊥
none_some None e h = cc
none_some (Some x) e h = cc

pub placed : {X : Type 0} (es : List (ℕ × X)) (key : ℕ) → IsSome (record_at es key) → place_of es key ≡ None → ⊥
placed es key there none = none_some (record_at es key) (no_place es key none) there

-- the key put where the search ends
pub put_where : {X : Type 0} (es : List (ℕ × X)) (list : List ℕ) (key n : ℕ) → Apart (λ e. e.0) es → IsInOrder (keys_of es) list → IsSome (record_at es key) →
    IfSome (place_of es key) (λ place. IsPartitionPoint (λ k. option_map_or (λ other. nat_lt other place) (place_of es k) false ≡ true) (λ k. option_map_or (λ other. nat_lt other place) (place_of es k) false ≡ false) list n) → n ≤ length list → (n < length list → (d : ℕ) → get_or list n d ≢ key) →
    insert list n key ≡ with_key_in (keys_of es) key list
put_where {X} es list key n apart ordered there split within free = step (place_of es key) refl split
  where
    step : (o : Option ℕ) → place_of es key ≡ o → IfSome o (λ place. IsPartitionPoint (λ k. option_map_or (λ other. nat_lt other place) (place_of es k) false ≡ true) (λ k. option_map_or (λ other. nat_lt other place) (place_of es k) false ≡ false) list n) → insert list n key ≡ with_key_in (keys_of es) key list
    step None at h = absurd (placed es key there at)
    step (Some place) at h = put_in_order es list key place n apart ordered at h.0 h.1 within free

-- The key that is the last of all stands behind the others: a list that does not end with it has only keys that stand before it.

last_alone : {X : Type 0} (before : ℕ → Bool) (p : ℕ) (es : List (ℕ × X)) (key : ℕ) → length es ≡ p + 1 → Splits before p es → KeyAt p es key → Each (λ e. (before e.0 ≡ true) ⊎ (e.0 ≡ key)) es
last_alone before p [] key long split at = absurd at
last_alone before zero (e ∷ []) key long split at = (inr at, tt)
last_alone before zero (e ∷ f ∷ es) key long split at = absurd (omega arith)
last_alone before (suc p) (e ∷ es) key long split at = (inl split.0, last_alone before p es key (omega arith) split.1 at)

pub ends_before : {X : Type 0} (es : List (ℕ × X)) (list : List ℕ) (key place : ℕ) → Apart (λ e. e.0) es → IsInOrder (keys_of es) list → place_of es key ≡ Some place → place + 1 ≡ length es →
    (0 < length list → (d : ℕ) → get_or list (length list - 1) d ≢ key) →
    IsPartitionPoint (λ k. option_map_or (λ other. nat_lt other place) (place_of es k) false ≡ true) (λ k. option_map_or (λ other. nat_lt other place) (place_of es k) false ≡ false) list (length list)
ends_before {X} es list key place apart ordered at last other =
    let before : ℕ → Bool = λ k. option_map_or (λ other. nat_lt other place) (place_of es k) false in
    let P : ℕ → Type 0 = λ k. (before k ≡ true) ⊎ (k ≡ key) in
    let all : Each P list = subst (Each P) (sym (ordered_is es list ordered)) (each_key P (λ e. contains list e.0) es (last_alone before place es key (omega (arith, last)) (splits es place apart) (key_at es place key at))) in
    let parted = in_order_partitioned es list place apart ordered in (
      λ i d low high. (
          let end : P (get_or list (length list - 1) d) = each_at P list all (length list - 1) d (omega arith) in
          elim end [
            | inl on ↦ parted i (length list - 1) d (omega arith) (omega arith) on
            | inr same ↦ absurd (other (omega arith) d same)
          ]
          ),
      λ i d low high. absurd (omega arith),
    )
