-- Entries, each a record under a key: those of one key, and lists of keys beside them.
use Rattle.std.proofs.Common.{◌≡◌, ◌≢◌, ℕ, zero, suc, Bool, true, false, cond, ◌==◌, ◌&&◌, ◌||◌, List, [], ◌∷◌, ◌++◌, map, Some, None, option_map, AllPairs, All, sym, refl, ap, subst, ◌∙◌, arith}
use Rattle.std.proofs.lemmas.Bool.{both_ways, eqb-true, ne_eqb}
use Rattle.std.proofs.lemmas.List.Elements.{All-cons, All-head, All-tail}
use Rattle.std.proofs.lemmas.List.Kept.{AllPairs-cons}
use Rattle.std.specs.List.{filter, find, list_all, list_any}
use Rattle.catalog.specs.Catalog.{record_at}
use Rattle.catalog.specs.kept.Catalog.{keys_of}
use Rattle.design.specs.Names.{same_name}
use Rattle.design.proofs.NameLemmas.{name_differs, name_same}

-- Each and apart, by recursion.

abbrev pub Each : {X : Type 0} → (X → Type 0) → List X → Type 0
Each P [] = Unit {0}
Each P (x ∷ xs) = P x × Each P xs

-- no two have the same image
abbrev pub Apart : {X Y : Type 0} → (X → Y) → List X → Type 0
Apart f [] = Unit {0}
Apart f (x ∷ xs) = Each (λ y. f x ≢ f y) xs × Apart f xs

pub each_weaker : {X : Type 0} (P Q : X → Type 0) → ((x : X) → P x → Q x) → (xs : List X) → Each P xs → Each Q xs
each_weaker P Q w [] h = tt
each_weaker P Q w (x ∷ xs) h = (w x h.0, each_weaker P Q w xs h.1)

pub each_both : {X : Type 0} (P Q R : X → Type 0) → ((x : X) → P x → Q x → R x) → (xs : List X) → Each P xs → Each Q xs → Each R xs
each_both P Q R w [] h g = tt
each_both P Q R w (x ∷ xs) h g = (w x h.0 g.0, each_both P Q R w xs h.1 g.1)

pub each_here : {X : Type 0} (P : X → Type 0) → ((x : X) → P x) → (xs : List X) → Each P xs
each_here P h [] = tt
each_here P h (x ∷ xs) = (h x, each_here P h xs)

pub each_from : {X Y : Type 0} (P : Y → Type 0) (f : X → Y) (xs : List X) → All P (map f xs) → Each (λ x. P (f x)) xs
each_from P f [] h = tt
each_from P f (x ∷ xs) h = (All-head P (f x) (map f xs) h, each_from P f xs (All-tail P (f x) (map f xs) h))

pub each_to : {X Y : Type 0} (P : Y → Type 0) (f : X → Y) (xs : List X) → Each (λ x. P (f x)) xs → All P (map f xs)
each_to P f [] h = λ k d within. absurd (omega arith)
each_to P f (x ∷ xs) h = All-cons P (f x) (map f xs) h.0 (each_to P f xs h.1)

pairs_head : {X : Type 0} (R : X → X → Type 0) (x : X) (xs : List X) → AllPairs R (x ∷ xs) → All (R x) xs
pairs_head R x xs h = λ k d within. h zero (suc k) d (omega arith) (omega arith)

pairs_tail : {X : Type 0} (R : X → X → Type 0) (x : X) (xs : List X) → AllPairs R (x ∷ xs) → AllPairs R xs
pairs_tail R x xs h = λ i j d below within. h (suc i) (suc j) d (omega arith) (omega arith)

pub apart_from : {X Y Z : Type 0} (f : X → Y) (g : Y → Z) (xs : List X) → AllPairs (λ a b. g a ≢ g b) (map f xs) → Apart (λ x. g (f x)) xs
apart_from f g [] h = tt
apart_from f g (x ∷ xs) h =
    (each_from (λ y. g (f x) ≢ g y) f xs (pairs_head (λ a b. g a ≢ g b) (f x) (map f xs) h), apart_from f g xs (pairs_tail (λ a b. g a ≢ g b) (f x) (map f xs) h))

pub apart_to : {X Y Z : Type 0} (f : X → Y) (g : Y → Z) (xs : List X) → Apart (λ x. g (f x)) xs → AllPairs (λ a b. g a ≢ g b) (map f xs)
apart_to f g [] h = λ i j d below within. absurd (omega arith)
apart_to f g (x ∷ xs) h = AllPairs-cons (λ a b. g a ≢ g b) (f x) (map f xs) (each_to (λ y. g (f x) ≢ g y) f xs h.0) (apart_to f g xs h.1)

pub each_map : {X Y : Type 0} (P : Y → Type 0) (f : X → Y) (xs : List X) → Each (λ x. P (f x)) xs → Each P (map f xs)
each_map P f [] h = tt
each_map P f (x ∷ xs) h = (h.0, each_map P f xs h.1)

pub each_push : {X : Type 0} (P : X → Type 0) (xs : List X) (x : X) → Each P xs → P x → Each P (xs ++ x ∷ [])
each_push P [] x h one = (one, tt)
each_push P (y ∷ xs) x h one = (h.0, each_push P xs x h.1 one)

pub each_filter : {X : Type 0} (P : X → Type 0) (p : X → Bool) (xs : List X) → Each P xs → Each P (filter p xs)
each_filter P p [] h = tt
each_filter {X} P p (x ∷ xs) h = step (p x) (each_filter P p xs h.1)
  where
    step : (b : Bool) → Each P (filter p xs) → Each P (cond b (x ∷ filter p xs) (filter p xs))
    step true rest = (h.0, rest)
    step false rest = rest

pub apart_filter : {X Y : Type 0} (f : X → Y) (p : X → Bool) (xs : List X) → Apart f xs → Apart f (filter p xs)
apart_filter f p [] h = tt
apart_filter {X} f p (x ∷ xs) h = step (p x) (apart_filter f p xs h.1)
  where
    step : (b : Bool) → Apart f (filter p xs) → Apart f (cond b (x ∷ filter p xs) (filter p xs))
    step true rest = (each_filter (λ y. f x ≢ f y) p xs h.0, rest)
    step false rest = rest

-- one more, whose image none of the others has
pub apart_push : {X Y : Type 0} (f : X → Y) (xs : List X) (x : X) → Apart f xs → Each (λ y. f y ≢ f x) xs → Apart f (xs ++ x ∷ [])
apart_push f [] x h other = (tt, tt)
apart_push f (y ∷ xs) x h other = (each_push (λ z. f y ≢ f z) xs x h.0 other.0, apart_push f xs x h.1 other.1)

-- no image is this name
pub unnamed : {X : Type 0} (name : X → List ℕ) (xs : List X) (n : List ℕ) → list_any (λ x. same_name (name x) n) xs ≡ false → Each (λ x. name x ≢ n) xs
unnamed name [] n h = tt
unnamed {X} name (x ∷ xs) n h = step (same_name (name x) n) refl (λ none. unnamed name xs n none) h
  where
    step : (b : Bool) → same_name (name x) n ≡ b → (list_any (λ y. same_name (name y) n) xs ≡ false → Each (λ y. name y ≢ n) xs) → (b || list_any (λ y. same_name (name y) n) xs) ≡ false → (name x ≢ n) × Each (λ y. name y ≢ n) xs
    step true at rest none = absurd (cc)
    step false at rest none = ((λ same. both_ways (same_name (name x) n) at (name_same (name x) n same)), rest none)

pub each_unmap : {X Y : Type 0} (P : Y → Type 0) (f : X → Y) (xs : List X) → Each P (map f xs) → Each (λ x. P (f x)) xs
each_unmap P f [] h = tt
each_unmap P f (x ∷ xs) h = (h.0, each_unmap P f xs h.1)

pub apart_map : {X Y Z : Type 0} (g : Y → Z) (f : X → Y) (xs : List X) → Apart (λ x. g (f x)) xs → Apart g (map f xs)
apart_map g f [] h = tt
apart_map g f (x ∷ xs) h = (each_map (λ y. g (f x) ≢ g y) f xs h.0, apart_map g f xs h.1)

pub apart_unmap : {X Y Z : Type 0} (g : Y → Z) (f : X → Y) (xs : List X) → Apart g (map f xs) → Apart (λ x. g (f x)) xs
apart_unmap g f [] h = tt
apart_unmap g f (x ∷ xs) h = (each_unmap (λ y. g (f x) ≢ g y) f xs h.0, apart_unmap g f xs h.1)

pub map_within : {X Y : Type 0} (f g : X → Y) (xs : List X) → Each (λ x. f x ≡ g x) xs → map f xs ≡ map g xs
map_within f g [] h = refl
map_within f g (x ∷ xs) h = let first = h.0 in let rest = map_within f g xs h.1 in λ i. first i ∷ rest i

pub map_map : {X Y Z : Type 0} (g : Y → Z) (f : X → Y) (xs : List X) → map g (map f xs) ≡ map (λ x. g (f x)) xs
map_map g f [] = refl
map_map g f (x ∷ xs) = ap (λ l. g (f x) ∷ l) (map_map g f xs)

pub filter_within : {X : Type 0} (p q : X → Bool) (xs : List X) → Each (λ x. p x ≡ q x) xs → filter p xs ≡ filter q xs
filter_within p q [] h = refl
filter_within p q (x ∷ xs) h = ap (λ b. cond b (x ∷ filter p xs) (filter p xs)) h.0 ∙ ap (λ l. cond (q x) (x ∷ l) l) (filter_within p q xs h.1)

pub find_within : {X : Type 0} (p q : X → Bool) (xs : List X) → Each (λ x. p x ≡ q x) xs → find p xs ≡ find q xs
find_within p q [] h = refl
find_within p q (x ∷ xs) h = ap (λ b. cond b (Some x) (find p xs)) h.0 ∙ ap (λ o. cond (q x) (Some x) o) (find_within p q xs h.1)

pub any_within : {X : Type 0} (p q : X → Bool) (xs : List X) → Each (λ x. p x ≡ q x) xs → list_any p xs ≡ list_any q xs
any_within p q [] h = refl
any_within p q (x ∷ xs) h = ap (λ b. b || list_any p xs) h.0 ∙ ap (λ b. q x || b) (any_within p q xs h.1)

pub any_map : {X Y : Type 0} (p : Y → Bool) (f : X → Y) (xs : List X) → list_any p (map f xs) ≡ list_any (λ x. p (f x)) xs
any_map p f [] = refl
any_map p f (x ∷ xs) = ap (λ b. p (f x) || b) (any_map p f xs)

pub any_none : {X : Type 0} (p : X → Bool) (xs : List X) → list_any p xs ≡ false → Each (λ x. p x ≡ false) xs
any_none p [] h = tt
any_none {X} p (x ∷ xs) h = step (p x) refl (λ none. any_none p xs none) h
  where
    step : (b : Bool) → p x ≡ b → (list_any p xs ≡ false → Each (λ y. p y ≡ false) xs) → (b || list_any p xs) ≡ false → (p x ≡ false) × Each (λ y. p y ≡ false) xs
    step true at rest none = absurd (cc)
    step false at rest none = (at, rest none)

pub all_map : {X Y : Type 0} (p : Y → Bool) (f : X → Y) (xs : List X) → Each (λ x. p (f x) ≡ true) xs → list_all p (map f xs) ≡ true
all_map p f [] h = refl
all_map p f (x ∷ xs) h = ap (λ b. b && list_all p (map f xs)) h.0 ∙ all_map p f xs h.1

pub filter_map : {X Y : Type 0} (p : Y → Bool) (f : X → Y) (xs : List X) → filter p (map f xs) ≡ map f (filter (λ x. p (f x)) xs)
filter_map p f [] = refl
filter_map {X} {Y} p f (x ∷ xs) = ap (λ l. cond (p (f x)) (f x ∷ l) l) (filter_map p f xs) ∙ step (p (f x))
  where
    step : (b : Bool) → cond b (f x ∷ map f (filter (λ x. p (f x)) xs)) (map f (filter (λ x. p (f x)) xs)) ≡ map f (cond b (x ∷ filter (λ x. p (f x)) xs) (filter (λ x. p (f x)) xs))
    step true = refl
    step false = refl

pub filter_filter : {X : Type 0} (p q : X → Bool) (xs : List X) → filter p (filter q xs) ≡ filter (λ x. p x && q x) xs
filter_filter p q [] = refl
filter_filter {X} p q (x ∷ xs) = step (q x) ∙ ap (λ l. cond (p x && q x) (x ∷ l) l) (filter_filter p q xs)
  where
    step : (c : Bool) → filter p (cond c (x ∷ filter q xs) (filter q xs)) ≡ cond (p x && c) (x ∷ filter p (filter q xs)) (filter p (filter q xs))
    step true = twice (p x)
      where
        twice : (b : Bool) → cond b (x ∷ filter p (filter q xs)) (filter p (filter q xs)) ≡ cond (b && true) (x ∷ filter p (filter q xs)) (filter p (filter q xs))
        twice true = refl
        twice false = refl
    step false = none (p x)
      where
        none : (b : Bool) → filter p (filter q xs) ≡ cond (b && false) (x ∷ filter p (filter q xs)) (filter p (filter q xs))
        none true = refl
        none false = refl

-- Look-ups.

pub record_map : {X Y : Type 0} (f : X → Y) (es : List (ℕ × X)) (key : ℕ) → record_at (map (λ e. (e.0, f e.1)) es) key ≡ option_map f (record_at es key)
record_map f [] key = refl
record_map {X} {Y} f (e ∷ es) key = step (e.0 == key) (record_map f es key)
  where
    step : (b : Bool) → record_at (map (λ g. (g.0, f g.1)) es) key ≡ option_map f (record_at es key) →
        option_map (λ (g : ℕ × Y). g.1) (cond b (Some (e.0, f e.1)) (find (λ g. g.0 == key) (map (λ g. (g.0, f g.1)) es))) ≡ option_map f (option_map (λ (g : ℕ × X). g.1) (cond b (Some e) (find (λ g. g.0 == key) es)))
    step true rest = refl
    step false rest = rest

-- what is said of each entry is said of the one that is found
pub found : {X : Type 0} (P : ℕ → X → Type 0) (es : List (ℕ × X)) (key : ℕ) (x : X) → Each (λ e. P e.0 e.1) es → record_at es key ≡ Some x → P key x
found P [] key x all h = cc
found {X} P (e ∷ es) key x all h = step (e.0 == key) refl (found P es key x all.1) h
  where
    step : (b : Bool) → (e.0 == key) ≡ b → (record_at es key ≡ Some x → P key x) → option_map (λ f. f.1) (cond b (Some e) (find (λ f. f.0 == key) es)) ≡ Some x → P key x
    step true at later g =
        let same : e.1 ≡ x = cc in
        let here : e.0 ≡ key = eqb-true e.0 key at in
        let Q : ℕ → Type 0 = λ k. P k x in
        subst Q here (subst (P e.0) same all.0)
    step false at later g = later g

-- no entry has a key that is not there
pub absent : {X : Type 0} (es : List (ℕ × X)) (key : ℕ) → record_at es key ≡ None → Each (λ e. (e.0 == key) ≡ false) es
absent [] key h = tt
absent {X} (e ∷ es) key h = step (e.0 == key) refl (absent es key) h
  where
    step : (b : Bool) → (e.0 == key) ≡ b → (record_at es key ≡ None → Each (λ f. (f.0 == key) ≡ false) es) → option_map (λ f. f.1) (cond b (Some e) (find (λ f. f.0 == key) es)) ≡ None → Each (λ f. (f.0 == key) ≡ false) (e ∷ es)
    step true at later g = cc
    step false at later g = (at, later g)

-- the entry of a key is the one that has its record, and the one that has its record's name
pub alone : {X : Type 0} (name : X → List ℕ) (es : List (ℕ × X)) (key : ℕ) (x : X) → Apart (λ e. e.0) es → Apart (λ e. name e.1) es → record_at es key ≡ Some x → Each (λ e. ((e.0 == key) ≡ same_name (name e.1) (name x)) × ((e.0 == key) ≡ true → e.1 ≡ x)) es
alone name [] key x keys names h = tt
alone {X} name (e ∷ es) key x keys names h = step (e.0 == key) refl (alone name es key x keys.1 names.1) h
  where
    P : ℕ × X → Type 0
    P f = ((f.0 == key) ≡ same_name (name f.1) (name x)) × ((f.0 == key) ≡ true → f.1 ≡ x)

    step : (b : Bool) → (e.0 == key) ≡ b → (record_at es key ≡ Some x → Each (λ f. ((f.0 == key) ≡ same_name (name f.1) (name x)) × ((f.0 == key) ≡ true → f.1 ≡ x)) es) → option_map (λ f. f.1) (cond b (Some e) (find (λ f. f.0 == key) es)) ≡ Some x → Each (λ f. ((f.0 == key) ≡ same_name (name f.1) (name x)) × ((f.0 == key) ≡ true → f.1 ≡ x)) (e ∷ es)
    step true at later g =
        let same : e.1 ≡ x = cc in
        let here : e.0 ≡ key = eqb-true e.0 key at in
        let other : (f : ℕ × X) → e.0 ≢ f.0 → name e.1 ≢ name f.1 → P f =
        λ f apart named.
        let off : (f.0 == key) ≡ false = ne_eqb f.0 key (λ at2. apart (here ∙ sym at2)) in
        (off ∙ sym (name_differs (name f.1) (name x) (λ alike. named (ap name same ∙ sym alike))), λ on. absurd (both_ways (f.0 == key) off on)) in
        ((at ∙ sym (name_same (name e.1) (name x) (ap name same)), λ on. same), each_both (λ f. e.0 ≢ f.0) (λ f. name e.1 ≢ name f.1) P other es keys.0 names.0)
    step false at later g =
        let apart : name e.1 ≢ name x = found (λ k y. name e.1 ≢ name y) es key x names.0 g in
        ((at ∙ sym (name_differs (name e.1) (name x) apart), λ on. absurd (both_ways (e.0 == key) at on)), later g)

-- the record of a key is the one that is found
pub here : {X : Type 0} (es : List (ℕ × X)) (key : ℕ) (x : X) → Apart (λ e. e.0) es → record_at es key ≡ Some x → Each (λ e. (e.0 == key) ≡ true → e.1 ≡ x) es
here [] key x keys h = tt
here {X} (e ∷ es) key x keys h = step (e.0 == key) refl (here es key x keys.1) h
  where
    step : (b : Bool) → (e.0 == key) ≡ b → (record_at es key ≡ Some x → Each (λ f. (f.0 == key) ≡ true → f.1 ≡ x) es) → option_map (λ f. f.1) (cond b (Some e) (find (λ f. f.0 == key) es)) ≡ Some x → Each (λ f. (f.0 == key) ≡ true → f.1 ≡ x) (e ∷ es)
    step true at later g =
        let same : e.1 ≡ x = cc in
        (λ on. same, each_weaker (λ f. e.0 ≢ f.0) (λ f. (f.0 == key) ≡ true → f.1 ≡ x) (λ f apart on. absurd (apart (eqb-true e.0 key at ∙ sym (eqb-true f.0 key on)))) es keys.0)
    step false at later g = (λ on. absurd (both_ways (e.0 == key) at on), later g)

-- as a catalog says it
pub keys_apart : {X : Type 0} (es : List (ℕ × X)) → AllPairs (λ a b. a ≢ b) (keys_of es) → Apart (λ e. e.0) es
keys_apart es h = apart_from (λ e. e.0) (λ k. k) es h
