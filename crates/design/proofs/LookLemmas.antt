-- Look-ups by name and by key: of entries, and of the records with their keys beside them.
use Rattle.std.proofs.Common.{◌≡◌, ◌≢◌, ℕ, suc, ◌+◌, Bool, true, false, cond, ◌==◌, ◌||◌, List, [], ◌∷◌, length, map, Option, Some, None, option_map, is_some, IsSome, IsSomeAnd, IfNone, All, sym, refl, ap, ◌∙◌, arith}
use Rattle.std.proofs.lemmas.Bool.{eq-eqb, eqb-true, ne_eqb}
use Rattle.std.specs.List.{filter, find, list_any, position_from}
use Rattle.std.specs.Option.{option_map_or}
use Rattle.catalog.specs.Catalog.{record_at, records_of}
use Rattle.catalog.specs.kept.Catalog.{key_named, keys_of, named, place_of}
use Rattle.design.specs.Keys.{name_of}
use Rattle.design.specs.kept.Keys.{keys_where}
use Rattle.design.specs.Names.{same_name}
use Rattle.design.specs.Netlist.{NetEntry}
use Rattle.design.proofs.EntryLemmas.{Apart, Each, each_to, each_weaker}
use Rattle.design.proofs.NameLemmas.{name_is}

pub find_map : {X Y : Type 0} (p : Y → Bool) (f : X → Y) (xs : List X) → find p (map f xs) ≡ option_map f (find (λ x. p (f x)) xs)
find_map p f [] = refl
find_map {X} {Y} p f (x ∷ xs) = step (p (f x)) (find_map p f xs)
  where
    step : (b : Bool) → find p (map f xs) ≡ option_map f (find (λ x. p (f x)) xs) → cond b (Some (f x)) (find p (map f xs)) ≡ option_map f (cond b (Some x) (find (λ x. p (f x)) xs))
    step true rest = refl
    step false rest = rest

found_passes : {X : Type 0} (p : X → Bool) (xs : List X) (y : X) → find p xs ≡ Some y → p y ≡ true
found_passes p [] y h = cc
found_passes {X} p (x ∷ xs) y h = step (p x) refl (λ rest. found_passes p xs y rest) h
  where
    step : (b : Bool) → p x ≡ b → (find p xs ≡ Some y → p y ≡ true) → cond b (Some x) (find p xs) ≡ Some y → p y ≡ true
    step true at later g = let same : x ≡ y = cc in ap p (sym same) ∙ at
    step false at later g = later g

pub any_found : {X : Type 0} (p : X → Bool) (xs : List X) → list_any p xs ≡ is_some (find p xs)
any_found p [] = refl
any_found {X} p (x ∷ xs) = step (p x) (any_found p xs)
  where
    step : (b : Bool) → list_any p xs ≡ is_some (find p xs) → (b || list_any p xs) ≡ is_some (cond b (Some x) (find p xs))
    step true rest = refl
    step false rest = rest

pub some_map : {X Y : Type 0} (f : X → Y) (o : Option X) → is_some (option_map f o) ≡ is_some o
some_map f None = refl
some_map f (Some x) = refl

pub record_named : {X : Type 0} (name : X → List ℕ) (es : List (ℕ × X)) (n : List ℕ) → find (λ x. same_name (name x) n) (records_of es) ≡ option_map (λ (p : ℕ × X). p.1) (named name es n)
record_named name es n = find_map (λ x. same_name (name x) n) (λ p. p.1) es

pub has_named : {X : Type 0} (name : X → List ℕ) (es : List (ℕ × X)) (n : List ℕ) → is_some (key_named name es n) ≡ list_any (λ x. same_name (name x) n) (records_of es)
has_named {X} name es n =
    some_map (λ (p : ℕ × X). p.0) (named name es n) ∙ sym (some_map (λ (p : ℕ × X). p.1) (named name es n)) ∙ ap (λ (o : Option X). is_some o) (sym (record_named name es n)) ∙ sym (any_found (λ x. same_name (name x) n) (records_of es))

pub none_named : {X : Type 0} (name : X → List ℕ) (es : List (ℕ × X)) (n : List ℕ) → None ≡ key_named name es n → find (λ x. same_name (name x) n) (records_of es) ≡ None
none_named {X} name es n h = record_named name es n ∙ step (named name es n) (sym h)
  where
    step : (o : Option (ℕ × X)) → option_map (λ (p : ℕ × X). p.0) o ≡ None → option_map (λ (p : ℕ × X). p.1) o ≡ None
    step None g = refl
    step (Some p) g = cc

-- no key belongs to a name that is not there
pub not_named : {X : Type 0} (name : X → List ℕ) (es : List (ℕ × X)) (n : List ℕ) → list_any (λ x. same_name (name x) n) (records_of es) ≡ false → key_named name es n ≡ None
not_named name es n h = step (key_named name es n) (has_named name es n ∙ h)
  where
    step : (o : Option ℕ) → is_some o ≡ false → o ≡ None
    step None e = refl
    step (Some k) e = cc

-- the key of a name stands where the name does
pub place_named : {X : Type 0} (name : X → List ℕ) (es : List (ℕ × X)) (n : List ℕ) (key : ℕ) → Apart (λ e. e.0) es → Some key ≡ key_named name es n → place_of es key ≡ position_from (λ x. same_name (name x) n) 0 (records_of es)
place_named {X} name es n key apart h = from es 0 apart (sym h)
  where
    differs : (e : ℕ × X) (fs : List (ℕ × X)) → Each (λ f. e.0 ≢ f.0) fs → key_named name fs n ≡ Some key → e.0 ≢ key
    differs e [] off g = cc
    differs e (f ∷ fs) off g = step (same_name (name f.1) n) (λ l. differs e fs off.1 l) g
      where
        step : (b : Bool) → (key_named name fs n ≡ Some key → e.0 ≢ key) → option_map (λ (p : ℕ × X). p.0) (cond b (Some f) (find (λ p. same_name (name p.1) n) fs)) ≡ Some key → e.0 ≢ key
        step true later l = let same : f.0 ≡ key = cc in λ at. off.0 (at ∙ sym same)
        step false later l = later l

    from : (fs : List (ℕ × X)) (j : ℕ) → Apart (λ e. e.0) fs → key_named name fs n ≡ Some key → position_from (λ e. e.0 == key) j fs ≡ position_from (λ x. same_name (name x) n) j (records_of fs)
    from [] j off g = cc
    from (f ∷ fs) j off g = step (same_name (name f.1) n) (λ l. from fs (j + 1) off.1 l) g
      where
        step : (b : Bool) → (key_named name fs n ≡ Some key → position_from (λ e. e.0 == key) (j + 1) fs ≡ position_from (λ x. same_name (name x) n) (j + 1) (records_of fs)) → option_map (λ (p : ℕ × X). p.0) (cond b (Some f) (find (λ p. same_name (name p.1) n) fs)) ≡ Some key →
            cond (f.0 == key) (Some j) (position_from (λ e. e.0 == key) (j + 1) fs) ≡ cond b (Some j) (position_from (λ x. same_name (name x) n) (j + 1) (records_of fs))
        step true later l = let same : f.0 ≡ key = cc in ap (λ (b : Bool). cond b (Some j) (position_from (λ e. e.0 == key) (j + 1) fs)) (eq-eqb f.0 key same)
        step false later l = ap (λ (b : Bool). cond b (Some j) (position_from (λ e. e.0 == key) (j + 1) fs)) (ne_eqb f.0 key (differs f fs off.0 l)) ∙ later l

pub position_is_some : {X : Type 0} (p : X → Bool) (k : ℕ) (xs : List X) → is_some (position_from p k xs) ≡ list_any p xs
position_is_some p k [] = refl
position_is_some p k (x ∷ xs) =
    elim (p x) as (λ b. is_some (cond b (Some k) (position_from p (k + 1) xs)) ≡ (b || list_any p xs)) [ true ↦ refl | false ↦ position_is_some p (k + 1) xs ]

pub position_missing : {X : Type 0} (p : X → Bool) (k : ℕ) (xs : List X) → position_from p k xs ≡ None → find p xs ≡ None
position_missing p k [] h = refl
position_missing p k (x ∷ xs) h = step (p x) (λ e. position_missing p (k + 1) xs e) h
  where
    step : (b : Bool) → (position_from p (k + 1) xs ≡ None → find p xs ≡ None) → cond b (Some k) (position_from p (k + 1) xs) ≡ None → cond b (Some x) (find p xs) ≡ None
    step true later e = cc
    step false later e = later e

pub none_position : {X : Type 0} (p : X → Bool) (k : ℕ) (xs : List X) → find p xs ≡ None → position_from p k xs ≡ None
none_position p k [] h = refl
none_position p k (x ∷ xs) h = step (p x) (λ e. none_position p (k + 1) xs e) h
  where
    step : (b : Bool) → (find p xs ≡ None → position_from p (k + 1) xs ≡ None) → cond b (Some x) (find p xs) ≡ None → cond b (Some k) (position_from p (k + 1) xs) ≡ None
    step true later e = cc
    step false later e = later e

-- what has a place is there
pub place_there : {X : Type 0} (es : List (ℕ × X)) (key : ℕ) → is_some (place_of es key) ≡ is_some (record_at es key)
place_there {X} es key = position_is_some (λ e. e.0 == key) 0 es ∙ any_found (λ e. e.0 == key) es ∙ sym (some_map (λ (e : ℕ × X). e.1) (find (λ e. e.0 == key) es))

-- the name of what is found by its name
pub name_found : (nets : List (ℕ × NetEntry)) (name : List ℕ) (key : ℕ) → Some key ≡ key_named (λ n. n.name) nets name → record_at nets key ≡ option_map (λ e. e.1) (named (λ n. n.name) nets name) → name_of nets key ≡ name
name_found nets name key at there = ap (λ (o : Option NetEntry). option_map_or (λ n. n.name) o []) there ∙ passes (named (λ n. n.name) nets name) refl (sym at)
  where
    passes : (o : Option (ℕ × NetEntry)) → named (λ n. n.name) nets name ≡ o → option_map (λ (e : ℕ × NetEntry). e.0) o ≡ Some key → option_map_or (λ (n : NetEntry). n.name) (option_map (λ (e : ℕ × NetEntry). e.1) o) [] ≡ name
    passes None found at = cc
    passes (Some e) found at = name_is e.1.name name (found_passes (λ f. same_name f.1.name name) nets e found)

pub if_none : {X : Type 0} (o : Option X) (P : Type 0) → (o ≡ None → P) → IfNone o P
if_none None P h = h refl
if_none (Some x) P h = tt

pub not_missing : {X : Type 0} (o p : Option X) → IsSome o → p ≡ None → o ≡ p → ⊥
not_missing None p h e g = cc
not_missing (Some x) p h e g = cc

pub some_of : {X : Type 0} (o : Option X) (P : X → Type 0) → IsSomeAnd o P → (x : X) × (o ≡ Some x) × P x
some_of None P h = absurd h
some_of (Some x) P h = (x, refl, h)

pub some_inner : {X : Type 0} (x y : X) → Some x ≡ Some y → x ≡ y
some_inner x y e = cc

pub none_or_some : {X : Type 0} (o : Option X) (x : X) → None ≡ o → o ≡ Some x → ⊥
none_or_some None x e g = cc
none_or_some (Some y) x e g = cc

pub some_is : {X : Type 0} (o : Option X) → IsSome o → (x : X) × (o ≡ Some x)
some_is None h = cc
some_is (Some x) h = (x, refl)

-- The lists beside the nets.

there_more : {X : Type 0} (f : ℕ × X) (es : List (ℕ × X)) (k : ℕ) → IsSome (record_at es k) → IsSome (record_at (f ∷ es) k)
there_more {X} f es k h = step (f.0 == k)
  where
    step : (b : Bool) → IsSome (option_map (λ (e : ℕ × X). e.1) (cond b (Some f) (find (λ e. e.0 == k) es)))
    step true = refl
    step false = h

each_there : {X : Type 0} (es : List (ℕ × X)) → Each (λ e. IsSome (record_at es e.0)) es
each_there [] = tt
each_there {X} (f ∷ es) = (first, each_weaker (λ e. IsSome (record_at es e.0)) (λ e. IsSome (record_at (f ∷ es) e.0)) (λ e h. there_more f es e.0 h) es (each_there es))
  where
    first : IsSome (record_at (f ∷ es) f.0)
    first = ap (λ (b : Bool). is_some (option_map (λ (e : ℕ × X). e.1) (cond b (Some f) (find (λ e. e.0 == f.0) es)))) (eq-eqb f.0 f.0 refl)

-- the keys of the entries that pass are keys of entries
pub keys_known : {X : Type 0} (t : ℕ × X → Bool) (es : List (ℕ × X)) → All (λ k. IsSome (record_at es k)) (keys_where t es)
keys_known {X} t es = each_to (λ k. IsSome (record_at es k)) (λ (e : ℕ × X). e.0) (filter t es) (kept es (each_there es))
  where
    kept : (fs : List (ℕ × X)) → Each (λ e. IsSome (record_at es e.0)) fs → Each (λ e. IsSome (record_at es e.0)) (filter t fs)
    kept [] h = tt
    kept (f ∷ fs) h = step (t f) (kept fs h.1)
      where
        step : (b : Bool) → Each (λ e. IsSome (record_at es e.0)) (filter t fs) → Each (λ e. IsSome (record_at es e.0)) (cond b (f ∷ filter t fs) (filter t fs))
        step true rest = (h.0, rest)
        step false rest = rest

-- whether some pass
pub some_pass : {X : Type 0} (p q : X → Bool) (es : List (ℕ × X)) → (length (keys_where (λ e. p e.1) es) == 0) ≡ false → ((x : X) → p x ≡ true → q x ≡ true) → list_any q (records_of es) ≡ true
some_pass p q [] h w = cc
some_pass {X} p q (e ∷ es) h w = step (p e.1) refl h (λ g. some_pass p q es g w)
  where
    step : (b : Bool) → p e.1 ≡ b → (length (keys_of (cond b (e ∷ filter (λ f. p f.1) es) (filter (λ f. p f.1) es))) == 0) ≡ false → ((length (keys_where (λ f. p f.1) es) == 0) ≡ false → list_any q (records_of es) ≡ true) → (q e.1 || list_any q (records_of es)) ≡ true
    step true at g later = ap (λ (b : Bool). b || list_any q (records_of es)) (w e.1 at)
    step false at g later = or_true (q e.1) (later g)
      where
        or_true : (b : Bool) → list_any q (records_of es) ≡ true → (b || list_any q (records_of es)) ≡ true
        or_true true l = refl
        or_true false l = l

pub none_pass : {X : Type 0} (p q : X → Bool) (es : List (ℕ × X)) → (length (keys_where (λ e. p e.1) es) == 0) ≡ true → (length (keys_where (λ e. q e.1) es) == 0) ≡ true → list_any (λ x. p x || q x) (records_of es) ≡ false
none_pass p q [] h g = refl
none_pass {X} p q (e ∷ es) h g = step (p e.1) (q e.1) h g (λ l r. none_pass p q es l r)
  where
    step : (b c : Bool) → (length (keys_of (cond b (e ∷ filter (λ f. p f.1) es) (filter (λ f. p f.1) es))) == 0) ≡ true → (length (keys_of (cond c (e ∷ filter (λ f. q f.1) es) (filter (λ f. q f.1) es))) == 0) ≡ true →
        ((length (keys_where (λ f. p f.1) es) == 0) ≡ true → (length (keys_where (λ f. q f.1) es) == 0) ≡ true → list_any (λ x. p x || q x) (records_of es) ≡ false) → ((b || c) || list_any (λ x. p x || q x) (records_of es)) ≡ false
    step true c l r later = let none : suc (length (keys_where (λ f. p f.1) es)) ≡ 0 = eqb-true (suc (length (keys_where (λ f. p f.1) es))) 0 l in absurd (omega arith)
    step false true l r later = let none : suc (length (keys_where (λ f. q f.1) es)) ≡ 0 = eqb-true (suc (length (keys_where (λ f. q f.1) es))) 0 r in absurd (omega arith)
    step false false l r later = later l r
