-- Entries under keys: what stays of the others where one is added, replaced or taken away.
use Rattle.std.proofs.Common.{◌≡◌, ◌≢◌, ℕ, zero, suc, Bool, true, false, cond, not, ◌==◌, List, [], ◌∷◌, ◌++◌, map, Some, option_map, AllPairs, All, sym, refl, ap, ◌∙◌, arith}
use Rattle.std.proofs.lemmas.Bool.{both_ways, eqb-true}
use Rattle.std.proofs.lemmas.List.Elements.{All-head, All-tail}
use Rattle.std.specs.List.{filter, find}
use Rattle.catalog.specs.Catalog.{record_at, records_of}
use Rattle.catalog.specs.kept.Catalog.{keys_of, with_record, without_key}

-- Each, by recursion.
abbrev pub Each : {X : Type 0} → (X → Type 0) → List X → Type 0
Each P [] = Unit {0}
Each P (x ∷ xs) = P x × Each P xs

pub each_weaker : {X : Type 0} (P Q : X → Type 0) → ((x : X) → P x → Q x) → (xs : List X) → Each P xs → Each Q xs
each_weaker P Q w [] h = tt
each_weaker P Q w (x ∷ xs) h = (w x h.0, each_weaker P Q w xs h.1)

each_from : {X Y : Type 0} (P : Y → Type 0) (f : X → Y) (xs : List X) → All P (map f xs) → Each (λ x. P (f x)) xs
each_from P f [] h = tt
each_from P f (x ∷ xs) h = (All-head P (f x) (map f xs) h, each_from P f xs (All-tail P (f x) (map f xs) h))

pairs_head : {X : Type 0} (R : X → X → Type 0) (x : X) (xs : List X) → AllPairs R (x ∷ xs) → All (R x) xs
pairs_head R x xs h = λ k d within. h zero (suc k) d (omega arith) (omega arith)

pairs_tail : {X : Type 0} (R : X → X → Type 0) (x : X) (xs : List X) → AllPairs R (x ∷ xs) → AllPairs R xs
pairs_tail R x xs h = λ i j d below within. h (suc i) (suc j) d (omega arith) (omega arith)

-- what is the one key is not the other
other_key : (a key k : ℕ) → (key == k) ≡ false → (a == key) ≡ true → (a == k) ≡ false
other_key a key k apart at = ap (λ n. n == k) (eqb-true a key at) ∙ apart

module _ {X : Type 0} where
  -- the record of a key is that of each entry that has the key
  pub only : (es : List (ℕ × X)) (key : ℕ) (x : X) → AllPairs (λ a b. a ≢ b) (keys_of es) → record_at es key ≡ Some x → Each (λ e. (e.0 == key) ≡ true → e.1 ≡ x) es
  only [] key x distinct h = tt
  only (e ∷ es) key x distinct h =
      step (e.0 == key) refl (only es key x (pairs_tail (λ a b. a ≢ b) e.0 (keys_of es) distinct)) h
    where
      apart : Each (λ f. e.0 ≢ f.0) es
      apart = each_from (λ k. e.0 ≢ k) (λ f. f.0) es (pairs_head (λ a b. a ≢ b) e.0 (keys_of es) distinct)

      step : (b : Bool) → (e.0 == key) ≡ b → (record_at es key ≡ Some x → Each (λ f. (f.0 == key) ≡ true → f.1 ≡ x) es) → option_map (λ f. f.1) (cond b (Some e) (find (λ f. f.0 == key) es)) ≡ Some x → Each (λ f. (f.0 == key) ≡ true → f.1 ≡ x) (e ∷ es)
      step true at later g =
          let same : e.1 ≡ x = cc in
          (λ on. same, each_weaker (λ f. e.0 ≢ f.0) (λ f. (f.0 == key) ≡ true → f.1 ≡ x) (λ f other on. absurd (other (eqb-true e.0 key at ∙ sym (eqb-true f.0 key on)))) es apart)
      step false at later g = (λ on. absurd (both_ways (e.0 == key) at on), later g)

  -- The record of another key.

  pub record_push : (es : List (ℕ × X)) (key : ℕ) (x : X) (k : ℕ) → (key == k) ≡ false → record_at (es ++ (key, x) ∷ []) k ≡ record_at es k
  record_push [] key x k apart = rw apart refl
  record_push (e ∷ es) key x k apart = step (e.0 == k) (record_push es key x k apart)
    where
      step : (b : Bool) → record_at (es ++ (key, x) ∷ []) k ≡ record_at es k → option_map (λ f. f.1) (cond b (Some e) (find (λ f. f.0 == k) (es ++ (key, x) ∷ []))) ≡ option_map (λ f. f.1) (cond b (Some e) (find (λ f. f.0 == k) es))
      step true rest = refl
      step false rest = rest

  pub record_without : (es : List (ℕ × X)) (key k : ℕ) → (key == k) ≡ false → record_at (without_key es key) k ≡ record_at es k
  record_without [] key k apart = refl
  record_without (e ∷ es) key k apart = step (e.0 == key) refl (record_without es key k apart)
    where
      step : (b : Bool) → (e.0 == key) ≡ b → record_at (without_key es key) k ≡ record_at es k → record_at (cond (not b) (e ∷ without_key es key) (without_key es key)) k ≡ record_at (e ∷ es) k
      step true at rest = rw (other_key e.0 key k apart at) rest
      step false at rest = same (e.0 == k) rest
        where
          same : (c : Bool) → record_at (without_key es key) k ≡ record_at es k → option_map (λ f. f.1) (cond c (Some e) (find (λ f. f.0 == k) (without_key es key))) ≡ option_map (λ f. f.1) (cond c (Some e) (find (λ f. f.0 == k) es))
          same true rest = refl
          same false rest = rest

  pub record_with : (es : List (ℕ × X)) (key : ℕ) (x : X) (k : ℕ) → (key == k) ≡ false → record_at (with_record es key x) k ≡ record_at es k
  record_with [] key x k apart = refl
  record_with (e ∷ es) key x k apart = step (e.0 == key) refl (record_with es key x k apart)
    where
      step : (b : Bool) → (e.0 == key) ≡ b → record_at (with_record es key x) k ≡ record_at es k → record_at ((e.0, cond b x e.1) ∷ with_record es key x) k ≡ record_at (e ∷ es) k
      step true at rest = rw (other_key e.0 key k apart at) rest
      step false at rest = same (e.0 == k) rest
        where
          same : (c : Bool) → record_at (with_record es key x) k ≡ record_at es k → option_map (λ f. f.1) (cond c (Some (e.0, e.1)) (find (λ f. f.0 == k) (with_record es key x))) ≡ option_map (λ f. f.1) (cond c (Some e) (find (λ f. f.0 == k) es))
          same true rest = refl
          same false rest = rest

  -- The keys of the entries that pass a test of their records.

  -- the keys of these entries
  abbrev passing : (X → Bool) → List (ℕ × X) → List ℕ
  passing p es = keys_of (filter (λ e. p e.1) es)

  pub passing_push : (p : X → Bool) (es : List (ℕ × X)) (key : ℕ) (x : X) → p x ≡ false → passing p (es ++ (key, x) ∷ []) ≡ passing p es
  passing_push p [] key x off = rw off refl
  passing_push p (e ∷ es) key x off = step (p e.1) (passing_push p es key x off)
    where
      step : (b : Bool) → passing p (es ++ (key, x) ∷ []) ≡ passing p es → keys_of (cond b (e ∷ filter (λ f. p f.1) (es ++ (key, x) ∷ [])) (filter (λ f. p f.1) (es ++ (key, x) ∷ []))) ≡ keys_of (cond b (e ∷ filter (λ f. p f.1) es) (filter (λ f. p f.1) es))
      step true rest = ap (λ ks. e.0 ∷ ks) rest
      step false rest = rest

  -- an entry less that does not pass
  pub passing_without : (p : X → Bool) (es : List (ℕ × X)) (key : ℕ) → Each (λ e. (e.0 == key) ≡ true → p e.1 ≡ false) es → passing p (without_key es key) ≡ passing p es
  passing_without p [] key off = refl
  passing_without p (e ∷ es) key off = step (e.0 == key) refl (passing_without p es key off.1)
    where
      step : (b : Bool) → (e.0 == key) ≡ b → passing p (without_key es key) ≡ passing p es → passing p (cond (not b) (e ∷ without_key es key) (without_key es key)) ≡ passing p (e ∷ es)
      step true at rest = rw (off.0 at) rest
      step false at rest = same (p e.1) rest
        where
          same : (c : Bool) → passing p (without_key es key) ≡ passing p es → keys_of (cond c (e ∷ filter (λ f. p f.1) (without_key es key)) (filter (λ f. p f.1) (without_key es key))) ≡ keys_of (cond c (e ∷ filter (λ f. p f.1) es) (filter (λ f. p f.1) es))
          same true rest = ap (λ ks. e.0 ∷ ks) rest
          same false rest = rest

  -- another record that passes as the one before did
  pub passing_with : (p : X → Bool) (es : List (ℕ × X)) (key : ℕ) (x : X) → Each (λ e. (e.0 == key) ≡ true → p x ≡ p e.1) es → passing p (with_record es key x) ≡ passing p es
  passing_with p [] key x alike = refl
  passing_with p (e ∷ es) key x alike = step (e.0 == key) refl (passing_with p es key x alike.1)
    where
      same : (c : Bool) (y : X) → passing p (with_record es key x) ≡ passing p es → keys_of (cond c ((e.0, y) ∷ filter (λ f. p f.1) (with_record es key x)) (filter (λ f. p f.1) (with_record es key x))) ≡ keys_of (cond c (e ∷ filter (λ f. p f.1) es) (filter (λ f. p f.1) es))
      same true y rest = ap (λ ks. e.0 ∷ ks) rest
      same false y rest = rest

      step : (b : Bool) → (e.0 == key) ≡ b → passing p (with_record es key x) ≡ passing p es → passing p ((e.0, cond b x e.1) ∷ with_record es key x) ≡ passing p (e ∷ es)
      step true at rest = rw (alike.0 at) (same (p e.1) x rest)
      step false at rest = same (p e.1) e.1 rest

-- Records that are alike in two readings.

-- two readings that give the same lists give the same of each record
pub readings_alike : {X Y : Type 0} (f g : X → Y) (es : List (ℕ × X)) (k : ℕ) → records_of (map (λ e. (e.0, f e.1)) es) ≡ records_of (map (λ e. (e.0, g e.1)) es) → option_map f (record_at es k) ≡ option_map g (record_at es k)
readings_alike f g [] k same = refl
readings_alike {X} {Y} f g (e ∷ es) k same =
    let first : f e.1 ≡ g e.1 = cc in
    let others : records_of (map (λ e. (e.0, f e.1)) es) ≡ records_of (map (λ e. (e.0, g e.1)) es) = cc in
    step (e.0 == k) first (readings_alike f g es k others)
  where
    step : (b : Bool) → f e.1 ≡ g e.1 → option_map f (record_at es k) ≡ option_map g (record_at es k) → option_map f (option_map (λ (h : ℕ × X). h.1) (cond b (Some e) (find (λ h. h.0 == k) es))) ≡ option_map g (option_map (λ (h : ℕ × X). h.1) (cond b (Some e) (find (λ h. h.0 == k) es)))
    step true first rest = ap Some first
    step false first rest = rest
