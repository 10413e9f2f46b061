-- Marks of the blocks of a list of entries, and what is found among those that they leave.
use Rattle.std.proofs.Common.{◌≡◌, ℕ, zero, suc, ◌+◌, ◌-◌, ◌*◌, ◌/◌, ◌<◌, ◌≤◌, ◌∙◌, sym, ap, Bool, true, false, cond, Option, Some, None, List, [], ◌∷◌, ◌++◌, map, length, take, drop, get_or, set, refl, arith, ⊎_elim}
use Rattle.std.specs.List.{find}
use Rattle.std.specs.Prelude.{is_some, not}
use Rattle.std.specs.Option.{option_or}
use Rattle.std.proofs.lemmas.Bool.{cases_lt}
use Rattle.std.proofs.lemmas.List.{get_or-map, get_or_append_left, get_or_past, length-append, take-append-drop, take-map, drop-map}
use Rattle.std.proofs.lemmas.List.Folds.{find-append}
use Rattle.waveform.specs.kept.Marks.{AreMarks, mark_of}
use Rattle.waveform.specs.kept.Timelines.{is_reached, pushed}

module _ {A : Type 0} (digit : A → ℕ) where
  -- no marks are marks of any entries
  pub no_marks : (marks : List Bool) (entries : List (ℕ × A)) → marks ≡ [] → AreMarks digit marks entries
  no_marks (m ∷ marks) entries is = absurd (cc)
  no_marks [] entries is = record {
    whole = omega arith;
    shown = λ place d low. get_or_past [] (mark_of place (digit (get_or entries place d).1)) true (omega arith);
  }

  -- the marks of entries are marks with more entries behind them too
  pub marks_kept : (marks : List Bool) (xs ys : List (ℕ × A)) → AreMarks digit marks xs → AreMarks digit marks (xs ++ ys)
  marks_kept marks xs ys are =
      let long : length (xs ++ ys) ≡ length xs + length ys = length-append xs ys in
      let whole = are.whole in
      record {
        whole = omega arith;
        shown = λ place d low. ⊎_elim
            (λ before. rw (get_or_append_left xs ys d place before) (are.shown place d before))
            (λ behind. get_or_past marks (mark_of place (digit (get_or (xs ++ ys) place d).1)) true (omega arith))
            (cases_lt place (length xs));
      }

  kept_by : (marks : List Bool) (xs : List (ℕ × A)) (e : ℕ × A) (b : Bool) → AreMarks digit marks xs → AreMarks digit marks (cond b xs (xs ++ e ∷ []))
  kept_by marks xs e true are = are
  kept_by marks xs e false are = marks_kept marks xs (e ∷ []) are

  -- and where a value is added, unless it is reached by itself
  pub pushed_marks : (same : A → A → Bool) (drift : A → ℕ → A) (marks : List Bool) (xs : List (ℕ × A)) (t : ℕ) (v : A) → AreMarks digit marks xs →
      AreMarks digit marks (pushed same drift xs t v)
  pushed_marks same drift marks xs t v are = kept_by marks xs (t, v) (is_reached same drift xs t v) are

  other : (same : A → A → Bool) → ((a b : A) → same a b ≡ true → a ≡ b) → (marks : List Bool) (place : ℕ) (a v : A) (b : Bool) → same a v ≡ b →
      get_or marks (mark_of place (digit a)) true ≡ true → get_or marks (mark_of place (digit v)) true ≡ false → b ≡ false
  other same equal marks place a v true is marked without = let equals : a ≡ v = equal a v is in absurd (cc)
  other same equal marks place a v false is marked without = refl

  -- where the mark of a value's digit says no, no entry of the block has the value
  pub not_in_block : (same : A → A → Bool) → ((a b : A) → same a b ≡ true → a ≡ b) → (marks : List Bool) (entries : List (ℕ × A)) → AreMarks digit marks entries →
      (from place : ℕ) (d : ℕ × A) (v : A) → place / 256 ≡ from / 256 → place < length entries → get_or marks (mark_of from (digit v)) true ≡ false →
      same (get_or entries place d).1 v ≡ false
  not_in_block same equal marks entries are from place d v block low without =
      let here : get_or marks (mark_of place (digit v)) true ≡ false = rw block without in
      other same equal marks place (get_or entries place d).1 v (same (get_or entries place d).1 v) refl (are.shown place d low) here

-- a mark that is set stays, and so do all that are
pub set_here : (marks : List Bool) (i : ℕ) → get_or (set marks i true) i true ≡ true
set_here [] i = refl
set_here (m ∷ marks) zero = refl
set_here (m ∷ marks) (suc i) = set_here marks i

pub set_kept : (marks : List Bool) (i j : ℕ) → get_or marks j true ≡ true → get_or (set marks i true) j true ≡ true
set_kept [] i j is = refl
set_kept (m ∷ marks) zero zero is = refl
set_kept (m ∷ marks) zero (suc j) is = is
set_kept (m ∷ marks) (suc i) zero is = is
set_kept (m ∷ marks) (suc i) (suc j) is = set_kept marks i j is

find_after : {X : Type 0} (p : X → Bool) (x : X) (xs : List X) → p x ≡ false → find p (x ∷ xs) ≡ find p xs
find_after p x xs e = ap (λ b. cond b (Some x) (find p xs)) e

-- nothing is found among elements that don't pass
pub find_none : {X : Type 0} (p : X → Bool) (xs : List X) (from n : ℕ) →
    ((place : ℕ) (d : X) → from ≤ place → place < from + n → place < length xs → p (get_or xs place d) ≡ false) → find p (take n (drop from xs)) ≡ None
find_none p [] zero zero none = refl
find_none p [] zero (suc n) none = refl
find_none p [] (suc from) zero none = refl
find_none p [] (suc from) (suc n) none = refl
find_none p (x ∷ xs) zero zero none = refl
find_none p (x ∷ xs) zero (suc n) none =
    find_after p x (take n xs) (none 0 x (omega arith) (omega arith) (omega arith))
    ∙ find_none p xs zero n (λ place d after low within. none (suc place) d (omega arith) (omega arith) (omega arith))
find_none p (x ∷ xs) (suc from) n none =
    find_none p xs from n (λ place d after low within. none (suc place) d (omega arith) (omega arith) (omega arith))

-- an element found from a place on is one of the next n, or is found behind them
pub find_on : {X : Type 0} (p : X → Bool) (xs : List X) (from n end : ℕ) → end ≡ from + n →
    find p (drop from xs) ≡ option_or (find p (take n (drop from xs))) (find p (drop end xs))
find_on p xs zero n end is =
    let here : end ≡ n = omega arith in
    rw here (ap (find p) (sym (take-append-drop n xs)) ∙ find-append p (take n xs) (drop n xs))
find_on p [] (suc from) zero zero is = refl
find_on p [] (suc from) zero (suc end) is = refl
find_on p [] (suc from) (suc n) zero is = refl
find_on p [] (suc from) (suc n) (suc end) is = refl
find_on p (x ∷ xs) (suc from) n zero is = absurd (omega arith)
find_on p (x ∷ xs) (suc from) n (suc end) is = find_on p xs from n end (omega arith)

-- one entry more is seen: its mark is set, and those that were set stay
pub seen_more : {A B : Type 0} (f : B → ℕ × A) (digit : A → ℕ) (marks : List Bool) (entries : List B) (place : ℕ) (x : B) → x ≡ get_or entries place x →
    ((k : ℕ) (d : ℕ × A) → k < place → k < length entries → get_or marks (mark_of k (digit (get_or (map f entries) k d).1)) true ≡ true) →
    (k : ℕ) (d : ℕ × A) → k < place + 1 → k < length entries →
    get_or (set marks (mark_of place (digit (f x).1)) true) (mark_of k (digit (get_or (map f entries) k d).1)) true ≡ true
seen_more f digit marks entries place x read seen k d low within =
    ⊎_elim
    (λ before. set_kept marks (mark_of place (digit (f x).1)) (mark_of k (digit (get_or (map f entries) k d).1)) (seen k d before within))
    (λ behind.
    let here : k ≡ place = omega arith in
    let same : get_or entries place x ≡ get_or entries k x = ap (λ n. get_or entries n x) (sym here) in
    let entry : get_or (map f entries) k d ≡ f x = get_or-map f entries k x d within ∙ ap f (sym same ∙ sym read) in
    rw (entry, here) (set_here marks (mark_of place (digit (f x).1))))
    (cases_lt k place)

-- so none of the entries of the block from a place on is found
pub none_in_block : {A B : Type 0} (f : B → ℕ × A) (digit : A → ℕ) (same : A → A → Bool) → ((a b : A) → same a b ≡ true → a ≡ b) → (marks : List Bool) (entries : List B) →
    AreMarks digit marks (map f entries) → (from end : ℕ) (v : A) → end ≤ (from / 256 + 1) * 256 → from < end → get_or marks (mark_of from (digit v)) true ≡ false →
    find (λ e. same e.1 v) (map f (take (end - from) (drop from entries))) ≡ None
none_in_block f digit same equal marks entries are from end v block order without =
    ap (find (λ e. same e.1 v)) (sym (take-map f (end - from) (drop from entries)) ∙ ap (take (end - from)) (sym (drop-map f from entries)))
    ∙ find_none (λ e. same e.1 v) (map f entries) from (end - from)
    (λ place d after low within. not_in_block digit same equal marks (map f entries) are from place d v (omega arith) within without)

-- what is found from a place on is what is found before another one, or else what is found from there on
pub found_on : {A B : Type 0} (f : B → ℕ × A) (p : ℕ × A → Bool) (entries : List B) (from end : ℕ) (o : Option (ℕ × A)) → from ≤ end →
    o ≡ find p (map f (take (end - from) (drop from entries))) → find p (map f (drop from entries)) ≡ option_or o (find p (map f (drop end entries)))
found_on f p entries from end o order is =
    ap (find p) (sym (drop-map f from entries))
    ∙ find_on p (map f entries) from (end - from) end (omega arith)
    ∙ ap (λ q. option_or (find p q) (find p (drop end (map f entries)))) (ap (take (end - from)) (drop-map f from entries) ∙ take-map f (end - from) (drop from entries))
    ∙ ap (λ q. option_or q (find p (drop end (map f entries)))) (sym is)
    ∙ ap (λ q. option_or o (find p q)) (drop-map f end entries)

pub or_some : {X : Type 0} (o q : Option X) → is_some o ≡ true → option_or o q ≡ o
or_some (Some x) q some = refl
or_some None q some = absurd (cc)

pub or_none : {X : Type 0} (o q : Option X) → is_some o ≡ false → option_or o q ≡ q
or_none (Some x) q none = absurd (cc)
or_none None q none = refl

pub not_true : (b : Bool) → not b ≡ true → b ≡ false
not_true true is = absurd (cc)
not_true false is = refl
