-- Lists in chunks: an element read, written and added, and the end cut off.
use Rattle.std.proofs.Common.{◌≡◌, ℕ, zero, suc, ◌+◌, ◌*◌, ◌-◌, ◌<◌, ◌≤◌, List, [], ◌∷◌, ◌++◌, length, get_or, take, replicate, None, Result, Ok, Err, OnErr, slice_get, sym, refl, ap, ◌∙◌, inl, inr, arith, mul-le-mul_left}
use Rattle.std.proofs.lemmas.Bool.{cases_lt}
use Rattle.std.proofs.lemmas.List.{append-nil, append_assoc, length-append, length-set, length-take, set-append_left, set-append_right}
use Rattle.std.proofs.lemmas.Option.{slice_get_past}
use Rattle.std.specs.List.{AllClonesOf, AllZip, flat_map, slice_set}
use Rattle.chunked.specs.kept.Chunks.{AreFull}

get_left : {X : Type 0} (xs ys : List X) (i : ℕ) → i < length xs → slice_get (xs ++ ys) i ≡ slice_get xs i
get_left [] ys i h = absurd (omega arith)
get_left (x ∷ xs) ys zero h = refl
get_left (x ∷ xs) ys (suc i) h = get_left xs ys i (omega arith)

get_right : {X : Type 0} (xs ys : List X) (n i : ℕ) → length xs ≡ n → n ≤ i → slice_get (xs ++ ys) i ≡ slice_get ys (i - n)
get_right [] ys n i long h = ap (λ k. slice_get ys k) (omega arith)
get_right (x ∷ xs) ys n zero long h = absurd (omega arith)
get_right (x ∷ xs) ys n (suc i) long h = get_right xs ys (n - 1) i (omega arith) (omega arith) ∙ ap (λ k. slice_get ys k) (omega arith)

take_left : {X : Type 0} (xs ys : List X) (i : ℕ) → i ≤ length xs → take i (xs ++ ys) ≡ take i xs
take_left xs ys zero h = refl
take_left [] ys (suc i) h = absurd (omega arith)
take_left (x ∷ xs) ys (suc i) h = ap (λ l. x ∷ l) (take_left xs ys i (omega arith))

take_right : {X : Type 0} (xs ys : List X) (n i : ℕ) → length xs ≡ n → n ≤ i → take i (xs ++ ys) ≡ xs ++ take (i - n) ys
take_right [] ys n i long h = ap (λ k. take k ys) (omega arith)
take_right (x ∷ xs) ys n zero long h = absurd (omega arith)
take_right (x ∷ xs) ys n (suc i) long h =
    ap (λ l. x ∷ l) (take_right xs ys (n - 1) i (omega arith) (omega arith) ∙ ap (λ k. xs ++ take k ys) (omega arith))

-- what holds anyway holds of an error
pub on_err : {T E P : Type 0} (r : Result T E) → P → OnErr r P
on_err (Ok x) p = tt
on_err (Err e) p = p

-- clones that are equal to x, and x itself, are copies of x
pub copies : {X : Type 0} (clones : X → X → Type 0) (x : X) (ys : List X) → AllClonesOf clones x ys → ((y : X) → clones x y → y ≡ x) → ys ≡ replicate (length ys) x
copies clones x [] all exact = refl
copies clones x (y ∷ ys) all exact =
    let one : y ≡ x = elim all.0 [
      | inl same ↦ same
      | inr clone ↦ exact y clone
    ] in
    ap (λ z. z ∷ ys) one ∙ ap (λ l. x ∷ l) (copies clones x ys all.1 exact)

-- a list of clones that are equal to what they are clones of
pub zipped : {X : Type 0} (clones : X → X → Type 0) → ((x y : X) → clones x y → y ≡ x) → (xs ys : List X) → AllZip clones xs ys → ys ≡ xs
zipped clones exact [] [] h = refl
zipped clones exact [] (y ∷ ys) h = absurd h
zipped clones exact (x ∷ xs) [] h = absurd h
zipped clones exact (x ∷ xs) (y ∷ ys) h = ap (λ z. z ∷ ys) (exact x y h.0) ∙ ap (λ l. x ∷ l) (zipped clones exact xs ys h.1)

module _ {C X : Type 0} (items : C → List X) (n : ℕ) where
  -- there are no more elements than the chunks hold
  pub chunk_count : (cs : List C) → AreFull items n cs → length (flat_map items cs) ≤ n * length cs
  chunk_count [] full = omega arith
  chunk_count (c ∷ cs) full = omega (arith, full.0, chunk_count cs full.2, length-append (items c) (flat_map items cs))

  -- there is a chunk for each element
  pub chunk_at : (cs : List C) → AreFull items n cs → (q i : ℕ) → n * q ≤ i → i < length (flat_map items cs) → q < length cs
  chunk_at cs full q i at within = elim (cases_lt q (length cs)) [
    | inl low ↦ low
    | inr past ↦ absurd (omega (arith, chunk_count cs full, mul-le-mul_left n past))
  ]

  -- an element stands in its chunk
  pub chunk_within : (cs : List C) → AreFull items n cs → (q r i : ℕ) (old : C) → i ≡ n * q + r → r < n → i < length (flat_map items cs) → old ≡ get_or cs q old → (q < length cs) × (r < length (items old))
  chunk_within [] full q r i old at low within e = absurd (omega arith)
  chunk_within (c ∷ []) full zero r i old at low within e = (omega arith, omega (arith, length-append (items c) [], ap (λ o. length (items o)) e))
  chunk_within (c ∷ b ∷ cs) full zero r i old at low within e = (omega arith, omega (arith, full.1 (omega arith), ap (λ o. length (items o)) e))
  chunk_within (c ∷ []) full (suc q) r i old at low within e = absurd (omega (arith, full.0, length-append (items c) []))
  chunk_within (c ∷ b ∷ cs) full (suc q) r i old at low within e =
      let long : length (items c) ≡ n = full.1 (omega arith) in
      let count = length-append (items c) (flat_map items (b ∷ cs)) in
      let rest = chunk_within (b ∷ cs) full.2 q r (i - n) old (omega arith) low (omega (arith, count)) e in
      (omega (arith, rest.0), rest.1)

  pub chunk_get : (cs : List C) → AreFull items n cs → (q r i : ℕ) (old : C) → i ≡ n * q + r → r < n → q < length cs → old ≡ get_or cs q old → slice_get (flat_map items cs) i ≡ slice_get (items old) r
  chunk_get [] full q r i old at low there e = absurd (omega arith)
  chunk_get (c ∷ []) full zero r i old at low there e =
      ap (λ l. slice_get l i) (append-nil (items c)) ∙ ap (λ k. slice_get (items c) k) (omega arith) ∙ ap (λ o. slice_get (items o) r) (sym e)
  chunk_get (c ∷ []) full (suc q) r i old at low there e = absurd (omega arith)
  chunk_get (c ∷ b ∷ cs) full zero r i old at low there e =
      let long : length (items c) ≡ n = full.1 (omega arith) in
      get_left (items c) (flat_map items (b ∷ cs)) i (omega arith) ∙ ap (λ k. slice_get (items c) k) (omega arith) ∙ ap (λ o. slice_get (items o) r) (sym e)
  chunk_get (c ∷ b ∷ cs) full (suc q) r i old at low there e =
      let long : length (items c) ≡ n = full.1 (omega arith) in
      get_right (items c) (flat_map items (b ∷ cs)) n i long (omega arith) ∙ chunk_get (b ∷ cs) full.2 q r (i - n) old (omega arith) low (omega arith) e

  pub chunk_past : (cs : List C) → AreFull items n cs → (q i : ℕ) → n * q ≤ i → length cs ≤ q → slice_get (flat_map items cs) i ≡ None
  chunk_past cs full q i at past = slice_get_past (flat_map items cs) i (omega (arith, chunk_count cs full, mul-le-mul_left n past))

  -- a chunk in place of one with the same elements
  pub chunk_same : (cs : List C) → AreFull items n cs → (q : ℕ) (old new : C) → old ≡ get_or cs q old → items new ≡ items old → (flat_map items (slice_set cs q new) ≡ flat_map items cs) × AreFull items n (slice_set cs q new)
  chunk_same [] full q old new e same = (refl, tt)
  chunk_same (c ∷ cs) full zero old new e same =
      let one : items new ≡ items c = same ∙ ap items e in
      let long : length (items new) ≡ length (items c) = ap (λ l. length l) one in
      (ap (λ l. l ++ flat_map items cs) one, (omega (arith, full.0), λ more. long ∙ full.1 more, full.2))
  chunk_same (c ∷ cs) full (suc q) old new e same =
      let rest = chunk_same cs full.2 q old new e same in
      (ap (λ l. items c ++ l) rest.0, (full.0, λ more. full.1 (omega (arith, length-set cs q new)), rest.1))

  pub chunk_set : (cs : List C) → AreFull items n cs → (q r i : ℕ) (v : X) (old new : C) → i ≡ n * q + r → r < n → i < length (flat_map items cs) → old ≡ get_or cs q old → items new ≡ slice_set (items old) r v → (flat_map items (slice_set cs q new) ≡ slice_set (flat_map items cs) i v) × AreFull items n (slice_set cs q new)
  chunk_set [] full q r i v old new at low within e changed = absurd (omega arith)
  chunk_set (c ∷ cs) full zero r i v old new at low within e changed =
      let one : items new ≡ slice_set (items c) r v = changed ∙ ap (λ o. slice_set (items o) r v) e in
      let there = chunk_within (c ∷ cs) full zero r i c (omega arith) low within refl in
      let long : length (items new) ≡ length (items c) = ap (λ l. length l) one ∙ length-set (items c) r v in (
        ap (λ l. l ++ flat_map items cs) one ∙ sym (set-append_left (items c) (flat_map items cs) r v there.1) ∙ ap (λ k. slice_set (items c ++ flat_map items cs) k v) (omega arith),
        (omega (arith, full.0), λ more. long ∙ full.1 more, full.2),
      )
  chunk_set (c ∷ []) full (suc q) r i v old new at low within e changed = absurd (omega (arith, full.0, length-append (items c) []))
  chunk_set (c ∷ b ∷ cs) full (suc q) r i v old new at low within e changed =
      let long : length (items c) ≡ n = full.1 (omega arith) in
      let count = length-append (items c) (flat_map items (b ∷ cs)) in
      let rest = chunk_set (b ∷ cs) full.2 q r (i - n) v old new (omega arith) low (omega (arith, count)) e changed in (
        ap (λ l. items c ++ l) rest.0 ∙ sym (set-append_right (items c) (flat_map items (b ∷ cs)) n i v long (omega arith)),
        (full.0, λ more. long, rest.1),
      )

  -- the last chunk has what the others leave
  pub chunk_rest : (cs : List C) → AreFull items n cs → (q r : ℕ) (old : C) → length (flat_map items cs) ≡ n * q + r → r < n → q < length cs → old ≡ get_or cs q old → length (items old) ≡ r
  chunk_rest [] full q r old total low there e = absurd (omega arith)
  chunk_rest (c ∷ []) full zero r old total low there e = omega (arith, length-append (items c) [], ap (λ o. length (items o)) e)
  chunk_rest (c ∷ []) full (suc q) r old total low there e = absurd (omega arith)
  chunk_rest (c ∷ b ∷ cs) full zero r old total low there e =
      absurd (omega (arith, full.1 (omega arith), length-append (items c) (flat_map items (b ∷ cs))))
  chunk_rest (c ∷ b ∷ cs) full (suc q) r old total low there e =
      let long : length (items c) ≡ n = full.1 (omega arith) in
      let count = length-append (items c) (flat_map items (b ∷ cs)) in
      chunk_rest (b ∷ cs) full.2 q r old (omega (arith, count)) low (omega arith) e

  -- elements more in the last chunk, which has room for them
  pub chunk_append : (cs : List C) → AreFull items n cs → (q r : ℕ) (vs : List X) (old new : C) → length (flat_map items cs) ≡ n * q + r → r < n → r + length vs ≤ n → q < length cs → old ≡ get_or cs q old → items new ≡ items old ++ vs → (flat_map items (slice_set cs q new) ≡ flat_map items cs ++ vs) × AreFull items n (slice_set cs q new)
  chunk_append [] full q r vs old new total low room there e changed = absurd (omega arith)
  chunk_append (c ∷ []) full zero r vs old new total low room there e changed =
      let one : items new ≡ items c ++ vs = changed ∙ ap (λ o. items o ++ vs) e in
      let long : length (items new) ≡ length (items c) + length vs = ap (λ l. length l) one ∙ length-append (items c) vs in (
        append-nil (items new) ∙ one ∙ ap (λ l. l ++ vs) (sym (append-nil (items c))),
        (omega (arith, length-append (items c) []), λ more. absurd (omega arith), tt),
      )
  chunk_append (c ∷ []) full (suc q) r vs old new total low room there e changed = absurd (omega arith)
  chunk_append (c ∷ b ∷ cs) full zero r vs old new total low room there e changed =
      absurd (omega (arith, full.1 (omega arith), length-append (items c) (flat_map items (b ∷ cs))))
  chunk_append (c ∷ b ∷ cs) full (suc q) r vs old new total low room there e changed =
      let long : length (items c) ≡ n = full.1 (omega arith) in
      let count = length-append (items c) (flat_map items (b ∷ cs)) in
      let rest = chunk_append (b ∷ cs) full.2 q r vs old new (omega (arith, count)) low room (omega arith) e changed in
      (ap (λ l. items c ++ l) rest.0 ∙ sym (append_assoc (items c) (flat_map items (b ∷ cs)) vs), (full.0, λ more. long, rest.1))

  pub chunk_push : (cs : List C) → AreFull items n cs → (q r : ℕ) (v : X) (old new : C) → length (flat_map items cs) ≡ n * q + r → r < n → q < length cs → old ≡ get_or cs q old → items new ≡ items old ++ v ∷ [] → (flat_map items (slice_set cs q new) ≡ flat_map items cs ++ v ∷ []) × AreFull items n (slice_set cs q new)
  chunk_push cs full q r v old new total low there e changed = chunk_append cs full q r (v ∷ []) old new total low (omega arith) there e changed

  -- an empty chunk more, where all are full
  pub chunk_more : (cs : List C) (none : C) → items none ≡ [] → AreFull items n cs → length (flat_map items cs) ≡ n * length cs → (flat_map items (cs ++ none ∷ []) ≡ flat_map items cs) × AreFull items n (cs ++ none ∷ [])
  chunk_more [] none e full total = (append-nil (items none) ∙ e, (omega (arith, ap (λ (l : List X). length l) e), λ more. absurd (omega arith), tt))
  chunk_more (c ∷ cs) none e full total =
      let count = length-append (items c) (flat_map items cs) in
      let most = chunk_count cs full.2 in
      let rest = chunk_more cs none e full.2 (omega (arith, full.0)) in
      (ap (λ l. items c ++ l) rest.0, (full.0, λ more. omega (arith, full.0), rest.1))

  -- the chunks up to one of which only so many elements are kept
  pub chunk_cut : (cs : List C) → AreFull items n cs → (q r i : ℕ) (old new : C) → i ≡ n * q + r → r < n → i < length (flat_map items cs) → old ≡ get_or cs q old → items new ≡ take r (items old) → (flat_map items (take (suc q) (slice_set cs q new)) ≡ take i (flat_map items cs)) × AreFull items n (take (suc q) (slice_set cs q new))
  chunk_cut [] full q r i old new at low within e changed = absurd (omega arith)
  chunk_cut (c ∷ cs) full zero r i old new at low within e changed =
      let one : items new ≡ take r (items c) = changed ∙ ap (λ o. take r (items o)) e in
      let there = chunk_within (c ∷ cs) full zero r i c (omega arith) low within refl in
      let long : length (items new) ≤ r = omega (arith, ap (λ l. length l) one, length-take r (items c)) in (
        append-nil (items new) ∙ one ∙ ap (λ k. take k (items c)) (omega arith) ∙ sym (take_left (items c) (flat_map items cs) i (omega (arith, there.1))),
        (omega arith, λ more. absurd (omega arith), tt),
      )
  chunk_cut (c ∷ []) full (suc q) r i old new at low within e changed = absurd (omega (arith, full.0, length-append (items c) []))
  chunk_cut (c ∷ b ∷ cs) full (suc q) r i old new at low within e changed =
      let long : length (items c) ≡ n = full.1 (omega arith) in
      let count = length-append (items c) (flat_map items (b ∷ cs)) in
      let rest = chunk_cut (b ∷ cs) full.2 q r (i - n) old new (omega arith) low (omega (arith, count)) e changed in (
        ap (λ l. items c ++ l) rest.0 ∙ sym (take_right (items c) (flat_map items (b ∷ cs)) n i long (omega arith)),
        (full.0, λ more. long, rest.1),
      )

  -- chunks that show the same elements
  pub chunks_same : (S : C → C → Type 0) → ((x y : C) → S x y → items y ≡ items x) → (xs ys : List C) → AllZip S xs ys → (flat_map items ys ≡ flat_map items xs) × (length ys ≡ length xs) × (AreFull items n xs → AreFull items n ys)
  chunks_same S same [] [] h = (refl, refl, λ full. full)
  chunks_same S same [] (y ∷ ys) h = absurd h
  chunks_same S same (x ∷ xs) [] h = absurd h
  chunks_same S same (x ∷ xs) (y ∷ ys) h =
      let rest = chunks_same S same xs ys h.1 in
      let one = same x y h.0 in
      let long : length (items y) ≡ length (items x) = ap (λ l. length l) one in
      ((λ i. one i ++ rest.0 i), ap (λ k. suc k) rest.1, λ full. (omega (arith, full.0), λ more. long ∙ full.1 (omega (arith, rest.1)), rest.2 full.2))
