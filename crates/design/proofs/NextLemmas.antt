-- The first point after a moment.
use Rattle.std.proofs.Common.{◌≡◌, ◌<◌, ◌≤◌, ◌+◌, ◌∙◌, sym, ap, refl, ℕ, zero, suc, nat_le, nat_lt, Bool, true, false, cond, List, [], ◌∷◌, ◌++◌, length, get_or, All, Option, Some, None, slice_get, add-one, arith}
use Rattle.std.proofs.lemmas.Bool.Decides.{nat_tests}
use Rattle.std.proofs.lemmas.List.Elements.{All-head, All-tail}
use Rattle.std.specs.List.{find, flat_map}
use Rattle.std.specs.List.Sorted.{IsPartitionPoint}
use Rattle.fourstate.specs.declared.value.Value.{Value}
use Rattle.design.specs.kept.Pieces.{AreFilled, IsHome, first_in}

-- a search for the points until t ends at it
pub next_at : (ps : List (ℕ × Value)) (t n : ℕ) → IsPartitionPoint (λ p. nat_le p.0 t ≡ true) (λ p. nat_le p.0 t ≡ false) ps n → n ≤ length ps → find (λ p. nat_lt t p.0) ps ≡ slice_get ps n
next_at [] t n split within = refl
next_at (p ∷ ps) t zero split within =
    let off : nat_le p.0 t ≡ false = split.1 zero p (omega arith) (omega arith) in
    let high : nat_lt t p.0 ≡ true = grind (arith, nat_tests) in
    rw high refl
next_at (p ∷ ps) t (suc n) split within =
    let on : nat_le p.0 t ≡ true = split.0 zero p (omega arith) (omega arith) in
    let low : nat_lt t p.0 ≡ false = grind (arith, nat_tests) in
    rw low (next_at ps t n (λ i d from below. split.0 (suc i) d (omega arith) (omega arith), λ i d from below. split.1 (suc i) d (omega arith) (omega arith)) (omega arith))

abbrev pub or_else : {X : Type 0} → Option X → Option X → Option X
or_else None o = o
or_else (Some x) o = Some x

find_both : {X : Type 0} (q : X → Bool) (xs ys : List X) → find q (xs ++ ys) ≡ or_else (find q xs) (find q ys)
find_both q [] ys = refl
find_both q (x ∷ xs) ys = step (q x) (find_both q xs ys)
  where
    step : (b : Bool) → find q (xs ++ ys) ≡ or_else (find q xs) (find q ys) → cond b (Some x) (find q (xs ++ ys)) ≡ or_else (cond b (Some x) (find q xs)) (find q ys)
    step true rest = refl
    step false rest = rest

module _ {C : Type 0} (items : C → List (ℕ × Value)) (t : ℕ) where
  none_before : (ps : List (ℕ × Value)) → All (λ p. p.0 < t) ps → find (λ p. nat_lt t p.0) ps ≡ None
  none_before [] before = refl
  none_before (p ∷ ps) before =
      let early : p.0 < t = All-head (λ p. p.0 < t) p ps before in
      let low : nat_lt t p.0 ≡ false = grind (arith, nat_tests) in
      rw low (none_before ps (All-tail (λ p. p.0 < t) p ps before))

  first_by : (ps rest : List (ℕ × Value)) → 0 < length ps → All (λ p. t < p.0) (ps ++ rest) → find (λ p. nat_lt t p.0) (ps ++ rest) ≡ slice_get ps 0
  first_by [] rest some behind = absurd (omega arith)
  first_by (p ∷ ps) rest some behind =
      let late : t < p.0 = All-head (λ p. t < p.0) p (ps ++ rest) behind in
      let high : nat_lt t p.0 ≡ true = grind (arith, nat_tests) in
      rw high refl

  first : (cs : List C) → AreFilled items cs → All (λ p. t < p.0) (flat_map items cs) → find (λ p. nat_lt t p.0) (flat_map items cs) ≡ first_in items (slice_get cs 0)
  first [] filled behind = refl
  first (c ∷ cs) filled behind = first_by (items c) (flat_map items cs) filled.0 behind

  -- it is in the piece where t is or belongs, or else it is the first one of the next piece
  pub home_next : (cs : List C) (h : ℕ) (old : C) → AreFilled items cs → IsHome items t cs h → old ≡ get_or cs h old →
      find (λ p. nat_lt t p.0) (flat_map items cs) ≡ or_else (find (λ p. nat_lt t p.0) (items old)) (first_in items (slice_get cs (h + 1)))
  home_next [] h old filled home e = absurd home
  home_next (c ∷ cs) zero old filled home e =
      find_both (λ p. nat_lt t p.0) (items c) (flat_map items cs) ∙ ap (λ o. or_else (find (λ p. nat_lt t p.0) (items c)) o) (first cs filled.1 home)
      ∙ ap (λ o. or_else (find (λ p. nat_lt t p.0) (items o)) (first_in items (slice_get cs 0))) (sym e)
  home_next (c ∷ cs) (suc h) old filled home e =
      rw add-one
      (find_both (λ p. nat_lt t p.0) (items c) (flat_map items cs)
      ∙ ap (λ o. or_else o (find (λ p. nat_lt t p.0) (flat_map items cs))) (none_before (items c) home.0)
      ∙ (rw add-one at (home_next cs h old filled.1 home.1 e)))
