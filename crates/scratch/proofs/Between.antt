-- Functions of places, and lists, of which some places are done: there they are new, elsewhere as they were.
use Rattle.std.proofs.Common.{◌≡◌, ◌<◌, ◌∙◌, sym, ap, refl, Bool, true, false, cond, ℕ, zero, suc, List, [], ◌∷◌, ◌++◌, length, Some, slice_get, arith}
use Rattle.std.specs.Prelude.{nat_eq, ◌||◌}
use Rattle.std.proofs.Math.ListN.{set}
use Rattle.std.proofs.lemmas.Bool.Decides.{nat_tests}
use Rattle.std.proofs.lemmas.Bool.{eqb-true}
use Rattle.std.proofs.Math.Bool.{or-true, or-false}
pub use Rattle.scratch.specs.kept.Places.{Between}
use Rattle.scratch.specs.kept.Places.{has}
use Rattle.scratch.proofs.Among.{has_more, nat_itself}

module _ {X : Type 0} (done : List ℕ) (old new now : ℕ → X) (so_far : Between done old new now) where
  pub is_old : (p : ℕ) → has p done ≡ false → now p ≡ old p
  is_old p off = so_far p ∙ ap (λ (b : Bool). cond b (new p) (old p)) off

  pub is_new : (p : ℕ) → has p done ≡ true → now p ≡ new p
  is_new p on = so_far p ∙ ap (λ (b : Bool). cond b (new p) (old p)) on

  module _ (p : ℕ) (next : ℕ → X) (is : next p ≡ new p) (same : (k : ℕ) → nat_eq k p ≡ false → next k ≡ now k) where
    step_by : (k : ℕ) (b : Bool) → nat_eq k p ≡ b → next k ≡ cond (has k done || nat_eq k p) (new k) (old k)
    step_by k true e =
        let here : k ≡ p = eqb-true k p e in
        ap next here ∙ is ∙ sym (ap new here) ∙ sym (ap (λ (b : Bool). cond b (new k) (old k)) (ap (λ (c : Bool). has k done || c) e ∙ or-true (has k done)))
    step_by k false e =
        same k e ∙ so_far k ∙ sym (ap (λ (b : Bool). cond b (new k) (old k)) (ap (λ (c : Bool). has k done || c) e ∙ or-false (has k done)))

    -- one place more is done
    pub step : Between (done ++ p ∷ []) old new next
    step k = step_by k (nat_eq k p) refl ∙ sym (ap (λ (b : Bool). cond b (new k) (old k)) (has_more k p done))

  end_by : (k : ℕ) (b : Bool) → has k done ≡ b → (b ≡ false → old k ≡ new k) → now k ≡ new k
  end_by k true is others = is_new k is
  end_by k false is others = is_old k is ∙ others refl

  -- where all other places stay, all is done
  pub end : ((k : ℕ) → has k done ≡ false → old k ≡ new k) → (k : ℕ) → now k ≡ new k
  end others k = end_by k (has k done) refl (others k)

-- Lists.

-- lists that have the same at each place are the same
pub alike : {X : Type 0} (xs ys : List X) → ((k : ℕ) → slice_get xs k ≡ slice_get ys k) → xs ≡ ys
alike [] [] h = refl
alike [] (y ∷ ys) h = absurd (let e = h 0 in cc)
alike (x ∷ xs) [] h = absurd (let e = h 0 in cc)
alike (x ∷ xs) (y ∷ ys) h = let one = h 0 in let rest = alike xs ys (λ k. h (suc k)) in cc

pub set_here : {X : Type 0} (xs : List X) (p : ℕ) (x : X) → p < length xs → slice_get (set xs p x) p ≡ Some x
set_here [] p x h = absurd (omega arith)
set_here (w ∷ xs) zero x h = refl
set_here (w ∷ xs) (suc p) x h = set_here xs p x (omega arith)

pub set_apart : {X : Type 0} (xs : List X) (p k : ℕ) (x : X) → nat_eq k p ≡ false → slice_get (set xs p x) k ≡ slice_get xs k
set_apart [] p k x h = refl
set_apart (w ∷ xs) zero zero x h = absurd (let e = nat_itself 0 in cc)
set_apart (w ∷ xs) zero (suc k) x h = refl
set_apart (w ∷ xs) (suc p) zero x h = refl
set_apart (w ∷ xs) (suc p) (suc k) x h = set_apart xs p k x (grind (arith, nat_tests))

module _ {X : Type 0} (done : List ℕ) (old new now : List X) (so_far : Between done (slice_get old) (slice_get new) (slice_get now)) where
  -- one place more is written
  pub write : (p : ℕ) (x : X) → slice_get new p ≡ Some x → p < length now → Between (done ++ p ∷ []) (slice_get old) (slice_get new) (slice_get (set now p x))
  write p x is within =
      step done (slice_get old) (slice_get new) (slice_get now) so_far p (slice_get (set now p x)) (set_here now p x within ∙ sym is) (λ k e. set_apart now p k x e)

  -- one place more has its new element already
  pub pass : (p : ℕ) → slice_get now p ≡ slice_get new p → Between (done ++ p ∷ []) (slice_get old) (slice_get new) (slice_get now)
  pass p is = step done (slice_get old) (slice_get new) (slice_get now) so_far p (slice_get now) is (λ k e. refl)

  pub finish : ((k : ℕ) → has k done ≡ false → slice_get old k ≡ slice_get new k) → now ≡ new
  finish others = alike now new (end done (slice_get old) (slice_get new) (slice_get now) so_far others)
