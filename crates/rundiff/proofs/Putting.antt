-- Lines taken away or put, one after another.
use Rattle.std.proofs.Common.{◌≡◌, ◌∙◌, ap, sym, refl, ℕ, ◌+◌, Bool, true, false, cond, List, [], ◌∷◌, Option, Some, Result, Ok, Err, IfOk, take, inl, inr, ⊎_elim, eqb-true}
use Rattle.std.specs.Prelude.{◌⊎◌, ◌==◌, slice_get}
use Rattle.std.proofs.Math.Bool.{or-false}
use Rattle.waveform.specs.kept.Tables.{IsChangedAt, line_at}
use Rattle.scratch.proofs.Among.{nat_itself}
use Rattle.rundiff.specs.kept.Finishing.{ArePut}
use Rattle.rundiff.specs.kept.Places.{is_among}
use Rattle.rundiff.proofs.Steps.{each_more}

pub if_mapped : {A E : Type 0} (r : Result A E) (P Q : A → Type 0) → IfOk r P → ((x : A) → P x → Q x) → IfOk r Q
if_mapped (Ok x) P Q p follows = follows x p
if_mapped (Err e) P Q p follows = tt

module _ {X : Type 0} (due : ℕ → Option X) (keys : List ℕ) where
  -- the line of one place
  pub put_one : (place key : ℕ) (line : X) (old new : List (Option X)) → slice_get keys place ≡ Some key → due key ≡ Some line → IsChangedAt key (Some line) old new → ArePut due keys (place ∷ []) old new
  put_one place key line old new here is changed = record {
    put = λ p k among at.
        let e : place ≡ p = eqb-true place p (sym (or-false (place == p)) ∙ among) in
        let both : Some k ≡ Some key = sym at ∙ ap (slice_get keys) (sym e) ∙ here in
        let same : k ≡ key = cc in
        put_there k same;
    others = λ k. by_test k (k == key) refl;
  }
    where
      put_there : (k : ℕ) → k ≡ key → line_at new k ≡ due k
      put_there k same = changed k ∙ ap (λ (b : Bool). cond b (Some line) (line_at old k)) (ap (λ (n : ℕ). k == n) (sym same) ∙ nat_itself k) ∙ sym is ∙ ap due (sym same)

      by_test : (k : ℕ) (b : Bool) → (k == key) ≡ b → (line_at new k ≡ due k) ⊎ (line_at new k ≡ line_at old k)
      by_test k true same = inl (put_there k (eqb-true k key same))
      by_test k false other = inr (changed k ∙ ap (λ (b : Bool). cond b (Some line) (line_at old k)) other)

  -- one place more
  pub put_next : (places : List ℕ) (i x : ℕ) (old now new : List (Option X)) → slice_get places i ≡ Some x → ArePut due keys (take i places) old now → ArePut due keys (x ∷ []) now new → ArePut due keys (take (i + 1) places) old new
  put_next places i x old now new at so_far more = record {
    put = λ p k among found.
        each_more (λ q. slice_get keys q ≡ Some k → line_at new k ≡ due k) places i x at (λ q was apart here. ⊎_elim (λ e. e) (λ e. e ∙ so_far.put q k was here) (more.others k)) (λ here. more.put x k sole_on here) p among found;
    others = λ k. ⊎_elim inl (λ e. ⊎_elim (λ d. inl (e ∙ d)) (λ d. inr (e ∙ d)) (so_far.others k)) (more.others k);
  }
    where
      sole_on : is_among (x ∷ []) x ≡ true
      sole_on = let on = nat_itself x in rw on refl
