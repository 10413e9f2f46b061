-- Where entries end.
use Rattle.std.proofs.Common.{ℕ, suc, ◌<◌, ◌≤◌, Bool, List, [], ◌∷◌, arith}
use Rattle.std.specs.List.{All}
use Rattle.std.proofs.lemmas.List.Elements.{All-nil, All-cons, All-head, All-tail, All-weaker}
use Rattle.waveform.proofs.Drifts.{Drifts}
use Rattle.waveform.specs.kept.Joins.{joined}
use Rattle.waveform.specs.Timelines.{entries_until}
use Rattle.waveform.specs.kept.Timelines.{end_of, pushed}
use Rattle.waveform.proofs.Joins.{joined_all, until_early}
use Rattle.waveform.proofs.Pushes.{pushed_all}

-- all entries lie before their end
pub below_end : {A : Type 0} (xs : List (ℕ × A)) (t : ℕ) → end_of xs ≤ t → All (λ e. e.0 < t) xs
below_end [] t within = All-nil (λ e. e.0 < t)
below_end (x ∷ xs) t within = All-cons (λ e. e.0 < t) x xs (omega arith) (below_end xs t (omega arith))

-- and the end is no later than any moment before which they all lie
pub end_within : {A : Type 0} (xs : List (ℕ × A)) (t : ℕ) → All (λ e. e.0 < t) xs → end_of xs ≤ t
end_within [] t early = omega arith
end_within (x ∷ xs) t early =
    let first : x.0 < t = All-head (λ e. e.0 < t) x xs early in
    let rest : end_of xs ≤ t = end_within xs t (All-tail (λ e. e.0 < t) x xs early) in
    omega arith

-- the entries up to t lie before t + 1
until_below : {A : Type 0} (xs : List (ℕ × A)) (t : ℕ) → All (λ e. e.0 < suc t) (entries_until xs t)
until_below xs t = All-weaker (λ e. e.0 ≤ t) (λ e. e.0 < suc t) (λ e h. omega arith) (entries_until xs t) (until_early xs t)

pub until_end : {A : Type 0} (xs : List (ℕ × A)) (t : ℕ) → end_of (entries_until xs t) ≤ suc t
until_end xs t = end_within (entries_until xs t) (suc t) (until_below xs t)

module _ {A : Type 0} {same : A → A → Bool} {drift : A → ℕ → A} (drifts : Drifts same drift) where
  -- with a value pushed at t the end is t + 1 at the latest
  pub pushed_end : (xs : List (ℕ × A)) (t : ℕ) (v : A) → All (λ e. e.0 < t) xs → end_of (pushed same drift xs t v) ≤ suc t
  pushed_end xs t v early =
      end_within (pushed same drift xs t v) (suc t)
      (pushed_all drifts (λ e. e.0 < suc t) xs t v (All-weaker (λ e. e.0 < t) (λ e. e.0 < suc t) (λ e h. omega arith) xs early) (omega arith))

  -- with the function of other entries from s up to and with t too
  pub joined_end : (start : A) (xs ys : List (ℕ × A)) (s t : ℕ) → s ≤ t → end_of xs ≤ s → end_of (joined same drift start xs s (entries_until ys t)) ≤ suc t
  joined_end start xs ys s t order early =
      end_within (joined same drift start xs s (entries_until ys t)) (suc t)
      (joined_all drifts (λ e. e.0 < suc t) start xs (entries_until ys t) s (below_end xs (suc t) (omega arith)) (omega arith) (until_below ys t))
