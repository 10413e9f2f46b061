-- One thread more.
use Rattle.std.proofs.Common.{◌≡◌, ◌∙◌, ◌+◌, ◌*◌, ◌++◌, ◌∷◌, ℕ, [], List, All, length, add-one, ap, arith, subst, sym, ◌<◌, ◌≤◌, length-append}
use Rattle.std.proofs.Math.Seq.{get_or-append_seam}
use Rattle.std.proofs.lemmas.List.{get_or_append_left}
use Rattle.std.proofs.lemmas.List.Elements.{All-append, All-cons, All-nil}
use native.Mathlib.Nat.{suc-mul}
use Rattle.racer.specs.Tallies.{Counts, TallyRecord}
use Rattle.racer.specs.kept.Tallies.{added}

-- the new thread keeps the same promise as the others
pub more_handles : {H : Type 0} (P : H → Type 0) (old : List H) (child : H) (new : List H) → new ≡ old ++ child ∷ [] → All P old → P child → All P new
more_handles P old child new grown kept promise = subst (All P) (sym grown) (All-append P old (child ∷ []) kept (All-cons P child [] promise (All-nil P)))

-- there are as many threads as viewers
pub more_viewers : {V : Type 0} (old new : ℕ) (viewers : List V) (viewer : V) → new ≡ old + 1 → old ≡ length viewers → new ≡ length (viewers ++ viewer ∷ [])
more_viewers old new viewers viewer grown counted = grown ∙ (ap (λ n. n + 1) counted ∙ sym (length-append viewers (viewer ∷ [])))

shorter : (k n m : ℕ) → k < n → m ≡ n + 1 → k < m
shorter k n m below is = omega arith

last_place : (n m : ℕ) → m ≡ n + 1 → n < m
last_place n m is = omega arith

pub fewer : (a b : ℕ) → a + 1 ≡ b → b ≤ 64 → a ≤ 64
fewer a b is few = omega arith

-- the last thread, and those before it
pub parted : {H : Type 0} (P : H → Type 0) (old new : List H) (child : H) → old ≡ new ++ child ∷ [] → All P old → All P new × P child
parted P old new child same all =
    let kept : All P (new ++ child ∷ []) = subst (All P) same all in
    let long : length (new ++ child ∷ []) ≡ length new + 1 = length-append new (child ∷ []) in (
      λ k d within. subst P (get_or_append_left new (child ∷ []) d k within) (kept k d (shorter k (length new) (length (new ++ child ∷ [])) within long)),
      subst P (get_or-append_seam new child [] child) (kept (length new) child (last_place (length new) (length (new ++ child ∷ [])) long)),
    )

sums : (viewers looks submits was left rest n each all : ℕ) (a b c m : ℕ) → a ≡ viewers + 1 → b ≡ looks + each → c ≡ submits + 0 → m ≡ was + each
    → left ≡ rest + 1 → viewers + left ≡ n → looks + m ≡ all → submits ≡ 0 → (a + rest ≡ n) × (b + was ≡ all) × (c ≡ 0)
sums viewers looks submits was left rest n each all a b c m p q r s t u v w = (omega arith, omega arith, omega arith)

-- what one thread more has counted
pub more_counted : (before child now : TallyRecord) (left rest n looks : ℕ) → now ≡ added before child → Counts 1 looks 0 child → left ≡ rest + 1
    → before.viewers + left ≡ n → before.looks + left * looks ≡ n * looks → before.submits ≡ 0
    → (now.viewers + rest ≡ n) × (now.looks + rest * looks ≡ n * looks) × (now.submits ≡ 0)
more_counted before child now left rest n looks is counts one viewers all submits =
    let v : now.viewers ≡ before.viewers + 1 = ap (λ (t : TallyRecord). t.viewers) is ∙ ap (λ (t : TallyRecord). before.viewers + t.viewers) counts in
    let l : now.looks ≡ before.looks + looks = ap (λ (t : TallyRecord). t.looks) is ∙ ap (λ (t : TallyRecord). before.looks + t.looks) counts in
    let s : now.submits ≡ before.submits + 0 = ap (λ (t : TallyRecord). t.submits) is ∙ ap (λ (t : TallyRecord). before.submits + t.submits) counts in
    let m : left * looks ≡ rest * looks + looks = ap (λ (k : ℕ). k * looks) (one ∙ add-one rest) ∙ suc-mul rest looks in
    sums before.viewers before.looks before.submits (rest * looks) left rest n looks (n * looks) now.viewers now.looks now.submits (left * looks) v l s m one viewers
    all submits
