-- How often what passes a test is asked.
use Rattle.std.proofs.Common.{◌≡◌, ◌<◌, ◌∙◌, sym, ap, refl, Bool, true, false, cond, ℕ, zero, suc, ◌+◌, List, [], ◌∷◌, map, arith, ◌⊎◌, inl, inr}
use Rattle.std.specs.Prelude.{IsPermutation, count_by, nat_eq, nat_lt, sum_by, ◌&&◌, if◌then◌else◌}
use Rattle.std.specs.List.{filter, flat_map}
use Rattle.std.proofs.lemmas.Bool.Decides.{nat_tests}
use Rattle.std.proofs.lemmas.List.Sorted.{sum_by-IsPermutation}
use Rattle.std.proofs.lemmas.List.Sums.{sum_by-append, sum_by-cons}
use Rattle.gatestep.specs.Step.{State, Evaluation}
use Rattle.design.specs.Netlist.{Netlist}
use Rattle.waveform.specs.Timelines.{moments}
use Rattle.scratch.specs.Work.{is_stirred, task_at, work_below}
use Rattle.ordering.specs.kept.Gates.{gate_work, gates_work, stirred_pairs}
use Rattle.ordering.proofs.Columns.{below_by_gates}

-- a sum over lists end to end
sum_of_each : {X Y : Type 0} (f : Y → ℕ) (h : X → List Y) (xs : List X) → sum_by f (flat_map h xs) ≡ sum_by (λ x. sum_by f (h x)) xs
sum_of_each f h [] = refl
sum_of_each f h (x ∷ xs) =
    sum_by-append f (h x) (flat_map h xs) ∙ ap (λ s. sum_by f (h x) + s) (sum_of_each f h xs) ∙ sym (sum_by-cons (λ x. sum_by f (h x)) x xs)

module _ {X Y : Type 0} (p : X → Bool) (h : X → Y) (test : Y → Bool) where
  abbrev one : Y → ℕ
  one y = cond (test y) 1 0

  abbrev both : X → ℕ
  both x = cond (p x && test (h x)) 1 0

  by : (b : Bool) (x : X) (rest : List X) (s : ℕ) → sum_by one (map h rest) ≡ s → sum_by one (map h (cond b (x ∷ rest) rest)) ≡ cond (b && test (h x)) 1 0 + s
  by true x rest s is = sum_by-cons one (h x) (map h rest) ∙ ap (λ n. one (h x) + n) is
  by false x rest s is = is ∙ omega arith

  -- how many of those that pass one test pass another
  count_of_passing : (xs : List X) → count_by test (map h (filter p xs)) ≡ count_by (λ x. p x && test (h x)) xs
  count_of_passing [] = refl
  count_of_passing (x ∷ xs) = by (p x) x (filter p xs) (sum_by both xs) (count_of_passing xs) ∙ sym (sum_by-cons both x xs)

module _ (answer : Evaluation → ℕ → State) (d : Netlist) (n : ℕ) where
  pub each_pair_once : (work : List (Evaluation × ℕ)) → IsPermutation (work_below answer d n) work → (test : Evaluation × ℕ → Bool) → count_by test work ≡ stirred_pairs answer d n test
  each_pair_once work some test =
      let f : Evaluation × ℕ → ℕ = λ e. cond (test e) 1 0 in
      sum_by-IsPermutation f (work_below answer d n) work some
      ∙ sym (sum_by-IsPermutation f (work_below answer d n) (gates_work answer d n d.gates) (below_by_gates answer d n))
      ∙ sum_of_each f (λ g. gate_work answer d g n) d.gates
      ∙ ap (λ count. sum_by count d.gates) (λ i g. count_of_passing (λ t. is_stirred answer d g t) (λ t. (task_at answer d g t, t)) test (moments n) i)

one_more : (t n : ℕ) → cond (nat_lt t n) 1 0 + cond (nat_eq t n) 1 0 ≡ cond (nat_lt t (suc n)) 1 0
one_more t n = by (search arith)
  where
    by : (t < n) ⊎ ((n < t) ⊎ (t ≡ n)) → cond (nat_lt t n) 1 0 + cond (nat_eq t n) 1 0 ≡ cond (nat_lt t (suc n)) 1 0
    by (inl low) = grind (arith, nat_tests)
    by (inr (inl high)) = grind (arith, nat_tests)
    by (inr (inr e)) = grind (arith, nat_tests)

pub each_moment_once : (n t : ℕ) → count_by (nat_eq t) (moments n) ≡ (if nat_lt t n then 1 else 0)
each_moment_once zero t = let e : nat_lt t 0 ≡ false = grind (arith, nat_tests) in sym (ap (λ (b : Bool). cond b 1 0) e)
each_moment_once (suc n) t =
    let f : ℕ → ℕ = λ k. cond (nat_eq t k) 1 0 in
    sum_by-append f (moments n) (n ∷ []) ∙ ap (λ s. s + sum_by f (n ∷ [])) (each_moment_once n t)
    ∙ ap (λ s. cond (nat_lt t n) 1 0 + s) (sum_by-cons f n [] ∙ omega arith) ∙ one_more t n
