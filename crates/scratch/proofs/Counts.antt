-- How many pairs of an evaluation and its moment are asked.
use Rattle.std.proofs.Common.{◌≡◌, ◌≤◌, ◌∙◌, ◌+◌, ◌++◌, ap, Bool, cond, ℕ, List, arith}
use Rattle.std.specs.List.{count_by}
use Rattle.std.proofs.lemmas.List.Sums.{sum_by-append}
use Rattle.std.proofs.lemmas.List.Sorted.{sum_by-IsPermutation}
use Rattle.gatestep.specs.Step.{Evaluation}
use Rattle.scratch.specs.Asked.{IsAskedInPart, IsAskedInSomeOrder}

pub all_counted : (before now work : List (Evaluation × ℕ)) (test : Evaluation × ℕ → Bool) → IsAskedInSomeOrder before now work →
    count_by test now ≡ count_by test before + count_by test work
all_counted before now work test grown =
    ap (count_by test) grown.2 ∙ sum_by-append (λ x. cond (test x) 1 0) before grown.0
    ∙ ap (λ n. count_by test before + n) (sum_by-IsPermutation (λ x. cond (test x) 1 0) work grown.0 grown.1)

pub part_counted : (before now work : List (Evaluation × ℕ)) (test : Evaluation × ℕ → Bool) → IsAskedInPart before now work →
    count_by test now ≤ count_by test before + count_by test work
part_counted before now work test grown =
    let one = λ (x : Evaluation × ℕ). cond (test x) 1 0 in
    let is : count_by test now ≡ count_by test before + count_by test grown.0 = ap (count_by test) grown.2 ∙ sum_by-append one before grown.0 in
    let both : count_by test (grown.0 ++ grown.1.0) ≡ count_by test grown.0 + count_by test grown.1.0 = sum_by-append one grown.0 grown.1.0 in
    let whole : count_by test (grown.0 ++ grown.1.0) ≡ count_by test work = sum_by-IsPermutation one work (grown.0 ++ grown.1.0) grown.1.1 in
    omega (arith, is, both, whole)
