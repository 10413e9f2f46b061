-- What the places of jobs that are done say of the jobs.
use Rattle.std.proofs.Common.{◌≡◌, ◌≤◌, ℕ, List, length, take, drop, arith, [], ◌∷◌, ◌++◌, ◌∙◌, Option, Some, None, Result, All, ap, sym, subst, refl, append-nil}
use Rattle.std.specs.List.{AllZip, flat_map}
use Rattle.std.specs.Result.{IfOk, OnOk, OnErr}
use Rattle.std.proofs.lemmas.List.{take-append-le}
use Rattle.std.proofs.Math.Seq.{take-length}
use Rattle.std.proofs.lemmas.List.Elements.{All-nil, All-cons}
use Rattle.std.proofs.lemmas.List.Sorted.{IsPermutation-refl}
use Rattle.gatestep.specs.Jobs.{IsPart}
use Rattle.gatestep.specs.Step.{Evaluation}
use Rattle.gatestep.specs.declared.job.Outcome.{Outcome}
use Rattle.gatestep.specs.kept.Jobs.{IsDone}
use Rattle.gatestep.proofs.Jobs.{on_err, part_by, whole_is_part, parts_append}
use Rattle.parstep.specs.kept.Jobs.{IsFilled, Holds, asked_in}

-- what a slice of a whole list leaves of the list
pub taken_front : {A : Type 0} (n : ℕ) (xs before : List A) → length xs ≡ n → take n (xs ++ drop (length xs) before) ≡ xs
taken_front n xs before long =
    let all : length xs ≤ length xs = omega arith in
    subst (λ it. take it (xs ++ drop (length xs) before) ≡ xs) long (rw take-append-le (take-length xs))

-- nothing is a part of what jobs ask
pub nothing_asked : {T E : Type 0} (r : Result T E) (before whole : List (Evaluation × ℕ)) →
    OnErr r ((piece : List (Evaluation × ℕ)) × IsPart piece whole × (before ≡ before ++ piece))
nothing_asked r before whole = on_err r ([], (whole, IsPermutation-refl whole), sym (append-nil before))

module _ {J O : Type 0} (gives : J → O → Type 0) (work : J → List (Evaluation × ℕ)) where
  filled : (job : J) (place : Option (Outcome O)) → IsDone gives work job place → IsFilled place
  filled job None done = absurd done
  filled job (Some outcome) done = done.lost

  part : (job : J) (place : Option (Outcome O)) → IsDone gives work job place → IsPart (asked_in place) (work job)
  part job None done = absurd done
  part job (Some outcome) done = part_by outcome.output outcome.record.asked (work job) done.asked done.part

  -- where a place has an output, its job gives that
  given : (job : J) (place : Option (Outcome O)) (output : O) → IsDone gives work job place → Holds place output → gives job output
  given job None output done holds = absurd done
  given job (Some outcome) output done holds = subst (λ it. IfOk it (gives job)) holds done.output

  -- and all that its job asks was asked
  whole : (job : J) (place : Option (Outcome O)) (output : O) → IsDone gives work job place → Holds place output → asked_in place ≡ work job
  whole job None output done holds = absurd done
  whole job (Some outcome) output done holds = subst (λ it. OnOk it (outcome.record.asked ≡ work job)) holds done.asked

  pub all_filled : (jobs : List J) (places : List (Option (Outcome O))) → AllZip (IsDone gives work) jobs places → All IsFilled places
  all_filled [] [] all = All-nil IsFilled
  all_filled [] (place ∷ places) all = absurd all
  all_filled (job ∷ jobs) [] all = absurd all
  all_filled (job ∷ jobs) (place ∷ places) all = All-cons IsFilled place places (filled job place all.0) (all_filled jobs places all.1)

  pub all_part : (jobs : List J) (places : List (Option (Outcome O))) → AllZip (IsDone gives work) jobs places → IsPart (flat_map asked_in places) (flat_map work jobs)
  all_part [] [] all = whole_is_part []
  all_part [] (place ∷ places) all = absurd all
  all_part (job ∷ jobs) [] all = absurd all
  all_part (job ∷ jobs) (place ∷ places) all =
      parts_append (asked_in place) (work job) (flat_map asked_in places) (flat_map work jobs) (part job place all.0) (all_part jobs places all.1)

  pub all_given : (jobs : List J) (places : List (Option (Outcome O))) (outputs : List O) → AllZip (IsDone gives work) jobs places → AllZip Holds places outputs → AllZip gives jobs outputs
  all_given [] [] [] all held = tt
  all_given [] [] (output ∷ outputs) all held = absurd held
  all_given [] (place ∷ places) outputs all held = absurd all
  all_given (job ∷ jobs) [] outputs all held = absurd all
  all_given (job ∷ jobs) (place ∷ places) [] all held = absurd held
  all_given (job ∷ jobs) (place ∷ places) (output ∷ outputs) all held = (given job place output all.0 held.0, all_given jobs places outputs all.1 held.1)

  pub all_asked : (jobs : List J) (places : List (Option (Outcome O))) (outputs : List O) → AllZip (IsDone gives work) jobs places → AllZip Holds places outputs → flat_map asked_in places ≡ flat_map work jobs
  all_asked [] [] outputs all held = refl
  all_asked [] (place ∷ places) outputs all held = absurd all
  all_asked (job ∷ jobs) [] outputs all held = absurd all
  all_asked (job ∷ jobs) (place ∷ places) [] all held = absurd held
  all_asked (job ∷ jobs) (place ∷ places) (output ∷ outputs) all held =
      ap (λ it. it ++ flat_map asked_in places) (whole job place output all.0 held.0) ∙ ap (λ it. work job ++ it) (all_asked jobs places outputs all.1 held.1)
