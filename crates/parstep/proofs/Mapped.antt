-- Tasks and their answers, place by place.
use Rattle.std.proofs.Common.{◌≡◌, ◌+◌, ℕ, List, [], ◌∷◌, map, All, refl}
use Rattle.std.specs.List.{AllZip}
use Rattle.std.proofs.lemmas.List.Elements.{All-nil, All-cons}
use Rattle.gatestep.specs.Step.{State, Evaluation, advance}
use Rattle.gatestep.specs.Tasks.{PendingFrom}

-- the answer to a task at t, and when what it leaves pending is due
abbrev pub Answers : ℕ → Evaluation → State → Type 0
Answers t task state = (state ≡ advance task t) × PendingFrom (t + 1) state

pub zip_map : (t : ℕ) (tasks : List Evaluation) (states : List State) → AllZip (Answers t) tasks states → states ≡ map (λ task. advance task t) tasks
zip_map t [] [] all = refl
zip_map t [] (state ∷ states) all = absurd all
zip_map t (task ∷ tasks) [] all = absurd all
zip_map t (task ∷ tasks) (state ∷ states) all = rw (all.0.0, zip_map t tasks states all.1) refl

pub zip_all : (t : ℕ) (tasks : List Evaluation) (states : List State) → AllZip (Answers t) tasks states → All (PendingFrom (t + 1)) states
zip_all t [] [] all = All-nil (PendingFrom (t + 1))
zip_all t [] (state ∷ states) all = absurd all
zip_all t (task ∷ tasks) [] all = absurd all
zip_all t (task ∷ tasks) (state ∷ states) all = All-cons (PendingFrom (t + 1)) state states all.0.1 (zip_all t tasks states all.1)
