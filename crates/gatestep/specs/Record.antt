-- What a step adds to the list of all that a stepper was asked.
use Rattle.std.specs.Prelude.{ℕ, List, map}
use Rattle.gatestep.specs.Step.{Evaluation}

-- tasks, in order, each with the moment at which it is asked
abbrev pub at_moment : ℕ → List Evaluation → List (Evaluation × ℕ)
at_moment t tasks = map (λ task. (task, t)) tasks
