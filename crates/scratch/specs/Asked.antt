-- What was asked of a stepper, where the order is left open.
use Rattle.std.specs.Prelude.{◌≡◌, ℕ, List, ◌++◌, IsPermutation}
pub use Rattle.gatestep.specs.Jobs.{IsPart}
use Rattle.gatestep.specs.Step.{Evaluation}

-- what was asked has grown by this work, in some order: by each entry as often as the work has it, and by no others
abbrev pub IsAskedInSomeOrder : (old new work : List (Evaluation × ℕ)) → Type 0
IsAskedInSomeOrder old new work = (added : List (Evaluation × ℕ)) × IsPermutation work added × (new ≡ old ++ added)

-- what was asked has grown by a part of this work, in some order: by no entry more often than the work has it, and by no others
abbrev pub IsAskedInPart : (old new work : List (Evaluation × ℕ)) → Type 0
IsAskedInPart old new work = (added : List (Evaluation × ℕ)) × IsPart added work × (new ≡ old ++ added)
