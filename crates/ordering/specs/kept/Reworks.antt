-- What is asked beside an old run from some moment on.
use Rattle.std.specs.Prelude.{◌&&◌, ℕ, List}
use Rattle.gatestep.specs.Step.{State, Evaluation}
use Rattle.design.specs.Netlist.{Netlist}
use Rattle.scratch.specs.Work.{is_stirred}
use Rattle.rundiff.specs.Dirty.{is_dirty}
use Rattle.ordering.specs.kept.Gates.{moments_from, rows_of}

-- the tasks of the gates that are dirty and stirred, at the moments from a on and below n
abbrev pub rework_from : (Evaluation → ℕ → State) → (old new : Netlist) → (a n : ℕ) → List (Evaluation × ℕ)
rework_from answer old new a n = rows_of answer new (λ g t. is_dirty answer old new g t && is_stirred answer new g t) (moments_from a n)
