-- What a run asks of its stepper at the moments from one to another.
use Rattle.std.specs.Prelude.{◌≡◌, ◌⊎◌, ℕ, zero, suc, nat_le, if◌then◌else◌, List, [], ◌++◌}
use Rattle.gatestep.specs.Step.{State, Evaluation}
use Rattle.design.specs.Netlist.{Netlist}
use Rattle.scratch.specs.Work.{work_at}

-- what is asked at the moments from n on and below m, in order
abbrev pub work_from : (Evaluation → ℕ → State) → Netlist → ℕ → ℕ → List (Evaluation × ℕ)
work_from answer d n zero = []
work_from answer d n (suc t) = if nat_le n t then work_from answer d n t ++ work_at answer d t else []

-- a list has grown by some work, or not at all
abbrev pub HasGrownOrNot : (old new work : List (Evaluation × ℕ)) → Type 0
HasGrownOrNot old new work = (new ≡ old) ⊎ (new ≡ old ++ work)
