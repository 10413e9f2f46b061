-- What is asked where the answers for some gates are known: those for the others are open.
use Rattle.std.specs.Prelude.{◌&&◌, Bool, false, ℕ, zero, suc, nat_le, if◌then◌else◌, List, [], ◌∷◌, ◌++◌, map, slice_get}
use Rattle.std.specs.List.{filter}
use Rattle.std.specs.Option.{option_map_or}
use Rattle.gatestep.specs.Record.{at_moment}
use Rattle.gatestep.specs.Step.{State, Evaluation}
use Rattle.design.specs.Netlist.{GateEntry, Netlist}
use Rattle.scratch.specs.Work.{is_stirred, task_at}

-- the answer for the gate at a place is open at t
abbrev pub is_open_at : (GateEntry → ℕ → Bool) → Netlist → (t k : ℕ) → Bool
is_open_at is_open d t k = option_map_or (λ g. is_open g t) (slice_get d.gates k) false

-- what is asked of the gate at a place at t
abbrev pub asked_at : (GateEntry → ℕ → Bool) → (Evaluation → ℕ → State) → Netlist → (t k : ℕ) → List (Evaluation × ℕ)
asked_at is_open answer d t k = option_map_or (λ g. if is_open g t then (task_at answer d g t, t) ∷ [] else []) (slice_get d.gates k) []

-- what is asked at t: of the gates that are stirred those whose answers are open, each task with its moment
abbrev pub open_work_at : (GateEntry → ℕ → Bool) → (Evaluation → ℕ → State) → Netlist → ℕ → List (Evaluation × ℕ)
open_work_at is_open answer d t = at_moment t (map (λ g. task_at answer d g t) (filter (λ g. is_open g t && is_stirred answer d g t) d.gates))

-- the work of the moments below n, in order, where each has this
abbrev pub all_below : {X : Type 0} → (ℕ → List X) → ℕ → List X
all_below work zero = []
all_below work (suc t) = all_below work t ++ work t

-- that of the moments from n on and below m
abbrev pub all_from : {X : Type 0} → (ℕ → List X) → ℕ → ℕ → List X
all_from work n zero = []
all_from work n (suc t) = if nat_le n t then all_from work n t ++ work t else []
