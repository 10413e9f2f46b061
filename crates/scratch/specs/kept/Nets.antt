-- The nets at a moment, of which some have what they have then.
use Rattle.std.specs.Prelude.{◌≡◌, ◌-◌, ◌+◌, false, ℕ, List, map, length, slice_get}
use Rattle.fourstate.specs.declared.value.Value.{Value}
use Rattle.gatestep.specs.Step.{State, Evaluation}
use Rattle.design.specs.Netlist.{Netlist}
use Rattle.scratch.specs.Run.{value}
use Rattle.scratch.specs.kept.Places.{Between, changes_at, has}
use Rattle.scratch.specs.kept.Recorded.{recorded_below}

-- the value of each net at u
abbrev pub values_of : (Evaluation → ℕ → State) → Netlist → ℕ → List Value
values_of answer d u = map (λ n. value answer d n u) d.nets

-- what is recorded of each net below u
abbrev pub waves_of : (Evaluation → ℕ → State) → Netlist → ℕ → List (List (ℕ × Value))
waves_of answer d u = map (λ n. recorded_below answer d n u) d.nets

-- the nets at the places `done` are done: they have their values at t, their waves have them, and those that have another value than before are listed
pub record Part (answer : Evaluation → ℕ → State) (d : Netlist) (t : ℕ) (done : List ℕ) (vs : List Value) (ws : List (List (ℕ × Value))) (cs : List ℕ) : Type 0 where
  pub values : Between done (slice_get (values_of answer d (t - 1))) (slice_get (values_of answer d t)) (slice_get vs)
  pub waves : Between done (slice_get (waves_of answer d t)) (slice_get (waves_of answer d (t + 1))) (slice_get ws)
  pub changed : Between done (λ k. false) (λ k. changes_at answer d k t) (λ k. has k cs)
  pub as_many : length vs ≡ length d.nets
  pub as_many_waves : length ws ≡ length d.nets
