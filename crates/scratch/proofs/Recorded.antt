-- What is recorded of a net that one driver alone gives its value, and of another one.
use Rattle.std.proofs.Common.{◌≡◌, ap, refl, ℕ, Option, Some, None}
use Rattle.std.specs.Option.{option_map_or}
use Rattle.fourstate.specs.declared.value.Value.{Value}
use Rattle.gatestep.specs.Step.{State, Evaluation}
use Rattle.design.specs.Netlist.{NetEntry, Netlist}
use Rattle.waveform.specs.Changes.{wave_changes_below}
use Rattle.scratch.specs.kept.Kept.{lone_driver}
use Rattle.scratch.specs.kept.Recorded.{recorded_below}
use Rattle.scratch.specs.Run.{value}

by_driver : (f : ℕ → Value) (t u : ℕ) (o : Option ℕ) → wave_changes_below f t ≡ wave_changes_below f u →
    wave_changes_below f (option_map_or (λ k. 1) o t) ≡ wave_changes_below f (option_map_or (λ k. 1) o u)
by_driver f t u None same = same
by_driver f t u (Some k) same = refl

module _ (answer : Evaluation → ℕ → State) (d : Netlist) (n : NetEntry) where
  -- where a net has no more changes, no more are recorded
  pub recorded_moves : (t u : ℕ) → wave_changes_below (value answer d n) t ≡ wave_changes_below (value answer d n) u → recorded_below answer d n t ≡ recorded_below answer d n u
  recorded_moves t u same = by_driver (value answer d n) t u (lone_driver d n) same

  -- of a net with one driver moment 0 is recorded
  pub recorded_alone : (t k : ℕ) → lone_driver d n ≡ Some k → recorded_below answer d n t ≡ wave_changes_below (value answer d n) 1
  recorded_alone t k is = ap (λ (o : Option ℕ). wave_changes_below (value answer d n) (option_map_or (λ k. 1) o t)) is

  -- of another one all changes are
  pub recorded_whole : (t : ℕ) → lone_driver d n ≡ None → recorded_below answer d n t ≡ wave_changes_below (value answer d n) t
  recorded_whole t is = ap (λ (o : Option ℕ). wave_changes_below (value answer d n) (option_map_or (λ k. 1) o t)) is

  -- at moment 0 both are the same
  pub recorded_first : recorded_below answer d n 1 ≡ wave_changes_below (value answer d n) 1
  recorded_first = first_by (lone_driver d n)
    where
      first_by : (o : Option ℕ) → wave_changes_below (value answer d n) (option_map_or (λ k. 1) o 1) ≡ wave_changes_below (value answer d n) 1
      first_by None = refl
      first_by (Some k) = refl
