-- The lines of a new run, by key.
use Rattle.std.specs.Prelude.{◌≡◌, ◌⊎◌, true, ℕ, List, Option, None, Some, if◌then◌else◌, slice_get, option_map}
use Rattle.fourstate.specs.declared.value.Value.{Value}
use Rattle.gatestep.specs.Step.{State, Evaluation}
use Rattle.design.specs.Keys.{Keyed, entry_in, netlist}
use Rattle.design.specs.kept.Keys.{gate_by_key, net_by_key}
use Rattle.edits.specs.kept.Touched.{is_touched}
use Rattle.waveform.specs.kept.Tables.{line_at}
use Rattle.scratch.specs.Run.{wave_of}
use Rattle.scratch.specs.kept.Run.{trace_of}
use Rattle.rundiff.specs.kept.Places.{is_among}

-- what the run of a design has under a key
abbrev pub new_wave : (Evaluation → ℕ → State) → Keyed → ℕ → Option (List (ℕ × Value))
new_wave answer d key = option_map (wave_of answer (netlist d)) (net_by_key d key)

abbrev pub new_trace : (Evaluation → ℕ → State) → Keyed → ℕ → Option (List (ℕ × State))
new_trace answer d key = option_map (λ g. trace_of answer (netlist d) (entry_in d.nets g)) (gate_by_key d key)

module _ {X : Type 0} where
  -- nothing stands under these keys, and under each other what stood there
  abbrev pub AreCleared : List ℕ → List (Option X) → List (Option X) → Type 0
  AreCleared keys old new = (key : ℕ) → line_at new key ≡ (if is_touched keys key then None else line_at old key)

  -- under the keys at these places stands what is to stand there, and so it does under each other key, or what stood there
  pub record ArePut (due : ℕ → Option X) (keys places : List ℕ) (old new : List (Option X)) : Type 0 where
    pub put : (place key : ℕ) → is_among places place ≡ true → slice_get keys place ≡ Some key → line_at new key ≡ due key
    pub others : (key : ℕ) → (line_at new key ≡ due key) ⊎ (line_at new key ≡ line_at old key)
