-- What is found so far where gates are followed one after another: waves of nets, and traces of gates.
use Rattle.std.specs.Prelude.{◌≡◌, ◌<◌, ℕ, true, Bool, List, [], ◌∷◌, map, Some, IfSome, All, length, slice_get, unwrap_or}
use Rattle.design.specs.Netlist.{Netlist}
use Rattle.design.specs.kept.Places.{driver_places}
use Rattle.fourstate.specs.declared.value.Value.{Value}
use Rattle.fourstate.specs.declared.value.Value.TheVariants.{Unknown}
use Rattle.gatestep.specs.Step.{Evaluation, State}
use Rattle.scratch.specs.Run.{wave_of}
use Rattle.scratch.specs.declared.wiring.Input.{Input}
use Rattle.scratch.specs.declared.wiring.Input.TheVariants.{At, Fixed}
use Rattle.scratch.specs.kept.Run.{trace_of}
use Rattle.waveform.specs.kept.Currents.{GoesOn, currents}

module _ (answer : Evaluation → ℕ → State) (d : Netlist) (waves : List (List (ℕ × Value))) where
  -- the wave of the net at m is found
  abbrev pub IsKnownAt : ℕ → Type 0
  IsKnownAt m = slice_get waves m ≡ slice_get (map (wave_of answer d) d.nets) m

  -- the wave that an input reads is found
  abbrev pub IsKnown : Input → Type 0
  IsKnown (At m) = IsKnownAt m
  IsKnown (Fixed v) = Unit {0}

  -- those of all inputs are
  abbrev pub AreKnown : List Input → Type 0
  AreKnown [] = Unit {0}
  AreKnown (input ∷ inputs) = IsKnown input × AreKnown inputs

module _ (answer : Evaluation → ℕ → State) (d : Netlist) (traces : List (List (ℕ × State))) where
  -- the trace of the gate at p is found
  abbrev pub IsTraced : ℕ → Type 0
  IsTraced p = slice_get traces p ≡ slice_get (map (trace_of answer d) d.gates) p

  -- those of the gates at some places are
  abbrev pub AreTraced : List ℕ → Type 0
  AreTraced [] = Unit {0}
  AreTraced (p ∷ places) = IsTraced p × AreTraced places

-- what each driver gives at t, by its trace
abbrev pub currents_by : List (List (ℕ × State)) → ℕ → List Value
currents_by traces t = map (λ trace. currents trace t) traces

-- what the driver at a place gives at t, by its trace; x where there is no trace
abbrev pub current_by : List (List (ℕ × State)) → ℕ → ℕ → Value
current_by traces place t = unwrap_or (slice_get (currents_by traces t) place) Unknown

-- a driver's trace before a moment: it has no entry from then on, and up to there what the driver gives goes on by it
pub record IsTraceBelow (end : ℕ) (trace : List (ℕ × State)) : Type 0 where
  pub ends : All (λ e. e.0 < end) trace
  pub goes_on : GoesOn trace end

-- of each net that is marked the wave is found
abbrev pub AreFound : (Evaluation → ℕ → State) → Netlist → List Bool → List (List (ℕ × Value)) → Type 0
AreFound answer d found waves = (m : ℕ) → slice_get found m ≡ Some true → IsKnownAt answer d waves m

-- the traces of all gates that drive what these inputs read are found
abbrev pub AreSupplied : (Evaluation → ℕ → State) → Netlist → List (List (ℕ × State)) → List Input → Type 0
AreSupplied answer d traces [] = Unit {0}
AreSupplied answer d traces (At m ∷ inputs) =
    IfSome (slice_get d.nets m) (λ n. AreTraced answer d traces (driver_places d.gates n.name)) × AreSupplied answer d traces inputs
AreSupplied answer d traces (Fixed v ∷ inputs) = AreSupplied answer d traces inputs

-- the net that an input reads is marked, if there is such a net
abbrev pub IsMarked : List Bool → Input → Type 0
IsMarked found (At m) = m < length found → slice_get found m ≡ Some true
IsMarked found (Fixed v) = Unit {0}

-- those of all inputs are
abbrev pub AreMarked : List Bool → List Input → Type 0
AreMarked found [] = Unit {0}
AreMarked found (input ∷ inputs) = IsMarked found input × AreMarked found inputs

-- what was marked stays so
abbrev pub KeepsMarks : (old new : List Bool) → Type 0
KeepsMarks old new = (m : ℕ) → slice_get old m ≡ Some true → slice_get new m ≡ Some true
