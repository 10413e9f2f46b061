-- The inputs of a gate of a design, by the waves that are found.
use Rattle.std.proofs.Common.{◌≡◌, ◌<◌, ◌∙◌, ap, sym, refl, ℕ, suc, List, [], ◌∷◌, map, Option, Some, slice_get, get_or, length, unwrap_or, arith}
use Rattle.std.specs.Option.{option_map}
use Rattle.std.proofs.lemmas.List.{length-map}
use Rattle.std.proofs.lemmas.Option.{slice_get-map, slice_get_read}
use Rattle.std.proofs.lemmas.Simd.{map-map}
use Rattle.design.specs.Connections.{Connection}
use Rattle.design.specs.Netlist.{GateEntry, Netlist}
use Rattle.fourstate.specs.declared.value.Value.{Value}
use Rattle.fourstate.specs.declared.value.Value.TheVariants.{Unknown}
use Rattle.gatestep.specs.Step.{State, Evaluation}
use Rattle.gateline.proofs.Lists.{some_at}
use Rattle.gateline.specs.kept.Known.{AreKnown, IsKnown}
use Rattle.gateline.specs.kept.Waves.{input_at, inputs_by}
use Rattle.scratch.proofs.Lists.{map_alike}
use Rattle.scratch.specs.Run.{net_at, state_before, terminal_at, value, wave_of}
use Rattle.scratch.specs.Work.{inputs_at}
use Rattle.scratch.specs.declared.wiring.Input.{Input}
use Rattle.scratch.specs.declared.wiring.Input.TheVariants.{At, Fixed}
use Rattle.scratch.specs.kept.Cells.{CellRecord}
use Rattle.scratch.specs.kept.Kept.{cell_of, input_of, input_value}
use Rattle.waveform.specs.Changes.{wave_at, wave_changes_below}

-- the changes of a net give its values (`waveform::laws::value_of_changes`)
abbrev pub GivesValues : Type 0
GivesValues = (f : ℕ → Value) → ((t : ℕ) → f t ≡ f t) → (t n : ℕ) → t < n → wave_at (wave_changes_below f n) t ≡ f t

-- an input reads by place what it reads by name (`gateline::laws::input_by_place`)
abbrev pub ReadsByPlace : Netlist → Type 0
ReadsByPlace d =
    (before : GateEntry → State) (t : ℕ) (connection : Connection) → input_value (map (λ n. net_at d before n t) d.nets) (input_of d connection) ≡ terminal_at d before connection t

module _ (answer : Evaluation → ℕ → State) (d : Netlist) (waves : List (List (ℕ × Value))) (gives : GivesValues) (reads : ReadsByPlace d) where
  module _ (t : ℕ) (within : t < suc d.horizon) where
    input_known : (input : Input) → IsKnown answer d waves input → input_at waves input t ≡ input_value (map (λ n. value answer d n t) d.nets) input
    input_known (Fixed v) known = refl
    input_known (At m) known =
        ap (λ (o : Option Value). unwrap_or o Unknown)
        (slice_get-map (λ wave. wave_at wave t) waves m
        ∙ ap (option_map (λ wave. wave_at wave t)) known
        ∙ sym (slice_get-map (λ wave. wave_at wave t) (map (wave_of answer d) d.nets) m)
        ∙ ap (λ (l : List Value). slice_get l m)
        (map-map (λ wave. wave_at wave t) (wave_of answer d) d.nets
        ∙ map_alike (λ n. wave_at (wave_of answer d n) t) (λ n. value answer d n t) (λ n. gives (value answer d n) (λ u. refl) t (suc d.horizon) within) d.nets))

    connections_known : (connections : List Connection) → AreKnown answer d waves (map (input_of d) connections) →
        inputs_by waves (map (input_of d) connections) t ≡ map (λ connection. terminal_at d (state_before answer d t) connection t) connections
    connections_known [] known = refl
    connections_known (connection ∷ connections) known =
        let one : input_at waves (input_of d connection) t ≡ terminal_at d (state_before answer d t) connection t =
        input_known (input_of d connection) known.0 ∙ reads (state_before answer d t) t connection in
        λ i. one i ∷ connections_known connections known.1 i

  -- what the waves say up to the horizon is what the gate reads
  pub inputs_known : (g : GateEntry) (inputs : List Input) → inputs ≡ map (input_of d) g.inputs → AreKnown answer d waves inputs → (t : ℕ) → t < suc d.horizon →
      inputs_by waves inputs t ≡ inputs_at answer d g t
  inputs_known g inputs are known t within =
      rw are (connections_known t within g.inputs (rw are at known))

-- a gate at a place, with its cell
pub record IsCellAt (d : Netlist) (cells : List CellRecord) (place : ℕ) (cell : CellRecord) : Type 0 where
  pub gate : GateEntry
  pub gate_there : slice_get d.gates place ≡ Some gate
  pub cell_there : slice_get cells place ≡ Some cell
  pub is : cell ≡ cell_of d gate

pub cell_at : (d : Netlist) (cells : List CellRecord) (place : ℕ) (cell : CellRecord) → cells ≡ map (cell_of d) d.gates → place < length d.gates → cell ≡ get_or cells place cell → IsCellAt d cells place cell
cell_at d cells place cell are low read =
    let gate = some_at d.gates place low in
    let count : length cells ≡ length d.gates = ap length are ∙ length-map d.gates (cell_of d) in
    let there : slice_get cells place ≡ Some cell = slice_get_read cells (length cells) place cell refl (omega arith) read in
    let both : Some cell ≡ Some (cell_of d gate.0) =
    sym there ∙ ap (λ l. slice_get l place) are ∙ slice_get-map (cell_of d) d.gates place ∙ ap (option_map (cell_of d)) gate.1 in
    record { gate = gate.0; gate_there = gate.1; cell_there = there; is = (cc) }
