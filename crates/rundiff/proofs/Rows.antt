-- Rows worked out by hand: the moments at which gates are evaluated, by computing the definitions.
use Rattle.std.proofs.Common.{◌≡◌, ℕ, List, [], ◌∷◌, map, refl, false, true}
use Rattle.fourstate.specs.Delays.{uniform_delays}
use Rattle.fourstate.specs.declared.gate.GateKind.TheVariants.{Buf}
use Rattle.fourstate.specs.declared.net.NetKind.TheVariants.{Wire}
use Rattle.fourstate.specs.declared.unit.TimeUnit.{TimeUnit}
use Rattle.fourstate.specs.declared.value.Value.{Value}
use Rattle.fourstate.specs.declared.value.Value.TheVariants.{Zero, One}
use Rattle.gatestep.specs.Step.{Evaluation, advance}
use Rattle.design.specs.Connections.{to_net}
use Rattle.design.specs.Netlist.{NetEntry, GateEntry, Netlist}
use Rattle.rundiff.specs.Dirty.{rework_below, working_at}

-- names of one letter
abbrev a : ℕ
a = 97

abbrev b : ℕ
b = 98

abbrev g : ℕ
g = 103

abbrev h : ℕ
h = 104

abbrev y : ℕ
y = 121

abbrev z : ℕ
z = 122

abbrev input : ℕ → List (ℕ × Value) → NetEntry
input name points = record { name = name ∷ []; kind = Wire; is_input = true; points = points }

abbrev wire : ℕ → NetEntry
wire name = record { name = name ∷ []; kind = Wire; is_input = false; points = [] }

abbrev buffer : ℕ → ℕ → ℕ → ℕ → GateEntry
buffer delay name output from =
    record { name = name ∷ []; kind = Buf; delays = uniform_delays delay; output = output ∷ []; inputs = to_net (from ∷ []) ∷ [] }

module _ (unit : TimeUnit) where
  -- one buffer from a to y
  abbrev one : (horizon delay : ℕ) → List (ℕ × Value) → Netlist
  one horizon delay points =
      record { top = 109 ∷ []; unit = unit; nets = input a points ∷ wire y ∷ []; gates = buffer delay g y a ∷ []; horizon = horizon }

  -- two buffers, from a to y and from b to z
  abbrev two : (horizon : ℕ) → (of_a of_b : List (ℕ × Value)) → Netlist
  two horizon of_a of_b =
      record {
        top = 109 ∷ [];
        unit = unit;
        nets = input a of_a ∷ input b of_b ∷ wire y ∷ wire z ∷ [];
        gates = buffer 3 g y a ∷ buffer 3 h z b ∷ [];
        horizon = horizon;
      }

  -- the moments of tasks
  abbrev moments_of : List (Evaluation × ℕ) → List ℕ
  moments_of work = map (λ task. task.1) work

  -- a point is moved: the gate is evaluated at its new moment and when its event is due
  moved : moments_of (rework_below advance (one 30 5 ((0, Zero) ∷ (10, One) ∷ [])) (one 30 5 ((0, Zero) ∷ (12, One) ∷ [])) 31) ≡ 12 ∷ 17 ∷ []
  moved = refl

  -- a point is dropped: nothing is evaluated
  dropped : rework_below advance (one 50 3 ((0, Zero) ∷ (10, One) ∷ (20, Zero) ∷ (40, One) ∷ [])) (one 50 3 ((0, Zero) ∷ (20, Zero) ∷ (40, One) ∷ [])) 51 ≡ []
  dropped = refl

  -- of two halves one is edited: its gate alone is evaluated, where the edit is and after the delay
  halves : moments_of (rework_below advance (two 30 ((0, Zero) ∷ []) ((0, Zero) ∷ [])) (two 30 ((0, Zero) ∷ []) ((0, Zero) ∷ (20, One) ∷ [])) 31) ≡ 20 ∷ 23 ∷ []
  halves = refl

  that_gate : map (λ gate. gate.name) (working_at advance (two 30 ((0, Zero) ∷ []) ((0, Zero) ∷ [])) (two 30 ((0, Zero) ∷ []) ((0, Zero) ∷ (20, One) ∷ [])) 23) ≡ (h ∷ []) ∷ []
  that_gate = refl

  -- nothing is edited: nothing is evaluated
  same : rework_below advance (one 20 3 ((0, Zero) ∷ (10, One) ∷ [])) (one 20 3 ((0, Zero) ∷ (10, One) ∷ [])) 21 ≡ []
  same = refl

  -- the run goes on past the old horizon: of each gate, what is stirred there
  longer : moments_of (rework_below advance (one 11 3 ((0, Zero) ∷ (10, One) ∷ [])) (one 20 3 ((0, Zero) ∷ (10, One) ∷ [])) 21) ≡ 13 ∷ []
  longer = refl

  -- a shorter run: nothing is evaluated
  shorter : rework_below advance (one 20 3 ((0, Zero) ∷ (10, One) ∷ [])) (one 11 3 ((0, Zero) ∷ (10, One) ∷ [])) 12 ≡ []
  shorter = refl
