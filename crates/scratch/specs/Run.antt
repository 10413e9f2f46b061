-- The run of a design: the state of each gate and the value of each net at each moment, by the answer of a stepper
-- (IEEE 1364-2005, 11; the order within a moment is this project's: due events, then nets, then gates).
use Rattle.std.specs.Prelude.{ℕ, zero, suc, if◌then◌else◌, List, map}
use Rattle.std.specs.Option.{option_map_or}
use Rattle.fourstate.specs.declared.value.Value.{Value}
use Rattle.fourstate.specs.declared.value.Value.TheVariants.{Unknown}
use Rattle.fourstate.specs.Nets.{net_of}
use Rattle.gatestep.specs.Step.{State, Evaluation, initial, due}
use Rattle.design.specs.Connections.{Connection, to_net, to_constant}
use Rattle.design.specs.Netlist.{NetEntry, GateEntry, Netlist, net_named, drivers_of, stimulus}
use Rattle.waveform.specs.Changes.{wave_changes_below}

-- Below, `before` gives each gate's state before the moment t, that is after t - 1.

-- the value of a net at t: of an input its stimulus; else what the net has from its drivers, once their due events have
-- become current
abbrev pub net_at : Netlist → (GateEntry → State) → NetEntry → ℕ → Value
net_at d before n t =
    if n.is_input then stimulus n.points t
    else net_of n.kind (map (λ g. (due (before g) t).current) (drivers_of d n.name))

-- the value that a gate input reads at t
abbrev pub terminal_at : Netlist → (GateEntry → State) → Connection → ℕ → Value
terminal_at d before (to_net name) t = option_map_or (λ n. net_at d before n t) (net_named d name) Unknown
terminal_at d before (to_constant v) t = v

-- what is evaluated for a gate at t
abbrev pub evaluation_at : Netlist → (GateEntry → State) → GateEntry → ℕ → Evaluation
evaluation_at d before g t =
    record { kind = g.kind; delays = g.delays; state = before g; inputs = map (λ terminal. terminal_at d before terminal t) g.inputs }

-- the state of a gate before the moment t, where each moment's evaluation is answered by `answer`
abbrev pub state_before : (Evaluation → ℕ → State) → Netlist → ℕ → GateEntry → State
state_before answer d zero g = initial
state_before answer d (suc t) g = answer (evaluation_at d (state_before answer d t) g t) t

-- the state of a gate after the moment t
abbrev pub state_after : (Evaluation → ℕ → State) → Netlist → GateEntry → ℕ → State
state_after answer d g t = state_before answer d (suc t) g

-- the value of a net at t
abbrev pub value : (Evaluation → ℕ → State) → Netlist → NetEntry → ℕ → Value
value answer d n t = net_at d (state_before answer d t) n t

-- the changes of a net's value up to the horizon
abbrev pub wave_of : (Evaluation → ℕ → State) → Netlist → NetEntry → List (ℕ × Value)
wave_of answer d n = wave_changes_below (value answer d n) (suc d.horizon)
