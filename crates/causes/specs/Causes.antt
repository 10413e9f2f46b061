-- What makes the nets of a run change and its gates turn (own).
use Rattle.std.specs.Prelude.{Bool, true, false, ℕ, zero, suc, ◌&&◌, not, List, [], ◌∷◌, Some}
use Rattle.std.specs.List.{filter, filter_map}
use Rattle.fourstate.specs.declared.value.Value.{Value}
use Rattle.fourstate.specs.Values.{same_value}
use Rattle.gatestep.specs.Step.{advance, same_pending}
use Rattle.design.specs.Connections.{Connection, to_net, to_constant}
use Rattle.design.specs.Names.{same_name}
use Rattle.design.specs.Netlist.{GateEntry, NetEntry, Netlist, net_named}
use Rattle.scratch.specs.Run.{state_after, state_before, value}
use Rattle.waveform.specs.Timelines.{moments}

-- a value over time changes at 0, and at each later moment at which it is another than at the moment before
abbrev pub is_other : (ℕ → Value) → ℕ → Bool
is_other f zero = true
is_other f (suc t) = not (same_value (f (suc t)) (f t))

-- the net changes at t
abbrev pub changes_at : Netlist → NetEntry → ℕ → Bool
changes_at d n t = is_other (value advance d n) t

-- what the gate drives at t
abbrev pub driven : Netlist → GateEntry → ℕ → Value
driven d g t = (state_after advance d g t).current

-- the evaluation of the gate at u brings this event, a value and the moment from which on it is to be driven: the event is
-- pending after the evaluation, and was not before
abbrev pub brings : Netlist → GateEntry → ℕ → Value × ℕ → Bool
brings d g u event = same_pending (state_after advance d g u).pending (Some event) && not (same_pending (state_before advance d u g).pending (Some event))

-- the gate turns at t, from u on: it drives another value at t than at the moment before, by an event that its evaluation at u
-- brought. At 0, with no moment before, none turns.
abbrev pub turns : Netlist → GateEntry → (u t : ℕ) → Bool
turns d g u zero = false
turns d g u (suc t) = is_other (driven d g) (suc t) && brings d g u (driven d g (suc t), suc t)

-- the moments from which on the gate turns at t
abbrev pub starts : Netlist → GateEntry → ℕ → List ℕ
starts d g t = filter (λ u. turns d g u t) (moments t)

-- the moments up to the horizon at which the gate turns from u on
abbrev pub ends : Netlist → GateEntry → ℕ → List ℕ
ends d g u = filter (λ t. turns d g u t) (moments (suc d.horizon))

-- the names of the nets that these inputs of a gate read, each once, in the order in which they read them first
abbrev pub names_read : List Connection → List (List ℕ)
names_read [] = []
names_read (to_net name ∷ inputs) = name ∷ filter (λ other. not (same_name name other)) (names_read inputs)
names_read (to_constant v ∷ inputs) = names_read inputs

-- the nets among them that change at u, which made the gate turn if it turns from u on
abbrev pub changed_among : Netlist → ℕ → List Connection → List NetEntry
changed_among d u inputs = filter (λ n. changes_at d n u) (filter_map (net_named d) (names_read inputs))
