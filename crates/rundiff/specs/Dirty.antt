-- What is evaluated beside a former run: the gates that are dirty and stirred.
use Rattle.std.specs.Prelude.{Bool, false, ℕ, zero, suc, not, ◌&&◌, ◌||◌, nat_le, List, [], ◌++◌, map}
use Rattle.std.specs.Cmp.Lexicographic.{pointwise}
use Rattle.std.specs.List.{filter, list_any}
use Rattle.fourstate.specs.Delays.{same_delays}
use Rattle.fourstate.specs.Gates.{same_kind}
use Rattle.fourstate.specs.Values.{same_value}
use Rattle.gatestep.specs.Record.{at_moment}
use Rattle.gatestep.specs.Step.{State, Evaluation}
use Rattle.design.specs.Connections.{Connection, to_net, to_constant}
use Rattle.design.specs.Names.{same_name}
use Rattle.design.specs.Netlist.{GateEntry, Netlist}
use Rattle.waveform.specs.Entries.{same_state}
use Rattle.scratch.specs.Work.{is_stirred, same_values, task_at}

-- Two gates are the same: they have the same name, kind, delays, output and inputs.

abbrev pub same_connection : Connection → Connection → Bool
same_connection (to_net a) (to_net b) = same_name a b
same_connection (to_constant v) (to_constant w) = same_value v w
same_connection _ _ = false

abbrev pub same_gate : GateEntry → GateEntry → Bool
same_gate a b =
    same_name a.name b.name && same_kind a.kind b.kind && same_delays a.delays b.delays && same_name a.output b.output
    && pointwise same_connection a.inputs b.inputs

-- the old design has no such gate
abbrev pub is_new : Netlist → GateEntry → Bool
is_new old g = not (list_any (same_gate g) old.gates)

-- two tasks of one gate are the same: its state and the values of its inputs
abbrev pub same_task : Evaluation → Evaluation → Bool
same_task a b = same_state a.state b.state && same_values a.inputs b.inputs

-- a gate of the new design is dirty at t: the old run has ended, or the old design has no such gate, or what is evaluated of
-- the gate differs in the two runs
abbrev pub is_dirty : (Evaluation → ℕ → State) → (old new : Netlist) → GateEntry → ℕ → Bool
is_dirty answer old new g t =
    not (nat_le t old.horizon) || (is_new old g || not (same_task (task_at answer old g t) (task_at answer new g t)))

-- the gates that are dirty and stirred at t, in order: these are evaluated
abbrev pub working_at : (Evaluation → ℕ → State) → (old new : Netlist) → ℕ → List GateEntry
working_at answer old new t = filter (λ g. is_dirty answer old new g t && is_stirred answer new g t) new.gates

-- their tasks, each with its moment
abbrev pub rework_at : (Evaluation → ℕ → State) → (old new : Netlist) → ℕ → List (Evaluation × ℕ)
rework_at answer old new t = at_moment t (map (λ g. task_at answer new g t) (working_at answer old new t))

-- those of all moments below n, in order
abbrev pub rework_below : (Evaluation → ℕ → State) → (old new : Netlist) → ℕ → List (Evaluation × ℕ)
rework_below answer old new zero = []
rework_below answer old new (suc t) = rework_below answer old new t ++ rework_at answer old new t
