use Rattle.std.proofs.Common.{◌≡◌, ◌+◌, ◌<◌, ◌++◌, ◌∷◌, [], ℕ, List, All, length, map, drop, get_or, sym, ap, subst, ◌∙◌, arith}
use Rattle.std.proofs.lemmas.List.{at_drop_all, at_drop_more}
use Rattle.design.specs.Keys.{netlist}
use Rattle.design.specs.Netlist as netlists
use Rattle.vtext.specs.Modules.{GateEntry, ModuleEntry}
use Rattle.vread.specs.kept.Parts.{AreDistinctGates, IsFitGate, kept_gate, kept_gates}
use Rattle.vread.proofs.FitLemmas.{gate_absent, gate_room, gates_part}
use Rattle.vread.proofs.GrowLemmas.{gates_end, gates_more, gates_others, same_nets}
use Rattle.vread.proofs.gates.with_scope_gates.Goals as goal

-- the gate at a place comes first of those that are left
next : (f : GateEntry → netlists.GateEntry) (items : List GateEntry) (i : ℕ) (gate : GateEntry) (gs all : List netlists.GateEntry) → i < length items → gate ≡ get_or items i gate
    → gs ++ map f (drop i items) ≡ all → gs ++ ((f gate ∷ []) ++ map f (drop (i + 1) items)) ≡ all
next f items i gate gs all within is before =
    ap (λ (l : List netlists.GateEntry). gs ++ l) (ap (λ (g : GateEntry). f g ∷ map f (drop (i + 1) items)) is ∙ sym (at_drop_more (map f) items i gate within)) ∙ before

pub gate_of-requires : goal.gate_of-requires
gate_of-requires c =
    let names = c.args.names.now in
    let scope = c.args.scope.now in
    let first = netlist c.args.design in
    let made = netlist c.loop-gate.made in
    let items = c.gates-gate-items.result.now in
    let gate : GateEntry = c.gate-item.result in
    let i = c.loop-gate.gate-index in
    let within : i < length items = omega (arith, c.loop-gate-test.true, c.loop-gate.auto.gate-index-end) in
    let items_are : items ≡ scope.entry.gates = c.gates-gate-items.ensures ∙ ap (λ (m : ModuleEntry). m.gates) c.«module».ensures in
    let same : made.nets ≡ first.nets = same_nets first made c.loop-gate.invariant.others in
    let fit_items : All (IsFitGate names first.nets scope) items = subst (λ (gs : List GateEntry). All (IsFitGate names first.nets scope) gs) (sym items_are) c.requires.fit in
    let fit_here : IsFitGate names first.nets scope gate = subst (λ (g : GateEntry). IsFitGate names first.nets scope g) (sym c.gate-item.is) (fit_items i gate within) in
    subst (λ (ns : List netlists.NetEntry). IsFitGate names ns scope gate) (sym same) fit_here

pub push_gate-requires : goal.push_gate-requires
push_gate-requires c =
    let names = c.args.names.now in
    let scope = c.args.scope.now in
    let first = netlist c.args.design in
    let made = netlist c.loop-gate.made in
    let items = c.gates-gate-items.result.now in
    let gate : GateEntry = c.gate-item.result in
    let i = c.loop-gate.gate-index in
    let within : i < length items = omega (arith, c.loop-gate-test.true, c.loop-gate.auto.gate-index-end) in
    let items_are : items ≡ scope.entry.gates = c.gates-gate-items.ensures ∙ ap (λ (m : ModuleEntry). m.gates) c.«module».ensures in
    let f : GateEntry → netlists.GateEntry = kept_gate names first.nets scope in
    let same : made.nets ≡ first.nets = same_nets first made c.loop-gate.invariant.others in
    let all : List netlists.GateEntry = first.gates ++ map f items in
    let distinct_all : AreDistinctGates all = subst (λ (gs : List GateEntry). AreDistinctGates (first.gates ++ map f gs)) (sym items_are) c.requires.distinct in
    let kept : netlists.GateEntry = kept_gate names made.nets scope gate in
    let distinct : AreDistinctGates (made.gates ++ kept ∷ []) = subst (λ (ns : List netlists.NetEntry). AreDistinctGates (made.gates ++ kept_gate names ns scope gate ∷ [])) (sym same)
    (gates_part made.gates (f gate ∷ []) (map f (drop (i + 1) items)) all (next f items i gate made.gates all within c.gate-item.is c.loop-gate.invariant.all) distinct_all) in
    record {
      absent = gate_absent made.gates kept distinct c.in_ok-kept.kept.name (ap (λ (g : netlists.GateEntry). g.name) c.in_ok-kept.ensures.entry);
      room = gate_room made.gates kept distinct;
      connected = c.in_ok-kept.ensures.connected;
    }

pub loop-gate-preserved : goal.loop-gate-preserved
loop-gate-preserved c =
    let names = c.args.names.now in
    let scope = c.args.scope.now in
    let first = netlist c.args.design in
    let before = netlist c.loop-gate.made in
    let now = netlist c.push_gate.new.self in
    let items = c.gates-gate-items.result.now in
    let gate : GateEntry = c.gate-item.result in
    let i = c.loop-gate.gate-index in
    let within : i < length items = omega (arith, c.loop-gate-test.true, c.loop-gate.auto.gate-index-end) in
    let f : GateEntry → netlists.GateEntry = kept_gate names first.nets scope in
    let same : before.nets ≡ first.nets = same_nets first before c.loop-gate.invariant.others in
    let all : List netlists.GateEntry = first.gates ++ map f items in
    let made : now ≡ record before { gates = before.gates ++ (f gate ∷ []) } =
    c.in_ok-push_gate.ensures.by_name ∙ ap (λ (g : netlists.GateEntry). record before { gates = before.gates ++ g ∷ [] }) c.in_ok-kept.ensures.entry
    ∙ ap (λ (ns : List netlists.NetEntry). record before { gates = before.gates ++ kept_gate names ns scope gate ∷ [] }) same in
    record {
      all = gates_more first before now (f gate ∷ []) (map f (drop (i + 1) items)) all made (next f items i gate before.gates all within c.gate-item.is c.loop-gate.invariant.all);
      others = gates_others first before c.loop-gate.invariant.others now (f gate ∷ []) made;
    }

pub returns : goal.returns
returns c =
    let names = c.args.names.now in
    let scope = c.args.scope.now in
    let first = netlist c.args.design in
    let made = netlist c.loop-gate.made in
    let items = c.gates-gate-items.result.now in
    let f : GateEntry → netlists.GateEntry = kept_gate names first.nets scope in
    let items_are : items ≡ scope.entry.gates = c.gates-gate-items.ensures ∙ ap (λ (m : ModuleEntry). m.gates) c.«module».ensures in
    gates_end first made c.loop-gate.invariant.others (first.gates ++ kept_gates names first.nets scope)
    (ap (λ (l : List netlists.GateEntry). made.gates ++ l) (sym (at_drop_all (map f) items c.loop-gate.gate-index (omega (arith, c.loop-gate-test.false))))
    ∙ c.loop-gate.invariant.all
    ∙ ap (λ (gs : List GateEntry). first.gates ++ map f gs) items_are)
