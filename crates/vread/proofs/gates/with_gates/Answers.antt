use Rattle.std.proofs.Common.{◌≡◌, ◌+◌, ◌<◌, ◌++◌, ℕ, List, length, drop, get_or, sym, ap, subst, ◌∙◌, arith}
use Rattle.std.specs.Prelude.{flat_map}
use Rattle.std.proofs.lemmas.List.{at_drop_all, at_drop_more}
use Rattle.design.specs.Keys.{netlist}
use Rattle.design.specs.Netlist as netlists
use Rattle.elaboration.specs.kept.Numbered.{PlacedScope}
use Rattle.vread.specs.kept.Parts.{AreDistinctGates, AreFitGates, kept_gates}
use Rattle.vread.proofs.FitLemmas.{gates_part}
use Rattle.vread.proofs.GrowLemmas.{gates_end, gates_more, gates_others, same_nets}
use Rattle.vread.proofs.gates.with_gates.Goals as goal

-- the gates of the scope at a place come first of those that are left
next : (f : PlacedScope → List netlists.GateEntry) (scopes : List PlacedScope) (i : ℕ) (scope : PlacedScope) (gs all : List netlists.GateEntry) → i < length scopes → scope ≡ get_or scopes i scope
    → gs ++ flat_map f (drop i scopes) ≡ all → gs ++ (f scope ++ flat_map f (drop (i + 1) scopes)) ≡ all
next f scopes i scope gs all within is before =
    ap (λ (l : List netlists.GateEntry). gs ++ l)
    (ap (λ (s : PlacedScope). f s ++ flat_map f (drop (i + 1) scopes)) is ∙ sym (at_drop_more (flat_map f) scopes i scope within))
    ∙ before

pub with_scope_gates-requires : goal.with_scope_gates-requires
with_scope_gates-requires c =
    let names = c.args.names.now in
    let scopes = c.args.scopes.now in
    let first = netlist c.args.design in
    let made = netlist c.loop-scope.made in
    let scope : PlacedScope = c.scope-item.result in
    let i = c.loop-scope.scope-index in
    let within : i < length scopes = omega (arith, c.loop-scope-test.true, c.loop-scope.auto.scope-index-end) in
    let f : PlacedScope → List netlists.GateEntry = kept_gates names first.nets in
    let same : made.nets ≡ first.nets = same_nets first made c.loop-scope.invariant.others in
    let all : List netlists.GateEntry = first.gates ++ flat_map f scopes in
    let fit_here : AreFitGates names first.nets scope = subst (λ (s : PlacedScope). AreFitGates names first.nets s) (sym c.scope-item.is) (c.requires.fit i scope within) in
    record {
      fit = subst (λ (ns : List netlists.NetEntry). AreFitGates names ns scope) (sym same) fit_here;
      distinct = subst (λ (ns : List netlists.NetEntry). AreDistinctGates (made.gates ++ kept_gates names ns scope)) (sym same)
          (gates_part made.gates (f scope) (flat_map f (drop (i + 1) scopes)) all (next f scopes i scope made.gates all within c.scope-item.is c.loop-scope.invariant.all) c.requires.distinct);
    }

pub loop-scope-preserved : goal.loop-scope-preserved
loop-scope-preserved c =
    let names = c.args.names.now in
    let scopes = c.args.scopes.now in
    let first = netlist c.args.design in
    let before = netlist c.loop-scope.made in
    let now = netlist c.in_ok-made.made in
    let scope : PlacedScope = c.scope-item.result in
    let i = c.loop-scope.scope-index in
    let within : i < length scopes = omega (arith, c.loop-scope-test.true, c.loop-scope.auto.scope-index-end) in
    let f : PlacedScope → List netlists.GateEntry = kept_gates names first.nets in
    let same : before.nets ≡ first.nets = same_nets first before c.loop-scope.invariant.others in
    let all : List netlists.GateEntry = first.gates ++ flat_map f scopes in
    let made : now ≡ record before { gates = before.gates ++ f scope } =
    c.in_ok-made.ensures ∙ ap (λ (ns : List netlists.NetEntry). record before { gates = before.gates ++ kept_gates names ns scope }) same in
    record {
      all = gates_more first before now (f scope) (flat_map f (drop (i + 1) scopes)) all made (next f scopes i scope before.gates all within c.scope-item.is c.loop-scope.invariant.all);
      others = gates_others first before c.loop-scope.invariant.others now (f scope) made;
    }

pub returns : goal.returns
returns c =
    let names = c.args.names.now in
    let scopes = c.args.scopes.now in
    let first = netlist c.args.design in
    let made = netlist c.loop-scope.made in
    let f : PlacedScope → List netlists.GateEntry = kept_gates names first.nets in
    gates_end first made c.loop-scope.invariant.others (first.gates ++ flat_map f scopes)
    (ap (λ (l : List netlists.GateEntry). made.gates ++ l) (sym (at_drop_all (flat_map f) scopes c.loop-scope.scope-index (omega (arith, c.loop-scope-test.false, c.loop-scope.auto.scope-index-end))))
    ∙ c.loop-scope.invariant.all)
