use Rattle.std.proofs.Common.{◌+◌, ◌++◌, List, IsTrue, drop, sym, ap, subst, ◌∙◌, arith}
use Rattle.std.specs.Prelude.{flat_map}
use Rattle.design.specs.Names.{is_name}
use Rattle.design.specs.Netlist.{NetEntry}
use Rattle.vread.specs.kept.Parts.{AreNamed, kept_nets}
use Rattle.vread.proofs.FitLemmas.{all_left}
use Rattle.vread.proofs.NewNetLemmas.{all_right, no_scope, part_end, part_more, scope_first}
use Rattle.vread.proofs.new_nets.nets_of.Goals as goal

pub add_scope_nets-requires : goal.add_scope_nets-requires
add_scope_nets-requires c =
    let names = c.args.names.now in
    let scopes = c.args.scopes.now in
    let i = c.loop-scope.scope-index in
    all_left (λ (n : NetEntry). IsTrue (is_name n.name)) (kept_nets names c.scope-item.result) (flat_map (kept_nets names) (drop (i + 1) scopes))
    (subst (λ (l : List NetEntry). AreNamed l) (scope_first names scopes i c.scope-item.result (omega (arith, c.loop-scope-test.true, c.loop-scope.auto.scope-index-end)) c.scope-item.is) c.loop-scope.invariant.named)

pub loop-scope-preserved : goal.loop-scope-preserved
loop-scope-preserved c =
    let names = c.args.names.now in
    let scopes = c.args.scopes.now in
    let i = c.loop-scope.scope-index in
    let part : List NetEntry = kept_nets names c.scope-item.result in
    let rest : List NetEntry = flat_map (kept_nets names) (drop (i + 1) scopes) in
    let first = scope_first names scopes i c.scope-item.result (omega (arith, c.loop-scope-test.true, c.loop-scope.auto.scope-index-end)) c.scope-item.is in
    record {
      all = part_more c.loop-scope.nets.items c.add_scope_nets.new.nets.items part rest (flat_map (kept_nets names) scopes) c.in_ok-add_scope_nets.ensures
          (ap (λ (l : List NetEntry). c.loop-scope.nets.items ++ l) (sym first) ∙ c.loop-scope.invariant.all);
      named = all_right (λ (n : NetEntry). IsTrue (is_name n.name)) part rest (subst (λ (l : List NetEntry). AreNamed l) first c.loop-scope.invariant.named);
    }

pub returns : goal.returns
returns c =
    let names = c.args.names.now in
    let scopes = c.args.scopes.now in
    part_end c.loop-scope.nets.items (flat_map (kept_nets names) (drop c.loop-scope.scope-index scopes)) (flat_map (kept_nets names) scopes)
    (no_scope names scopes c.loop-scope.scope-index (omega (arith, c.loop-scope-test.false, c.loop-scope.auto.scope-index-end)))
    c.loop-scope.invariant.all
