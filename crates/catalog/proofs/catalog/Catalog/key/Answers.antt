use Rattle.std.proofs.Common.{◌≡◌, ◌∙◌, Some, None, true, false, option_map, sym, ap}
use Rattle.catalog.specs.Catalog.{record_at, same_name}
use Rattle.catalog.specs.kept.Columns.{entries_in}
use Rattle.catalog.specs.kept.Found.{found}
use Rattle.catalog.proofs.TableLemmas.{key_gone, key_none, key_other, key_same, table_distinct}
use Rattle.catalog.proofs.catalog.Catalog.key.Goals as goal

pub returns-then-eq-clause-key : goal.returns-then-eq-clause-key
returns-then-eq-clause-key g c =
    let name_of = g.R.Named.name in
    let name = c.args.name.now in
    let key = c.in-Some.key in
    let item = c.in-Some-get.item.now in
    let entries = entries_in c.self.inside.order in
    let has : record_at entries key ≡ Some item = rw c.self.view_is (sym c.in-Some-get.ensures) in
    let same : same_name (name_of item) name ≡ true = ap (λ bytes. same_name bytes name) (sym c.name.ensures) ∙ sym c.if-eq.ensures in
    let there = key_same name_of (found name_of c.self.inside.names) entries name key item c.self.invariant.named (table_distinct name_of _ _ _ _ c.self.invariant).keys (sym c.get.ensures ∙ c.in-Some.is) has same in
    rw (← c.self.view_is) (sym (ap (λ o. option_map (λ e. e.0) o) there))

pub returns-then-eq-clause-there : goal.returns-then-eq-clause-there
returns-then-eq-clause-there g c =
    let name_of = g.R.Named.name in
    let name = c.args.name.now in
    let key = c.in-Some.key in
    let item = c.in-Some-get.item.now in
    let entries = entries_in c.self.inside.order in
    let has : record_at entries key ≡ Some item = rw c.self.view_is (sym c.in-Some-get.ensures) in
    let same : same_name (name_of item) name ≡ true = ap (λ bytes. same_name bytes name) (sym c.name.ensures) ∙ sym c.if-eq.ensures in
    let there = key_same name_of (found name_of c.self.inside.names) entries name key item c.self.invariant.named (table_distinct name_of _ _ _ _ c.self.invariant).keys (sym c.get.ensures ∙ c.in-Some.is) has same in
    rw (← c.self.view_is) (has ∙ sym (ap (λ o. option_map (λ e. e.1) o) there))

pub returns-else-eq-clause-key : goal.returns-else-eq-clause-key
returns-else-eq-clause-key g c =
    let name_of = g.R.Named.name in
    let name = c.args.name.now in
    let key = c.in-Some.key in
    let item = c.in-Some-get.item.now in
    let entries = entries_in c.self.inside.order in
    let has : record_at entries key ≡ Some item = rw c.self.view_is (sym c.in-Some-get.ensures) in
    let other : same_name (name_of item) name ≡ false = ap (λ bytes. same_name bytes name) (sym c.name.ensures) ∙ sym c.if-eq.ensures in
    rw (← c.self.view_is)
    (sym (key_other name_of (found name_of c.self.inside.names) entries name key item c.self.invariant.named (table_distinct name_of _ _ _ _ c.self.invariant).keys (sym c.get.ensures ∙ c.in-Some.is) has other))

pub returns-in-None-get-clause-key : goal.returns-in-None-get-clause-key
returns-in-None-get-clause-key g c =
    let name_of = g.R.Named.name in
    let key = c.in-Some.key in
    let entries = entries_in c.self.inside.order in
    let gone : record_at entries key ≡ None = rw c.self.view_is (sym c.in-None-get.ensures) in
    rw (← c.self.view_is)
    (sym (key_gone name_of (found name_of c.self.inside.names) entries c.args.name.now key c.self.invariant.named (table_distinct name_of _ _ _ _ c.self.invariant).keys (sym c.get.ensures ∙ c.in-Some.is) gone))

pub returns-in-None-clause-key : goal.returns-in-None-clause-key
returns-in-None-clause-key g c =
    let name_of = g.R.Named.name in
    let entries = entries_in c.self.inside.order in
    rw (← c.self.view_is)
    (sym (key_none name_of (found name_of c.self.inside.names) entries c.args.name.now c.self.invariant.named (table_distinct name_of _ _ _ _ c.self.invariant).keys (sym c.get.ensures ∙ c.in-None.is)))
