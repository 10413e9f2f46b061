use Rattle.std.proofs.Common.{◌≡◌, Some, ℕ, List, ap, ◌∙◌}
use Rattle.catalog.specs.Catalog.{record_at}
use Rattle.catalog.specs.kept.Catalog.{keys_of}
use Rattle.design.specs.kept.Keys.{drives_key, reads_key}
use Rattle.design.specs.kept.Lists.{AreChanged, with_key_in, without_key}
use Rattle.design.specs.kept.Records.{gate_with_wiring}
use Rattle.design.proofs.edit_gates.with_wiring_at.Goals as goal

pub returns-clause-readers : goal.returns-clause-readers
returns-clause-readers c =
    let key = c.args.key in
    let g = c.in-Some.old.now in
    let there : Some g ≡ record_at c.args.gates key = c.in-Some.ensures ∙ ap (λ k. record_at c.args.gates k) c.key.view_is in
    let wires : (less : List (List ℕ)) × AreChanged (reads_key g) (λ list. without_key list key) c.args.wires.fanout less × AreChanged (reads_key (gate_with_wiring g c.args.output c.args.inputs.items)) (with_key_in (keys_of c.args.gates) key) less c.rewire.new.self.fanout = rw c.in_ok-new.ensures at c.in_ok-rewire.ensures.readers in
    rw (← there) wires

pub returns-clause-drivers : goal.returns-clause-drivers
returns-clause-drivers c =
    let key = c.args.key in
    let g = c.in-Some.old.now in
    let there : Some g ≡ record_at c.args.gates key = c.in-Some.ensures ∙ ap (λ k. record_at c.args.gates k) c.key.view_is in
    let wires : (less : List (List ℕ)) × AreChanged (drives_key g) (λ list. without_key list key) c.args.wires.drivers less × AreChanged (drives_key (gate_with_wiring g c.args.output c.args.inputs.items)) (with_key_in (keys_of c.args.gates) key) less c.rewire.new.self.drivers = rw c.in_ok-new.ensures at c.in_ok-rewire.ensures.drivers in
    rw (← there) wires
