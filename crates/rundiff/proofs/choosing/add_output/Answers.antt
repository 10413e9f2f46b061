use Rattle.std.proofs.Common.{◌≡◌, ◌∙◌, ap, sym, subst, ℕ, Option, false, IsSome}
use Rattle.std.specs.Option.{option_map_or}
use Rattle.std.proofs.lemmas.Option.{get_or_from_slice_get}
use Rattle.catalog.specs.kept.Catalog.{place_of}
use Rattle.design.specs.Keys.{entry_in, netlist}
use Rattle.design.specs.kept.Keys.{net_by_key}
use Rattle.design.specs.Netlist.{GateEntry}
use Rattle.rundiff.specs.kept.Places.{blank_gate, is_among, is_live}
use Rattle.rundiff.proofs.Steps.{pushed_there}
use Rattle.rundiff.proofs.choosing.add_output.Goals as goal

pub returns-clause-driven : goal.returns-clause-driven
returns-clause-driven c =
    let keyed = c.args.new.now in let d = netlist keyed in
    let gate = c.gate_at.result.now in
    let now = c.push.new.self.items in
    let key : c.output.result ≡ gate.output = c.output.ensures in
    let there : IsSome (net_by_key keyed gate.output) = subst (λ (k : ℕ). IsSome (net_by_key keyed k)) key (sym c.in-Some.ensures.there) in
    ap (λ (g : GateEntry). is_live d (is_among now) g.output) (get_or_from_slice_get d.gates c.args.place (entry_in keyed.nets gate) blank_gate c.gate_at.ensures.named)
    ∙ ap (λ (o : Option ℕ). option_map_or (is_among now) o false)
    (c.places_are_keys.ensures.nets gate.output there ∙ ap (place_of keyed.nets) (sym key) ∙ sym c.in-Some.ensures.place)
    ∙ pushed_there c.args.nets.now.items now c.in-Some.net c.in_ok-push.ensures.items
