use Rattle.std.proofs.Common.{◌≡◌, ◌∙◌, ◌++◌, ◌∷◌, [], ap, sym, ℕ, Option, Some, map, take, arith}
use Rattle.std.proofs.lemmas.List.{map-append, take_all}
use Rattle.std.specs.List.{position_from}
use Rattle.design.specs.Keys.{entry_in, name_of, netlist}
use Rattle.design.specs.Names.{same_name}
use Rattle.design.specs.Netlist.{GateEntry}
use Rattle.design.specs.kept.Places.{place_of}
use Rattle.scratch.proofs.Lists.{take_next}
use Rattle.scratch.proofs.Readers.{driven_are, outputs_are}
use Rattle.scratch.proofs.wiring.all_outputs.Goals as goal

pub loop-place-preserved : goal.loop-place-preserved
loop-place-preserved c =
    let d = netlist c.args.design.now in let nets = c.args.design.now.nets in let key = c.output.result in
    let g = entry_in nets c.gate_at.result.now in
    let f : GateEntry → Option ℕ = λ g. position_from (λ n. same_name n.name g.output) 0 d.nets in
    let by_name : position_from (λ n. same_name n.name (name_of nets key)) 0 d.nets ≡ place_of nets key = c.places_are_keys.ensures.nets key (sym c.in-Some.ensures.there) in
    let here : Some c.in-Some.net ≡ f g = c.in-Some.ensures.place ∙ sym by_name ∙ ap (λ k. position_from (λ n. same_name n.name (name_of nets k)) 0 d.nets) c.output.ensures in
    ap (map (λ net. Some net)) c.in_ok-push.ensures.items ∙ map-append (λ net. Some net) c.loop-place.all.items (c.in-Some.net ∷ []) ∙ ap (λ l. l ++ Some c.in-Some.net ∷ []) c.loop-place.invariant
    ∙ ap (λ o. map f (take c.loop-place.place d.gates) ++ o ∷ []) here ∙ sym (map-append f (take c.loop-place.place d.gates) (g ∷ []))
    ∙ ap (map f) (sym (take_next d.gates c.loop-place.place g c.gate_at.ensures.named))

pub returns-clause-outputs : goal.returns-clause-outputs
returns-clause-outputs c =
    let d = netlist c.args.design.now in
    let whole : take c.loop-place.place d.gates ≡ d.gates = take_all c.loop-place.place d.gates (let past = c.loop-place-test.false in omega arith) in
    outputs_are d c.lawful.ensures.design.distinct_nets c.loop-place.all.items (c.loop-place.invariant ∙ ap (map (λ g. position_from (λ n. same_name n.name g.output) 0 d.nets)) whole)

pub returns-clause-driven : goal.returns-clause-driven
returns-clause-driven c =
    let d = netlist c.args.design.now in
    let whole : take c.loop-place.place d.gates ≡ d.gates = take_all c.loop-place.place d.gates (let past = c.loop-place-test.false in omega arith) in
    driven_are d c.lawful.ensures.design.distinct_nets c.loop-place.all.items (c.loop-place.invariant ∙ ap (map (λ g. position_from (λ n. same_name n.name g.output) 0 d.nets)) whole)
