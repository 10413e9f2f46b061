use Rattle.std.proofs.Common.{◌≡◌, ◌<◌, ◌∙◌, sym, ap, refl, Some, None, length, slice_get, arith}
use Rattle.std.proofs.lemmas.List.{length-map}
use Rattle.std.proofs.lemmas.Option.{slice_get_read, slice_get_within}
use Rattle.fourstate.specs.Nets.{net_of}
use Rattle.catalog.proofs.ListLemmas.{slice_get_some}
use Rattle.design.specs.Keys.{netlist}
use Rattle.design.specs.kept.Places.{driver_places}
use Rattle.scratch.specs.kept.Kept.{currents_of, driven_kind, net_from, values_at}
use Rattle.scratch.specs.kept.Tally.{tally_of}
use Rattle.scratch.proofs.Counting.{counts_kept}
use Rattle.scratch.proofs.Lists.{if_there}
use Rattle.scratch.proofs.NetSteps.{driven_is, drivers_at, kind_there, lone_gives, lone_there, stimulus_is}
use Rattle.scratch.proofs.resolving.resolved.Goals as goal

pub returns-in-Some-clause-value : goal.returns-in-Some-clause-value
returns-in-Some-clause-value c =
    let d = netlist c.args.design.now in let place = c.args.place in
    let it = slice_get_some d.nets place c.requires.there in let n = it.0 in
    let lone = c.args.wiring.now.lone_drivers.items in
    let in_lone : place < length lone = (let as_many = simp length-map at (ap length c.requires.wired.lone_drivers) in let low = c.requires.there in omega arith) in
    let there = slice_get_read lone (length lone) place c.index.result.now refl in_lone c.index.ensures ∙ ap (λ o. Some o) c.in-Some.is in
    let alone = lone_there d lone place n (Some c.in-Some.driver) c.requires.wired.lone_drivers it.1 there in
    if_there (slice_get d.nets place) n (λ n. c.current_at.result ≡ net_from (currents_of c.args.states.now c.args.t) c.args.t n (driver_places d.gates n.name)) it.1
    (c.current_at.ensures ∙ lone_gives d (currents_of c.args.states.now c.args.t) c.args.t n c.in-Some.driver alone)

pub returns-in-None-clause-value : goal.returns-in-None-clause-value
returns-in-None-clause-value c =
    let d = netlist c.args.design.now in let place = c.args.place in
    let kinds = c.args.wiring.now.kinds.items in
    let below : place < length kinds = (let as_many = simp length-map at (ap length c.requires.wired.kinds) in let low = c.requires.there in omega arith) in
    let listed = slice_get_read kinds (length kinds) place c.index-2.result.now refl below c.index-2.ensures in
    let n = c.net_at.result.now in
    let none : None ≡ driven_kind n = sym c.in-None.is ∙ kind_there d kinds place n c.index-2.result.now c.requires.wired.kinds c.net_at.ensures listed in
    if_there (slice_get d.nets place) n (λ n. c.stimulus_at.result ≡ net_from (currents_of c.args.states.now c.args.t) c.args.t n (driver_places d.gates n.name)) c.net_at.ensures
    (c.stimulus_at.ensures ∙ stimulus_is (currents_of c.args.states.now c.args.t) c.args.t n (driver_places d.gates n.name) none)

pub returns-in_ok-value-in-Some-index-clause-value : goal.returns-in_ok-value-in-Some-index-clause-value
returns-in_ok-value-in-Some-index-clause-value c =
    let d = netlist c.args.design.now in let place = c.args.place in
    let it = slice_get_some d.nets place c.requires.there in let n = it.0 in
    let kinds = c.args.wiring.now.kinds.items in
    let below : place < length kinds = (let as_many = simp length-map at (ap length c.requires.wired.kinds) in let low = c.requires.there in omega arith) in
    let listed = slice_get_read kinds (length kinds) place c.index-2.result.now refl below c.index-2.ensures in
    let some : Some c.in-Some-index.kind ≡ driven_kind n = sym c.in-Some-index.is ∙ kind_there d kinds place n c.index-2.result.now c.requires.wired.kinds it.1 listed in
    let drivers = c.args.wiring.now.drivers.items in
    let in_drivers : place < length drivers = (let as_many = simp length-map at (ap length c.requires.wired.drivers) in let low = c.requires.there in omega arith) in
    let beside = slice_get_read drivers (length drivers) place c.index-in-Some-index.result.now refl in_drivers c.index-in-Some-index.ensures in
    let places : c.as_slice-places.result.now ≡ driver_places d.gates n.name = c.as_slice-places.ensures ∙ drivers_at d drivers place n c.index-in-Some-index.result.now c.requires.wired.drivers it.1 beside in
    let currents = currents_of c.args.states.now c.args.t in
    if_there (slice_get d.nets place) n (λ n. c.in_ok-value-in-Some-index.value ≡ net_from currents c.args.t n (driver_places d.gates n.name)) it.1
    (c.in_ok-value-in-Some-index.ensures.value ∙ ap (λ l. net_of c.in-Some-index.kind (values_at currents l)) places ∙ driven_is currents c.args.t n c.in-Some-index.kind (driver_places d.gates n.name) some)

pub returns-in_ok-value-in-Some-index-clause-counts : goal.returns-in_ok-value-in-Some-index-clause-counts
returns-in_ok-value-in-Some-index-clause-counts c =
    counts_kept (netlist c.args.design.now) c.args.tallies.now c.resolve_drivers.new.tallies (currents_of c.args.states.now c.args.t) c.in_ok-value-in-Some-index.ensures.nets c.in_ok-value-in-Some-index.ensures.counted
    c.requires.counts

pub resolve_drivers-requires : goal.resolve_drivers-requires
resolve_drivers-requires c =
    let d = netlist c.args.design.now in let place = c.args.place in
    let it = slice_get_some d.nets place c.requires.there in let n = it.0 in
    let drivers = c.args.wiring.now.drivers.items in
    let in_drivers : place < length drivers = (let as_many = simp length-map at (ap length c.requires.wired.drivers) in let low = c.requires.there in omega arith) in
    let beside = slice_get_read drivers (length drivers) place c.index-in-Some-index.result.now refl in_drivers c.index-in-Some-index.ensures in
    let places : c.as_slice-places.result.now ≡ driver_places d.gates n.name = c.as_slice-places.ensures ∙ drivers_at d drivers place n c.index-in-Some-index.result.now c.requires.wired.drivers it.1 beside in
    let nets = c.args.tallies.now.nets.items in
    λ tally there.
    let low : 0 < length nets = (let within = slice_get_within nets place (Some tally) there in omega arith) in
    c.requires.counts.nets place tally n there it.1
    ∙ ap (λ vs. tally_of (values_at vs (driver_places d.gates n.name))) (c.requires.counts.counted low)
    ∙ ap (λ l. tally_of (values_at (currents_of c.args.states.now c.args.t) l)) (sym places)
