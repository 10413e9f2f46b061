use Rattle.std.proofs.Common.{◌≡◌, ◌<◌, ◌≤◌, ◌∙◌, ap, refl, map, Some, slice_get, length, List, ℕ, arith}
use Rattle.std.specs.Option.{option_map}
use Rattle.std.proofs.lemmas.List.{length-map, map-append}
use Rattle.std.proofs.lemmas.Option.{slice_get_read, slice_get-map}
use Rattle.smallvec.specs.SmallVec.{SmallVec}
use Rattle.design.specs.Keys.{netlist}
use Rattle.scratch.specs.kept.Kept.{net_from}
use Rattle.scratch.proofs.Lists.{zip_next, zip_whole}
use Rattle.scratch.proofs.moment.find_values.Goals as goal

abbrev items : SmallVec ℕ → List ℕ
items places = places.items

pub loop-place-preserved : goal.loop-place-preserved
loop-place-preserved c =
    let all = c.args.wiring.now.drivers.items in
    let as_many = simp length-map at (ap length c.requires.drivers) in
    let below : c.loop-place.place < length all = omega (arith, as_many) in
    let at = slice_get_read all (length all) c.loop-place.place c.index.result.now (λ _. length all) below c.index.ensures in
    let here : slice_get (map items all) c.loop-place.place ≡ Some c.index.result.now.items = slice_get-map items all c.loop-place.place ∙ ap (option_map items) at in
    rw (c.in_ok-push.ensures.items, c.loop-place.invariant, zip_next (netlist c.args.design.now).nets (map items all) c.loop-place.place _ _ c.net_at.ensures here, map-append, c.in_ok-value.ensures, c.as_slice-places.ensures) refl

pub returns : goal.returns
returns c =
    let all = c.args.wiring.now.drivers.items in
    let past : length (netlist c.args.design.now).nets ≤ c.loop-place.place = omega arith in
    c.loop-place.invariant ∙ ap (map (λ p. net_from c.args.currents.now c.args.t p.0 p.1)) (zip_whole (netlist c.args.design.now).nets (map items all) c.loop-place.place past)
