use Rattle.std.proofs.Common.{◌≡◌, ◌∙◌, ap, sym, ℕ, true, Some, nat_cmp}
use Rattle.std.specs.BTreeSet.{contains}
use Rattle.std.proofs.lemmas.Option.{same_Some}
use Rattle.catalog.specs.kept.Catalog.{place_of}
use Rattle.design.specs.Keys.{KeyedGate}
use Rattle.design.specs.kept.Keys.{gate_by_key}
use Rattle.rundiff.proofs.Driven.{read_get}
use Rattle.rundiff.proofs.ReaderKeys.{each_output}
use Rattle.rundiff.proofs.Steps.{each_more}
use Rattle.rundiff.proofs.nets.readers_drive_live.Goals as goal

pub loop-reader-preserved : goal.loop-reader-preserved
loop-reader-preserved c =
    let keys = c.fanout-readers.result.now in let i = c.loop-reader.reader-index in let x = c.reader-item.result in
    let at = read_get keys i x c.loop-reader-test.true c.reader-item.is in
    let keyed = c.args.new.now in
    let output = c.in-Some.output in
    let live = contains nat_cmp c.args.all_live.now in
    λ key among gate found.
    each_more (λ k. gate_by_key keyed k ≡ Some gate → (q : ℕ) × (place_of keyed.nets gate.output ≡ Some q) × (live q ≡ true)) keys i x at
    (λ k was apart found. c.loop-reader.invariant k was gate found)
    (λ found.
    let one : c.gate_of.result.now ≡ gate = same_Some c.gate_of.result.now gate (sym c.gate_of.ensures.gate ∙ found) in
    let at_output : place_of keyed.nets gate.output ≡ Some output =
    ap (λ (h : KeyedGate). place_of keyed.nets h.output) (sym one) ∙ ap (place_of keyed.nets) (sym c.output.ensures) ∙ sym c.in-Some.ensures.place in
    (output, at_output, sym c.contains.ensures ∙ c.if-not-contains.false)) key among found

pub returns : goal.returns
returns c = λ all.
    each_output c.args.new.now c.lawful.ensures.keys c.places_are_keys.ensures.nets c.net_key_at.result c.args.place c.requires.there c.net_key_at.ensures.net
    c.fanout-readers.result.now c.loop-reader.reader-index c.loop-reader-test.false c.fanout-readers.ensures.readers
    (contains nat_cmp c.args.all_live.now) c.loop-reader.invariant
