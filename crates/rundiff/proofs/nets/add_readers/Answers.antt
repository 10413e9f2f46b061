use Rattle.std.proofs.Common.{◌≡◌, ◌∙◌, ◌<◌, ap, sym, subst, ℕ, All, true, length, Some}
use Rattle.std.proofs.lemmas.Option.{same_Some}
use Rattle.std.proofs.lemmas.List.Elements.{All-push}
use Rattle.catalog.specs.kept.Catalog.{place_of}
use Rattle.design.specs.Keys.{KeyedGate, netlist}
use Rattle.design.specs.kept.Keys.{gate_by_key}
use Rattle.rundiff.specs.kept.Places.{is_among}
use Rattle.rundiff.proofs.Driven.{read_get}
use Rattle.rundiff.proofs.ReaderKeys.{each_output}
use Rattle.rundiff.proofs.Steps.{each_more, pushed_kept, pushed_there}
use Rattle.rundiff.proofs.nets.add_readers.Goals as goal

pub loop-reader-preserved : goal.loop-reader-preserved
loop-reader-preserved c =
    let keys = c.fanout-readers.result.now in let i = c.loop-reader.reader-index in let x = c.reader-item.result in
    let at = read_get keys i x c.loop-reader-test.true c.reader-item.is in
    let keyed = c.args.new.now in
    let output = c.in-Some.output in
    let before = c.loop-reader.found.items in
    let pushed = c.in_ok-push.ensures.items in
    let grows = pushed_kept before c.push.new.self.items output pushed in
    record {
      there = λ all. subst (All (λ p. p < length (netlist keyed).nets)) (sym pushed) (All-push (λ p. p < length (netlist keyed).nets) before output (c.loop-reader.invariant.there all) c.in-Some.ensures.within);
      more = λ p on. grows p (c.loop-reader.invariant.more p on);
      readers = λ key among gate found.
          each_more (λ k. gate_by_key keyed k ≡ Some gate → (q : ℕ) × (place_of keyed.nets gate.output ≡ Some q) × (is_among c.push.new.self.items q ≡ true)) keys i x at
          (λ k was apart found. let rest = c.loop-reader.invariant.readers k was gate found in (rest.0, rest.1, grows rest.0 rest.2))
          (λ found.
          let one : c.gate_of.result.now ≡ gate = same_Some c.gate_of.result.now gate (sym c.gate_of.ensures.gate ∙ found) in
          let at_output : place_of keyed.nets gate.output ≡ Some output =
          ap (λ (h : KeyedGate). place_of keyed.nets h.output) (sym one) ∙ ap (place_of keyed.nets) (sym c.output.ensures) ∙ sym c.in-Some.ensures.place in
          (output, at_output, pushed_there before c.push.new.self.items output pushed)) key among found;
    }

pub returns-clause-readers : goal.returns-clause-readers
returns-clause-readers c =
    each_output c.args.new.now c.lawful.ensures.keys c.places_are_keys.ensures.nets c.net_key_at.result c.args.place c.requires.there c.net_key_at.ensures.net
    c.fanout-readers.result.now c.loop-reader.reader-index c.loop-reader-test.false c.fanout-readers.ensures.readers
    (is_among c.loop-reader.found.items) c.loop-reader.invariant.readers
