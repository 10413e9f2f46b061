use Rattle.std.proofs.Common.{◌≡◌, ◌∙◌, ℕ, true, Some, subst}
use Rattle.std.proofs.lemmas.Option.{same_Some}
use Rattle.catalog.specs.kept.Catalog.{place_of}
use Rattle.rundiff.specs.kept.Places.{is_among}
use Rattle.rundiff.proofs.Driven.{read_get}
use Rattle.rundiff.proofs.ReaderKeys.{each_reader}
use Rattle.rundiff.proofs.Steps.{each_more, pushed_kept, pushed_there}
use Rattle.rundiff.proofs.spreading.add_readers.Goals as goal

pub loop-reader-preserved : goal.loop-reader-preserved
loop-reader-preserved c =
    let keys = c.fanout-readers.result.now in let i = c.loop-reader.reader-index in let x = c.reader-item.result in
    let at = read_get keys i x c.loop-reader-test.true c.reader-item.is in
    let gates = c.args.new.now.gates in
    let gate = c.in-Some.gate in
    let now = c.push.new.self.items in
    let pushed = c.in_ok-push.ensures.items in
    let grows = pushed_kept c.loop-reader.gates.items now gate pushed in
    record {
      more = λ q on. grows q (c.loop-reader.invariant.more q on);
      readers = λ key among q place.
          each_more (λ k. place_of gates k ≡ Some q → is_among now q ≡ true) keys i x at
          (λ k was apart place. grows q (c.loop-reader.invariant.readers k was q place))
          (λ place. subst (λ (p : ℕ). is_among now p ≡ true) (same_Some gate q (c.in-Some.ensures.place ∙ place)) (pushed_there c.loop-reader.gates.items now gate pushed)) key among place;
    }

pub returns-clause-readers : goal.returns-clause-readers
returns-clause-readers c =
    each_reader c.args.new.now c.lawful.ensures.keys c.places_are_keys.ensures.nets c.net_key_at.result c.args.place c.requires.there c.net_key_at.ensures.net
    c.fanout-readers.result.now c.loop-reader.reader-index c.loop-reader-test.false c.fanout-readers.ensures.readers
    (λ q. is_among c.loop-reader.gates.items q ≡ true) c.loop-reader.invariant.readers
