use Rattle.std.proofs.Common.{◌≡◌, ◌∙◌, ap, sym, subst, ℕ, suc, List, Some}
use Rattle.std.proofs.lemmas.Option.{same_Some, get_or_from_slice_get}
use Rattle.catalog.specs.kept.Catalog.{place_of}
use Rattle.event_queue.specs.kept.Noted.{noted}
use Rattle.design.specs.Connections.{to_net}
use Rattle.design.specs.Keys.{netlist}
use Rattle.design.specs.Netlist.{NetEntry}
use Rattle.scratch.specs.kept.Places.{IsNotedWithin}
use Rattle.scratch.proofs.Notes.{within_on}
use Rattle.rundiff.specs.kept.Noting.{old_moves}
use Rattle.rundiff.specs.kept.Places.{blank_net, net_at}
use Rattle.rundiff.proofs.Driven.{read_get}
use Rattle.rundiff.proofs.ReaderKeys.{each_reader}
use Rattle.rundiff.proofs.Steps.{each_more}
use Rattle.rundiff.proofs.letting.note_readers.Goals as goal

pub loop-reader-preserved : goal.loop-reader-preserved
loop-reader-preserved g c =
    let keys = c.fanout-readers.result.now in let i = c.loop-reader.reader-index in let x = c.reader-item.result in
    let at = read_get keys i x c.loop-reader-test.true c.reader-item.is in
    let gates = c.args.former.now.new.now.gates in
    let gate = c.in-Some.gate in
    let now = noted c.note.new.queue in
    let done = c.in_ok-note.ensures in
    record {
      next = λ key among q u place some.
          each_more (λ k. place_of gates k ≡ Some q → IsNotedWithin now q (suc c.args.t) u) keys i x at
          (λ k was apart place. within_on (noted c.loop-reader.queue) now q (suc c.args.t) u done.kept (c.loop-reader.invariant.next k was q u place some))
          (λ place.
          let e : gate ≡ q = same_Some gate q (c.in-Some.ensures.place ∙ place) in
          subst (λ k. IsNotedWithin now k (suc c.args.t) u) e (done.next u some)) key among place;
      kept = λ k u h. done.kept k u (c.loop-reader.invariant.kept k u h);
      early = λ u low. done.early u low ∙ c.loop-reader.invariant.early u low;
    }

pub returns-clause-next : goal.returns-clause-next
returns-clause-next g c = λ q u low reading later moves.
    let keyed = c.args.former.now.new.now in let d = netlist keyed in
    let net = c.net_at.result.now in
    let name : c.as_str-name.result.now ≡ (net_at d c.args.net).name = c.as_str-name.ensures ∙ c.name.ensures ∙ ap (λ (m : NetEntry). m.name) (sym (get_or_from_slice_get d.nets c.args.net net blank_net c.net_at.ensures)) in
    let change = c.next_old_change-change.ensures.first d u later (ap (λ (m : List ℕ). old_moves g.S.Stepper.answer (netlist c.args.former.now.old.now) d (to_net m) u) name ∙ moves) in
    each_reader keyed c.lawful.ensures.keys c.places_are_keys.ensures.nets c.net_key_at-key.result c.args.net c.requires.there c.net_key_at-key.ensures.net
    c.fanout-readers.result.now c.loop-reader.reader-index c.loop-reader-test.false c.fanout-readers.ensures.readers
    (λ r. IsNotedWithin (noted c.loop-reader.queue) r (suc c.args.t) u) (λ k among r place. c.loop-reader.invariant.next k among r u place change) q low reading
