use Rattle.std.proofs.Common.{◌∙◌, ap, sym, slice_get}
use Rattle.scratch.proofs.Lists.{if_there}
use Rattle.rundiff.proofs.Driven.{read_get}
use Rattle.rundiff.proofs.Items.{IsFound}
use Rattle.rundiff.proofs.Steps.{pushed_there}
use Rattle.rundiff.proofs.place_map.PlaceMap.add_place.Goals as goal

pub returns-in_ok-push-in-Some-clause-added : goal.returns-in_ok-push-in-Some-clause-added
returns-in_ok-push-in-Some-clause-added g c =
    let xs = c.deref.result.now in let items = c.args.self.now.items.items in let i = c.args.i in let e = c.in-Some.item.now in
    let read = c.in-Some.ensures.lookup in
    if_there (slice_get items i) e (IsFound c.args.count c.push.new.self.items) (ap (λ l. slice_get l i) (sym c.deref.ensures.value) ∙ read_get xs i e read.3.0 read.1)
    (λ low. pushed_there c.args.places.now.items c.push.new.self.items e.0 c.in_ok-push-in-Some.ensures.items)
