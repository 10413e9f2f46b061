use Rattle.std.proofs.Common.{◌∙◌, arith}
use Rattle.rundiff.specs.kept.PlaceMaps.{number_at}
use Rattle.rundiff.proofs.Items.{item_added, others_stay}
use Rattle.rundiff.proofs.place_map.PlaceMap.add.Goals as goal

pub returns-clause-value : goal.returns-clause-value
returns-clause-value g c =
    item_added c.push.new.self.items c.args.self.now.items.items c.args.place c.args.value (number_at c.set_number.new.pages.items c.args.place)
    c.in_ok-push.ensures.items (omega (arith, c.set_number.ensures.here, c.len.ensures, c.push.new.self.ok.0))

pub returns-clause-others : goal.returns-clause-others
returns-clause-others g c = λ q off.
    others_stay c.push.new.self.items c.args.self.now.items.items c.args.place c.args.value q
    (number_at c.set_number.new.pages.items q) (number_at c.args.self.now.pages.items q) off c.in_ok-push.ensures.items
    (c.set_number.ensures.others q off ∙ c.in_ok-reach.ensures.same q)
