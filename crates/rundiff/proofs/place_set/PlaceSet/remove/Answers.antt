use Rattle.std.proofs.Common.{arith}
use Rattle.rundiff.proofs.Pages.{numbered}
use Rattle.rundiff.proofs.place_set.PlaceSet.remove.Goals as goal

pub set_number-requires-clause-there : goal.set_number-requires-clause-there
set_number-requires-clause-there c =
    (numbered c.self.inside.marks.items c.args.place (omega (arith, c.number_of.ensures, c.if-number_of-gt0.true))).0

pub set_number-requires-clause-page : goal.set_number-requires-clause-page
set_number-requires-clause-page c =
    (numbered c.self.inside.marks.items c.args.place (omega (arith, c.number_of.ensures, c.if-number_of-gt0.true))).1
