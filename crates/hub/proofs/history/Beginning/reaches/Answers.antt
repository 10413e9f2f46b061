use Rattle.std.proofs.Common.{ap, List, refl, subst, sym}
use mathlib.Core.List.{IsPrefix}
use Rattle.hubcore.specs.Lists.{EntryRecord}
use Rattle.hub.proofs.Beginnings.{reaches}
use Rattle.hub.proofs.history.Beginning.reaches.Goals as goal

pub returns : goal.returns
returns g c =
    let both = c.learn.new.self.log in
    let own : IsPrefix c.self.inside.reached.log both =
    subst (λ (l : List EntryRecord). IsPrefix l both) (ap (λ s. s.log) c.again-both.ensures) c.learn.ensures.2
    in
    let other = c.learn.ensures.3 in
    rw (← c.self.view_is, ← c.other.view_is) (reaches both c.self.inside.reached.log c.other.inside.reached.log c.other.inside.len c.self.inside.len c.other.invariant.0 c.self.invariant.0 (own.0, sym own.1) (other.0, sym other.1) _ refl)
