use Rattle.std.proofs.Common.{sym, refl}
use Rattle.design.proofs.LookLemmas.{not_missing}
use Rattle.design.proofs.design.Design.net_of.Goals as goal

pub unreachable-requires : goal.unreachable-requires
unreachable-requires c = not_missing _ _ (rw (← c.self.view_is, ← c.net.view_is) at c.requires) (sym c.in-None.ensures) refl

pub returns : goal.returns
returns c = rw (← c.self.view_is, ← c.net.view_is) (sym c.in-Some.ensures)
