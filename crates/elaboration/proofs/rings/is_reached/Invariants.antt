use Rattle.std.proofs.Common.{◌≡◌, ℕ, nat_eq}
use Rattle.indexmap.specs.IndexSet.{contains}
use Rattle.elaboration.specs.Tops.{reaches}
use Rattle.elaboration.proofs.rings.is_reached.Given as goal

abbrev pub invariant-loop-between : goal.invariant-loop-between
invariant-loop-between l = (to : ℕ) → contains nat_eq l.reached to ≡ reaches l.modules.modules l.name l._between to
