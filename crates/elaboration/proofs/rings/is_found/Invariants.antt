use Rattle.std.proofs.Common.{◌≡◌, ℕ, nat_eq, true}
use Rattle.indexmap.specs.IndexSet.{contains}
use Rattle.elaboration.specs.Tops.{reaches}
use Rattle.elaboration.proofs.rings.is_found.Given as goal

abbrev pub invariant-loop-place : goal.invariant-loop-place
invariant-loop-place l = (to : ℕ) → contains nat_eq l.reached to ≡ true → reaches l.modules.modules l.name l.place to ≡ true
