use Rattle.std.proofs.Common.{◌≡◌, ◌-◌, ◌<◌, ℕ, false, get_or}
use Rattle.vtext.specs.Modules.{InstanceEntry}
use Rattle.vread.specs.kept.Searches.{any_inside}
use Rattle.vread.proofs.search.+any_below.Given as goal

abbrev pub invariant-loop-place : goal.invariant-loop-place
invariant-loop-place l = (k : ℕ) → k < l.place → (d : InstanceEntry) → any_inside l.modules.names l.modules.modules l.wanted (l.levels - 1) l.path l.scope (get_or l.instances k d) ≡ false

abbrev pub decreases-any_below : goal.decreases-any_below
decreases-any_below l = l.levels
