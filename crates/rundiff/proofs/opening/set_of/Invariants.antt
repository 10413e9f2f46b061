use Rattle.std.proofs.Common.{◌≡◌, ℕ, take, nat_cmp}
use Rattle.std.specs.BTreeSet.{contains}
use Rattle.rundiff.specs.kept.Places.{is_among}
use Rattle.rundiff.proofs.opening.set_of.Given as goal

-- the places so far are in the set
abbrev pub invariant-loop-place : goal.invariant-loop-place
invariant-loop-place l = (p : ℕ) → contains nat_cmp l.set p ≡ is_among (take l.place-index l.places) p
