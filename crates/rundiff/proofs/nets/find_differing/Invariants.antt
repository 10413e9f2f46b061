use Rattle.std.proofs.Common.{◌≡◌, ◌<◌, ℕ, true, take, All, length, ◌||◌, nat_cmp}
use Rattle.std.specs.BTreeSet.{contains}
use Rattle.design.specs.Keys.{netlist}
use Rattle.rundiff.specs.kept.Fronts.{IsAlike}
use Rattle.rundiff.specs.kept.Places.{is_among}
use Rattle.rundiff.proofs.nets.find_differing.Given as goal

-- what is found for the nets so far
abbrev pub invariant-loop-place : goal.invariant-loop-place
invariant-loop-place g l = record {
  there : All (λ p. p < length (netlist l.former.new.now).nets) l.found.items;
  alike : (p : ℕ) → is_among (take l.place-index l.live) p ≡ true → IsAlike g.S.Stepper.answer (netlist l.former.old.now) (netlist l.former.new.now) (λ q. is_among l.found.items q || contains nat_cmp l.all_live q) l.t p;
}
