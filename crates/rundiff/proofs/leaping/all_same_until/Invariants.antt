use Rattle.std.proofs.Common.{◌≡◌, ◌<◌, ◌≤◌, ℕ, true, take}
use Rattle.design.specs.Keys.{netlist}
use Rattle.rundiff.specs.kept.Inputs.{IsSameInput}
use Rattle.rundiff.specs.kept.Places.{is_among}
use Rattle.rundiff.proofs.leaping.all_same_until.Given as goal

-- the nets so far
abbrev pub invariant-loop-place : goal.invariant-loop-place
invariant-loop-place l = record {
  until : l.until ≤ l.end;
  same : l.t < l.until → (p : ℕ) → is_among (take l.place-index l.places) p ≡ true → IsSameInput (netlist l.former.old.now) (netlist l.former.new.now) p l.t l.until;
}
