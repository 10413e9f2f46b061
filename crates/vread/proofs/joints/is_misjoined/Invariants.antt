use Rattle.std.proofs.Common.{◌≡◌, drop}
use Rattle.vread.specs.kept.Parts.{any_slot, is_misjoined}
use Rattle.vread.proofs.joints.is_misjoined.Given as goal

abbrev pub invariant-loop-place : goal.invariant-loop-place
invariant-loop-place l = any_slot is_misjoined (drop l.place l.slots) (drop l.place l.entry.nets) ≡ any_slot is_misjoined l.slots l.entry.nets
