use Rattle.std.proofs.Common.{◌≡◌, drop}
use Rattle.vread.specs.kept.Parts.{any_slot, is_long_net}
use Rattle.vread.proofs.lengths.are_long_nets.Given as goal

abbrev pub invariant-loop-place : goal.invariant-loop-place
invariant-loop-place l = any_slot (is_long_net l.names l.path) (drop l.place l.slots) (drop l.place l.entry.nets) ≡ any_slot (is_long_net l.names l.path) l.slots l.entry.nets
