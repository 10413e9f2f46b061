use Rattle.std.proofs.Common.{◌≡◌, ◌++◌, drop}
use Rattle.vread.specs.kept.Parts.{AreNamed, slots_nets}
use Rattle.vread.proofs.new_nets.add_scope_nets.Given as goal

abbrev pub invariant-loop-place : goal.invariant-loop-place
invariant-loop-place l = record {
  all : l.nets.items ++ slots_nets l.names l.scope.path (drop l.place l.slots) (drop l.place l.entry.nets) ≡ l.initial.nets.items ++ slots_nets l.names l.scope.path l.slots l.entry.nets;
  named : AreNamed (slots_nets l.names l.scope.path (drop l.place l.slots) (drop l.place l.entry.nets));
}
