use Rattle.std.proofs.Common.{◌≡◌, ◌++◌, ◌-◌, map}
use Rattle.vtext.specs.Bits.{bit_bytes}
use Rattle.vtext.specs.Names.{name_at}
use Rattle.vtext.specs.Ranges.{indexes_from, width}
use Rattle.vread.specs.kept.Parts.{AreNamed, bits_nets, run_net}
use Rattle.vread.proofs.new_nets.add_bits.Given as goal

abbrev pub invariant-loop-place : goal.invariant-loop-place
invariant-loop-place l = record {
  all : l.nets.items ++ map (λ i. run_net l.names l.scope.path l.run (bit_bytes (name_at l.names l.name) i)) (indexes_from l.range l.place (width l.range - l.place))
      ≡ l.initial.nets.items ++ bits_nets l.names l.scope.path l.run l.name l.range;
  named : AreNamed (map (λ i. run_net l.names l.scope.path l.run (bit_bytes (name_at l.names l.name) i)) (indexes_from l.range l.place (width l.range - l.place)));
}
