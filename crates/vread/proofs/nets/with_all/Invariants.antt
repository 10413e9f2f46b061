use Rattle.std.proofs.Common.{◌≡◌, ◌++◌, length}
use Rattle.std.specs.Vec.Iter.{into_iter_items, into_iter_len}
use Rattle.design.specs.Keys.{netlist}
use Rattle.vread.proofs.nets.with_all.Given as goal

abbrev pub invariant-loop-net : goal.invariant-loop-net
invariant-loop-net l = record {
  all : (netlist l.made).nets ++ into_iter_items l.net-iterator ≡ (netlist l.fn.design).nets ++ l.fn.nets.items;
  others : netlist l.made ≡ record (netlist l.fn.design) { nets = (netlist l.made).nets };
  count : into_iter_len l.net-iterator ≡ length (into_iter_items l.net-iterator);
}
