use Rattle.std.proofs.Common.{◌≡◌, ◌++◌, drop}
use Rattle.vtext.specs.Bits.{bit_names, bits_from}
use Rattle.vtext.proofs.bits.bits_of.Given as goal

abbrev pub invariant-loop-name : goal.invariant-loop-name
invariant-loop-name l = l.bits.items ++ bits_from l.names l.name (drop l.name l.names) ≡ bit_names l.names
