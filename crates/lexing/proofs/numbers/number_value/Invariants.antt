-- proofs/numbers/number_value/Invariants.antt
use Rattle.std.proofs.Common.{◌≡◌, take}
use Rattle.lexing.specs.Numbers.{number_of}
use Rattle.lexing.proofs.numbers.number_value.Given as goal

abbrev pub invariant-loop-byte : goal.invariant-loop-byte
invariant-loop-byte l = l.value ≡ number_of (take l.byte-index l.bytes)
