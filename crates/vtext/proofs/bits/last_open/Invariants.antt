use Rattle.std.proofs.Common.{◌≡◌, ◌<◌, drop}
use Rattle.std.specs.Prelude.{IfSome}
use Rattle.vtext.specs.Bits.{last_open, last_open_from}
use Rattle.vtext.proofs.bits.last_open.Given as goal

abbrev pub invariant-loop-i : goal.invariant-loop-i
invariant-loop-i l = record {
  rest : last_open_from (drop l.i l.bytes) l.i l.found ≡ last_open l.bytes;
  within : IfSome l.found (λ place. place < l.i);
}
