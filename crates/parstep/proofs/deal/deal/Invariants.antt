use Rattle.std.proofs.Common.{◌≡◌, ◌-◌, length}
use Rattle.parstep.specs.kept.Dealt.{dealing}
use Rattle.parstep.proofs.deal.deal.Given as goal

-- the pieces so far are out, and the others wait
abbrev pub invariant-loop-number : goal.invariant-loop-number
invariant-loop-number g l =
    record {
      dealt : l.floor ≡ dealing (length l.tasks) l.number (l.pieces - l.number);
      seats : length l.seats ≡ length l.fn.seats;
    }
