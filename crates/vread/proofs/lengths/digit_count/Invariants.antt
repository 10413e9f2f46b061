use Rattle.std.proofs.Common.{◌≡◌, ◌+◌, length}
use Rattle.std.specs.Fmt.{decimal}
use Rattle.vread.proofs.lengths.digit_count.Given as goal

abbrev pub invariant-digits : goal.invariant-digits
invariant-digits l = l.count + length (decimal l.left) ≡ length (decimal l.number) + 1

abbrev pub decreases-digits : goal.decreases-digits
decreases-digits l = l.left
