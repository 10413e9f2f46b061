use Rattle.std.proofs.Common.{◌≡◌, true, false}
use Rattle.programs.specs.kept.Endings.{says}
use Rattle.racer.proofs.ending.ending.Goals as goal

pub returns-then-print : goal.returns-then-print
returns-then-print g c =
    let stopped : c.print.result ≡ true = c.if-print.true in (says _ _ _ _ _ _ c.print.ensures, rw stopped c.break_off.ensures.text, rw stopped c.break_off.ensures.status)

pub returns-else-print : goal.returns-else-print
returns-else-print g c =
    let going : c.print.result ≡ false = c.if-print.false in (says _ _ _ _ _ _ c.print.ensures, rw going c.end_with.ensures.text, rw going c.end_with.ensures.status)
