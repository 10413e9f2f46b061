use Rattle.std.proofs.Common.{rules, ◌≡◌, true, false}
use Rattle.programs.specs.kept.Endings.{says}
use Rattle.programs.proofs.version.tell_version.Goals as goal

pub returns-then-print_version : goal.returns-then-print_version
returns-then-print_version g c =
    let stopped : c.print_version.result ≡ true = c.if-print_version.true in
    (says _ _ _ _ _ _ c.print_version.ensures, rw stopped (c.break_off.ensures.text, c.break_off.ensures.status))

pub returns-else-print_version : goal.returns-else-print_version
returns-else-print_version g c =
    let going : c.print_version.result ≡ false = c.if-print_version.false in
    (says _ _ _ _ _ _ c.print_version.ensures, rw going (search rules, search rules))
