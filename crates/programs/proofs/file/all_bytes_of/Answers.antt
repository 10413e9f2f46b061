use Rattle.std.proofs.Common.{◌-◌, ◌^◌, arith}
use Rattle.programs.proofs.FileLemmas.{whole_of_first}
use Rattle.programs.proofs.file.all_bytes_of.Goals as goal

pub returns-clause-opened : goal.returns-clause-opened
returns-clause-opened g c =
    let held = c.in_ok-text.text.ok in whole_of_first c.args.file g.R.Read.remaining c.in_ok-text.text.items (2 ^ 64 - 1) (omega arith) c.in_ok-text.ensures.opened
