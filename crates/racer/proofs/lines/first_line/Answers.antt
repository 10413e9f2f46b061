use Rattle.std.proofs.Common.{◌-◌, length, sym, arith}
use Rattle.racer.proofs.LineLemmas.{lines_at, lines_none}
use Rattle.racer.proofs.lines.first_line.Goals as goal

pub returns-in-Some-clause-cut : goal.returns-in-Some-clause-cut
returns-in-Some-clause-cut c = lines_at c.args.text.now c.in-Some.at c.in-Some.ensures

pub returns-in-None-clause-cut : goal.returns-in-None-clause-cut
returns-in-None-clause-cut c = lines_none c.args.text.now _ (length c.args.text.now - length c.args.text.now) (sym c.if-is_empty.ensures) (omega arith) c.in-None.ensures
