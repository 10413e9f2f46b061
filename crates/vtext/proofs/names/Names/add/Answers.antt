use Rattle.std.proofs.Common.{sym}
use Rattle.vtext.proofs.TableLemmas.{name_stays}
use Rattle.vtext.proofs.names.Names.add.Goals as goal

pub returns-in-Some-clause-ok : goal.returns-in-Some-clause-ok
returns-in-Some-clause-ok c = sym (name_stays c.args.self.now c.args.name.now c.in-Some.number c.in-Some.ensures)
