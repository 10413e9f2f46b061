use Rattle.std.proofs.Common.{refl, arith}
use Rattle.lexing.specs.Classes.{is_space}
use Rattle.lexing.specs.declared.classes.TheConstants.{CLASSES}
use Rattle.lexing.proofs.ClassLemmas.{agree_below, is_marked}
use Rattle.lexing.proofs.classes.is_space.Goals as goal

pub returns : goal.returns
unfolding agree_below is_space
returns c = is_marked CLASSES 115 is_space refl c.args.byte (omega arith)
