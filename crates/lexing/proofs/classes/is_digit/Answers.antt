use Rattle.std.proofs.Common.{refl, arith}
use Rattle.lexing.specs.Classes.{is_digit}
use Rattle.lexing.specs.declared.classes.TheConstants.{CLASSES}
use Rattle.lexing.proofs.ClassLemmas.{agree_below, is_marked}
use Rattle.lexing.proofs.classes.is_digit.Goals as goal

pub returns : goal.returns
unfolding agree_below is_digit
returns c = is_marked CLASSES 48 is_digit refl c.args.byte (omega arith)
