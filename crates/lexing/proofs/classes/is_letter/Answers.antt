use Rattle.std.proofs.Common.{refl, arith}
use Rattle.lexing.specs.Classes.{is_letter}
use Rattle.lexing.specs.declared.classes.TheConstants.{CLASSES}
use Rattle.lexing.proofs.ClassLemmas.{agree_below, is_marked}
use Rattle.lexing.proofs.classes.is_letter.Goals as goal

pub returns : goal.returns
unfolding agree_below is_letter
returns c = is_marked CLASSES 97 is_letter refl c.args.byte (omega arith)
