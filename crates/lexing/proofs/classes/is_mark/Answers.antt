use Rattle.std.proofs.Common.{refl, arith}
use Rattle.lexing.specs.Classes.{is_printed, is_letter, is_digit}
use Rattle.lexing.specs.kept.Classes.{is_mark}
use Rattle.lexing.specs.declared.classes.TheConstants.{CLASSES}
use Rattle.lexing.proofs.ClassLemmas.{agree_below, is_marked}
use Rattle.lexing.proofs.classes.is_mark.Goals as goal

pub returns : goal.returns
unfolding agree_below is_mark is_printed is_letter is_digit
returns c = is_marked CLASSES 46 is_mark refl c.args.byte (omega arith)
