use Rattle.std.proofs.Common.{refl, arith}
use Rattle.lexing.specs.Classes.{is_name_byte, is_letter, is_digit}
use Rattle.lexing.specs.declared.classes.TheConstants.{NAME_BYTES}
use Rattle.lexing.proofs.ClassLemmas.{agree_below, is_unmarked}
use Rattle.lexing.proofs.classes.is_name_byte.Goals as goal

pub returns : goal.returns
unfolding agree_below is_name_byte is_letter is_digit
returns c = is_unmarked NAME_BYTES 46 is_name_byte refl c.args.byte (omega arith)
