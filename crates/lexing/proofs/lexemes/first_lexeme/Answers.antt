use Rattle.std.proofs.Common.{◌∙◌, sym, refl}
use Rattle.lexing.proofs.LexemeLemmas.{single_found, stray_found}
use Rattle.lexing.proofs.lexemes.first_lexeme.Goals as goal

pub returns-then-is_printed-clause-value : goal.returns-then-is_printed-clause-value
returns-then-is_printed-clause-value c =
    single_found c.args.bytes.now c.requires (sym c.is_printed.ensures ∙ c.if-is_printed.true) (sym c.is_letter.ensures ∙ c.if-is_letter.false)
    (sym c.is_digit.ensures ∙ c.if-is_digit.false) c.if-first-eq92.false c.if-first-eq96.false

pub returns-else-is_printed-clause-value : goal.returns-else-is_printed-clause-value
returns-else-is_printed-clause-value c = (refl, stray_found c.args.bytes.now c.requires (sym c.is_printed.ensures ∙ c.if-is_printed.false))
