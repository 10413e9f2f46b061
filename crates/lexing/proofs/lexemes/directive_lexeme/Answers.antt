use Rattle.std.proofs.Common.{sym, refl}
use Rattle.lexing.proofs.LexemeLemmas.{timescale_found, accent_alone}
use Rattle.lexing.proofs.lexemes.directive_lexeme.Goals as goal

pub returns-in-Some-clause-value : goal.returns-in-Some-clause-value
returns-in-Some-clause-value c =
    timescale_found c.args.bytes.now _ c.in-Some.field-0-0 c.in-Some.rest.now c.requires.some c.requires.first
    (sym c.in-Some.ensures.value) c.in-Some.ensures.within refl

pub returns-in-None-clause-value : goal.returns-in-None-clause-value
returns-in-None-clause-value c = accent_alone c.args.bytes.now c.requires.some c.requires.first (sym c.in-None.ensures.value)
