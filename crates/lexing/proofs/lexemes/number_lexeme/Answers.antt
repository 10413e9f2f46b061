use Rattle.std.proofs.Common.{◌+◌, ◌∙◌, sym, ap}
use Rattle.std.proofs.lemmas.List.{take_rest}
use Rattle.lexing.proofs.LexemeLemmas.{number_found, constant_found}
use Rattle.lexing.proofs.lexemes.number_lexeme.Goals as goal

pub returns-then-begins_constant-clause-value : goal.returns-then-begins_constant-clause-value
returns-then-begins_constant-clause-value c = constant_found c.args.bytes.now (sym c.begins_constant.ensures ∙ c.if-begins_constant.true)

pub returns-then-begins_constant-clause-within : goal.returns-then-begins_constant-clause-within
returns-then-begins_constant-clause-within c = (constant_found c.args.bytes.now (sym c.begins_constant.ensures ∙ c.if-begins_constant.true)).within

pub returns-else-begins_constant-clause-value : goal.returns-else-begins_constant-clause-value
returns-else-begins_constant-clause-value c =
    number_found c.args.bytes.now (1 + c.number_run.result) c.requires.some c.requires.first
    (sym c.begins_constant.ensures ∙ c.if-begins_constant.false) (ap (λ n. 1 + n) (rw take_rest at c.number_run.ensures.value))
