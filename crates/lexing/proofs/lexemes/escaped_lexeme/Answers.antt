use Rattle.std.proofs.Common.{◌+◌, ◌∙◌, sym, ap, arith}
use Rattle.std.proofs.lemmas.List.{take_rest}
use Rattle.lexing.proofs.LexemeLemmas.{escaped_found, escape_alone}
use Rattle.lexing.proofs.lexemes.escaped_lexeme.Goals as goal

pub returns-then-run-eq0-clause-value : goal.returns-then-run-eq0-clause-value
returns-then-run-eq0-clause-value c =
    escape_alone c.args.bytes.now c.requires.some c.requires.first (sym (rw take_rest at c.printed_run-run.ensures.value) ∙ c.if-run-eq0.true)

pub returns-else-run-eq0-clause-value : goal.returns-else-run-eq0-clause-value
returns-else-run-eq0-clause-value c =
    let run = rw take_rest at c.printed_run-run.ensures.value in
    escaped_found c.args.bytes.now (1 + c.printed_run-run.result) c.requires.some c.requires.first
    (omega (arith, run, c.if-run-eq0.false)) (ap (λ n. 1 + n) run)
