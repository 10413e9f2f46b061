use Rattle.std.proofs.Common.{◌+◌, ap}
use Rattle.std.proofs.lemmas.List.{take_rest}
use Rattle.lexing.proofs.LexemeLemmas.{name_found}
use Rattle.lexing.proofs.lexemes.name_length.Goals as goal

pub returns-clause-value : goal.returns-clause-value
returns-clause-value c =
    name_found c.args.bytes.now (1 + c.name_run.result) c.requires.some c.requires.first (ap (λ n. 1 + n) (rw take_rest at c.name_run.ensures.value))
