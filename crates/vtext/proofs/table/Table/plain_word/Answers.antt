use Rattle.std.proofs.Common.{List, ap, get_or, ◌∙◌}
use Rattle.vtext.specs.declared.word.Word.{Word}
use Rattle.vtext.proofs.TableLemmas.{meaning_at}
use Rattle.vtext.proofs.table.Table.plain_word.Goals as goal

pub returns-clause-word : goal.returns-clause-word
returns-clause-word c =
    c.index.ensures ∙ ap (λ (words : List Word). get_or words c.in_ok-number.number c.index.result.now) c.in_ok-number.ensures.meanings
    ∙ meaning_at c.number.new.self.names c.args.name.now c.in_ok-number.number c.index.result.now c.in_ok-number.ensures.number
