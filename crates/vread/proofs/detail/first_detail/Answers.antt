use Rattle.std.proofs.Common.{List, length, ap, subst, sym, ◌∙◌}
use Rattle.std.specs.Prelude.{slice_get}
use Rattle.lexing.specs.declared.token.Token.{Token}
use Rattle.vread.specs.declared.detail.FaultWord.{FaultWord}
use Rattle.vread.specs.Details.{refused_word}
use Rattle.vread.specs.kept.Details.{IsWordInside}
use Rattle.vread.proofs.DetailLemmas.{refused_inside}
use Rattle.vread.proofs.detail.first_detail.Goals as goal

pub returns-clause-word : goal.returns-clause-word
returns-clause-word c = λ list spelled.
    c.refused_word-word.ensures
    ∙ ap (λ (l : List Token). refused_word (slice_get l c.args.place))
    (c.as_slice.ensures.value ∙ c.one_spelling.ensures 0 c.in_ok-list.list.items list c.in_ok-list.ensures.list spelled)

pub returns-clause-inside : goal.returns-clause-inside
returns-clause-inside c =
    subst (λ (w : FaultWord). IsWordInside (length c.args.text.now) w)
    (sym (c.refused_word-word.ensures ∙ ap (λ (l : List Token). refused_word (slice_get l c.args.place)) c.as_slice.ensures.value))
    (refused_inside (length c.args.text.now) c.in_ok-list.list.items c.args.place c.in_ok-list.ensures.inside)
