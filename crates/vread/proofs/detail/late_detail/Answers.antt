use Rattle.std.proofs.Common.{List, length, ap, subst, sym, ◌∙◌}
use Rattle.lexing.specs.declared.token.Token.{Token}
use Rattle.vread.specs.declared.detail.FaultWord.{FaultWord}
use Rattle.vread.specs.Details.{place_word}
use Rattle.vread.specs.kept.Details.{IsWordInside}
use Rattle.vread.proofs.DetailLemmas.{place_inside}
use Rattle.vread.proofs.detail.late_detail.Goals as goal

pub returns-clause-inside : goal.returns-clause-inside
returns-clause-inside c =
    subst (λ (w : FaultWord). IsWordInside (length c.args.text.now) w)
    (sym (c.place_word-word.ensures ∙ ap (λ (l : List Token). place_word l c.in_ok-place.place) c.as_slice.ensures.value))
    (place_inside (length c.args.text.now) c.in_ok-list.list.items c.in_ok-place.place c.in_ok-list.ensures.inside)
