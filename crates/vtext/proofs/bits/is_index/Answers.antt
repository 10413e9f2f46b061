use Rattle.std.proofs.Common.{◌≢◌, ℕ, true, List, ◌++◌, Some, None, ap, subst, ◌∙◌, rules}
use Rattle.std.proofs.lemmas.Bool.Decides.{Decides-eqb}
use Rattle.std.proofs.lemmas.Slice.Eq.{strip_suffix_is}
use Rattle.vtext.proofs.IndexLemmas.{is_index_by, not_index}
use Rattle.vtext.proofs.bits.is_index.Goals as goal

pub returns-then-index-le-MAX_INDEX : goal.returns-then-index-le-MAX_INDEX
returns-then-index-le-MAX_INDEX c =
    is_index_by c.args.tail.now c.in-Some.digits.now true c.eq.result
    (strip_suffix_is Decides-eqb c.args.tail.now c.as_slice.result.now (Some c.in-Some.digits) c.in-Some.ensures.cases
    ∙ ap (λ (end : List ℕ). c.in-Some.digits.now ++ end) c.as_slice.ensures)
    (search rules) (search rules)

pub returns-in-None : goal.returns-in-None
returns-in-None c =
    let P : List ℕ → Type 0 = λ end. (front : List ℕ) → c.args.tail.now ≢ front ++ end in
    not_index c.args.tail.now
    (subst P c.as_slice.ensures (strip_suffix_is Decides-eqb c.args.tail.now c.as_slice.result.now None c.in-None.ensures.cases))
