use Rattle.std.proofs.Common.{◌≢◌, ℕ, List, ◌++◌, None, subst}
use Rattle.std.proofs.lemmas.Bool.Decides.{Decides-eqb}
use Rattle.std.proofs.lemmas.Slice.Eq.{strip_suffix_is}
use Rattle.vtext.proofs.bits.is_closed.Goals as goal

pub returns-in-None : goal.returns-in-None
returns-in-None c _ =
    let P : List ℕ → Type 0 = λ end. (front : List ℕ) → c.args.bytes.now ≢ front ++ end in
    subst P c.as_slice.ensures (strip_suffix_is Decides-eqb c.args.bytes.now c.as_slice.result.now None c.in-None.ensures.cases)
