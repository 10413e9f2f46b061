use Rattle.std.proofs.Common.{◌≡◌, true, sym, ◌∙◌, refl, arith}
use Rattle.catalog.specs.kept.Spellings.{is_short}
use Rattle.vtext.proofs.NotedLemmas.{right_of}
use Rattle.vtext.proofs.recent.Noted.new.Goals as goal

pub returns : goal.returns
returns c = λ names stands.
    let short : is_short c.args.name.now ≡ true = sym c.is_short.ensures ∙ c.if-not-is_short.false in
    right_of names _ c.args.name.now (λ k. omega (arith, c.type_inv.name k))
    (record { short = short; long = refl; first = c.first_four.ensures; last = c.last_four.ensures }) stands
