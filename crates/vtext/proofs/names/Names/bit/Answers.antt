use Rattle.std.proofs.Common.{◌≢◌, ℕ, List, ◌++◌, codes, sym, subst}
use Rattle.vtext.specs.Names.{name_at}
use Rattle.vtext.proofs.IndexLemmas.{unclosed_no_bit}
use Rattle.vtext.proofs.names.Names.bit.Goals as goal

pub returns-then-not-is_closed : goal.returns-then-not-is_closed
returns-then-not-is_closed c =
    let P : List ℕ → Type 0 = λ bytes. (front : List ℕ) → bytes ≢ front ++ codes "]" in
    sym (unclosed_no_bit c.args.self.now c.args.name (name_at c.args.self.now c.args.name) (subst P c.text-bytes.ensures (c.is_closed.ensures c.if-not-is_closed.true)))
