use Rattle.std.proofs.Common.{ℕ, IsSome, All, List, sym, subst, ◌∙◌}
use Rattle.catalog.specs.Catalog.{record_at}
use Rattle.design.specs.Keys.{KeyedGate}
use Rattle.design.specs.kept.Keys.{reads_key}
use Rattle.design.proofs.LookLemmas.{keys_known}
use Rattle.design.proofs.design.Design.fanout.Goals as goal

pub returns-clause-readers : goal.returns-clause-readers
returns-clause-readers c = rw (← c.self.view_is) (c.list_at.ensures ∙ c.self.invariant.readers_listed c.args.net)

pub returns-clause-gates : goal.returns-clause-gates
returns-clause-gates c =
    let a = c.self.inside in
    let P : ℕ → Type 0 = λ key. IsSome (record_at a.gates key) in
    let Q : List ℕ → Type 0 = λ l. All P l in
    rw (← c.self.view_is) (subst Q (sym (c.list_at.ensures ∙ c.self.invariant.readers_listed c.args.net)) (keys_known (λ (e : ℕ × KeyedGate). reads_key e.1 c.args.net) a.gates))
