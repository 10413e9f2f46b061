use Rattle.std.proofs.Common.{ℕ, IsSome, All, List, sym, subst, ◌∙◌}
use Rattle.catalog.specs.Catalog.{record_at}
use Rattle.design.specs.Keys.{KeyedGate}
use Rattle.design.specs.kept.Keys.{drives_key}
use Rattle.design.proofs.LookLemmas.{keys_known}
use Rattle.design.proofs.design.Design.drivers.Goals as goal

pub returns-clause-drivers : goal.returns-clause-drivers
returns-clause-drivers c = rw (← c.self.view_is) (c.list_at.ensures ∙ c.self.invariant.drivers_listed c.args.net)

pub returns-clause-gates : goal.returns-clause-gates
returns-clause-gates c =
    let a = c.self.inside in
    let P : ℕ → Type 0 = λ key. IsSome (record_at a.gates key) in
    let Q : List ℕ → Type 0 = λ l. All P l in
    rw (← c.self.view_is) (subst Q (sym (c.list_at.ensures ∙ c.self.invariant.drivers_listed c.args.net)) (keys_known (λ (e : ℕ × KeyedGate). drives_key e.1 c.args.net) a.gates))
