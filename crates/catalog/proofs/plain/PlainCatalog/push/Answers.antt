use Rattle.std.proofs.Common.{◌≡◌, ◌+◌, ◌∷◌, ◌++◌, [], sym, ap, ◌∙◌, subst, rules}
use Rattle.catalog.specs.kept.Kept.{AreKept}
use Rattle.catalog.proofs.EntryLemmas.{named_none, record_at_above}
use Rattle.catalog.proofs.KeptLemmas.{kept_push}
use Rattle.catalog.proofs.plain.PlainCatalog.push.Goals as goal

pub invariant_of-result : goal.invariant_of-result
invariant_of-result g c =
    let items = c.self.inside.entries.items in
    let key = c.self.inside.next_key in
    let next : c.in_ok-next_key.next_key ≡ key + 1 = search rules in
    let list : c.push.new.self.items ≡ items ++ (key, c.args.item) ∷ [] =
    c.in_ok-push.ensures.items ∙ ap (λ r. items ++ (key, r) ∷ []) c.in_ok-item.ensures in
    subst (λ l. AreKept g.R.Named.name l c.in_ok-next_key.next_key) (sym list)
    (kept_push g.R.Named.name items key c.in_ok-next_key.next_key c.args.item c.self.invariant next (named_none g.R.Named.name items (g.R.Named.name c.args.item) (rw c.self.view_is c.requires)))

pub returns-clause-fresh : goal.returns-clause-fresh
returns-clause-fresh g c = rw (← c.self.view_is) (record_at_above _ _ c.self.invariant.below)
