use Rattle.std.proofs.Common.{◌≡◌, ◌||◌, ℕ, Bool, List, get_or, sym, ap, ◌∙◌, arith}
use Rattle.std.proofs.lemmas.List.Folds.{list_any_at, list_any_more}
use Rattle.std.specs.List.{list_any}
use Rattle.vtext.specs.Modules.{InstanceEntry, ModuleEntry}
use Rattle.elaboration.specs.kept.Ranks.{is_lower, rank_of}
use Rattle.elaboration.proofs.PortLemmas.{blank}
use Rattle.elaboration.proofs.ranks.Ranks.fall.Goals as goal

-- what is found of the module at a place
found : (ranks : List (ℕ × ℕ)) (m at : ℕ × ModuleEntry) (instances : List InstanceEntry) (rank : ℕ) (lower : Bool) → m ≡ at → instances ≡ m.1.instances → rank ≡ rank_of ranks m.0
    → lower ≡ list_any (is_lower ranks rank) instances → list_any (is_lower ranks (rank_of ranks at.0)) at.1.instances ≡ lower
found ranks m at instances rank lower is inner ranked made =
    sym (made
    ∙ ap (λ (is : List InstanceEntry). list_any (is_lower ranks rank) is) inner
    ∙ ap (λ (r : ℕ). list_any (is_lower ranks r) m.1.instances) ranked
    ∙ ap (λ (x : ℕ × ModuleEntry). list_any (is_lower ranks (rank_of ranks x.0)) x.1.instances) is)

pub returns-then-are_lower : goal.returns-then-are_lower
returns-then-are_lower c =
    let ranks = c.args.self.now in
    let modules = c.args.modules.now.modules in
    let place = c.loop-place.place in
    sym (list_any_at (λ (m : ℕ × ModuleEntry). list_any (is_lower ranks (rank_of ranks m.0)) m.1.instances) modules place blank (omega (arith, c.loop-place-test.true, c.count-place-end.ensures))
    (found ranks (c.at-name.result.0, c.at-name.result.1.now) (get_or modules place blank) c.instances.result.now c.rank.result c.are_lower.result (c.at-name.ensures blank) c.instances.ensures c.rank.ensures c.are_lower.ensures
    ∙ c.if-are_lower.true))

pub loop-place-preserved : goal.loop-place-preserved
loop-place-preserved c =
    let ranks = c.args.self.now in
    let modules = c.args.modules.now.modules in
    let place = c.loop-place.place in
    list_any_more (λ (m : ℕ × ModuleEntry). list_any (is_lower ranks (rank_of ranks m.0)) m.1.instances) modules place blank (omega (arith, c.loop-place-test.true, c.count-place-end.ensures))
    ∙ ap (λ (b : Bool). b || list_any (is_lower ranks (rank_of ranks (get_or modules place blank).0)) (get_or modules place blank).1.instances) c.loop-place.invariant
    ∙ found ranks (c.at-name.result.0, c.at-name.result.1.now) (get_or modules place blank) c.instances.result.now c.rank.result c.are_lower.result (c.at-name.ensures blank) c.instances.ensures c.rank.ensures c.are_lower.ensures
    ∙ c.if-are_lower.false
