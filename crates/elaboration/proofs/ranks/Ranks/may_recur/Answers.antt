use Rattle.std.proofs.Common.{ℕ, List, sym, ap, ◌∙◌}
use Rattle.std.specs.List.{list_any}
use Rattle.vtext.specs.Modules.{InstanceEntry}
use Rattle.elaboration.specs.kept.Ranks.{is_level}
use Rattle.elaboration.proofs.RankLemmas.{no_module, not_recursive}
use Rattle.elaboration.proofs.ranks.Ranks.may_recur.Goals as goal

pub returns-in-Some : goal.returns-in-Some
returns-in-Some c = λ level between.
    let ranks = c.args.self.now in
    not_recursive ranks c.args.modules.now.modules c.requires c.args.name c.in-Some.entry.now (sym c.in-Some.ensures)
    (sym (ap (λ (r : ℕ). list_any (is_level ranks r) c.in-Some.entry.now.instances) c.rank.ensures)
    ∙ sym (ap (λ (is : List InstanceEntry). list_any (is_level ranks c.rank.result) is) c.instances.ensures)
    ∙ sym c.are_level.ensures ∙ level)
    between

pub returns-in-None : goal.returns-in-None
returns-in-None c = λ level between. no_module c.args.modules.now.modules c.args.name c.in-None.ensures between c.args.name
