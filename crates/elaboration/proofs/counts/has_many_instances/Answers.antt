use Rattle.std.proofs.Common.{ℕ, Bool, List, false, min, get_or, ap, ◌∙◌}
use Rattle.elaboration.specs.declared.counts.TheConstants.{MANY}
use Rattle.elaboration.proofs.CountLemmas.{many_counted, many_deep}
use Rattle.elaboration.proofs.counts.has_many_instances.Goals as goal

pub returns-then-is_set : goal.returns-then-is_set
returns-then-is_set c = λ d.
    many_deep c.args.modules.now.modules c.args.place d c.requires c.in_ok-deep.deep.items c.is_set.result c.in_ok-deep.ensures
    (c.is_set.ensures ∙ ap (λ (bs : List Bool). get_or bs c.args.place false) c.as_slice.ensures.value) c.if-is_set.true

pub returns : goal.returns
returns c = λ d.
    many_counted c.args.modules.now.modules c.args.place d c.requires c.in_ok-deep.deep.items c.is_set.result c.in_ok-counts.counts.items c.count_at.result
    c.in_ok-deep.ensures (c.is_set.ensures ∙ ap (λ (bs : List Bool). get_or bs c.args.place false) c.as_slice.ensures.value) c.if-is_set.false
    c.in_ok-counts.ensures (c.count_at.ensures ∙ ap (λ (ns : List ℕ). min MANY (get_or ns c.args.place 0)) c.as_slice-2.ensures.value)
