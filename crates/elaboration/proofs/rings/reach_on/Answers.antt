use Rattle.std.specs.List.{each_same}
use Rattle.elaboration.proofs.RingLemmas.{on_ok, reached_by}
use Rattle.elaboration.proofs.rings.reach_on.Goals as goal

pub returns-clause-names : goal.returns-clause-names
returns-clause-names c from between same =
    on_ok c.add_inner.result
    (λ made. reached_by c.args.modules.now.modules from c.in_ok-before.before.keys c.args.reached.now.keys c.add_inner.new.names.keys between
    (each_same c.args.reached.now.keys c.in_ok-before.before.keys c.in_ok-before.ensures.cases) same made)
    c.add_inner.ensures.names
