use Rattle.design.specs.Keys.{netlist}
use Rattle.bench.proofs.CommitLemmas.{asked_all, where_err}
use Rattle.bench.proofs.bench.next_of.Goals as goal

pub returns-in_err-present-clause-part : goal.returns-in_err-present-clause-part
returns-in_err-present-clause-part g c =
    where_err c.from_residual-in_err-present.result (asked_all (netlist c.args.old.now.design) (netlist c.args.made.0) _ _ c.in_ok-next.ensures.asked)
