use Rattle.elaboration.proofs.ElaborationLemmas.{top_at}
use Rattle.elaboration.proofs.PortLemmas.{blank}
use Rattle.elaboration.proofs.elaboration.find_top.Goals as goal

pub returns-clause-top : goal.returns-clause-top
returns-clause-top c =
    top_at c.args.modules.now.modules c.in_ok-place.place (c.at-name.result.0, c.at-name.result.1.now) blank c.in_ok-place.ensures.there c.in_ok-place.ensures.top (c.at-name.ensures blank)
