use Rattle.session.proofs.RunLemmas.{ran, run_opened}
use Rattle.session.specs.Traffic.{sink_traffic, source_traffic}
use Rattle.session.proofs.open.run.Goals as goal

pub returns-clause-ran : goal.returns-clause-ran
returns-clause-ran g c =
    rw c.outcome.ensures (ran c.serve-end.result
    (source_traffic g.R.Source.remaining g.R.Source.taken g.R.Source.failures c.args.source.now c.serve-end.new.source)
    (sink_traffic g.W.Sink.contents g.W.Sink.failures c.args.sink.now c.serve-end.new.sink)
    c.in_ok-session.ensures.state.1 c.serve-end.ensures)

pub returns-clause-unopened : goal.returns-clause-unopened
returns-clause-unopened g c = rw c.outcome.ensures (run_opened c.serve-end.result _)
