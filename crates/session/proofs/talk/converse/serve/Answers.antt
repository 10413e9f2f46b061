use Rattle.std.proofs.Common.{rules}
use Rattle.session.specs.Traffic.{sink_traffic, source_traffic}
use Rattle.session.proofs.ServeLemmas.{is_read, is_written, serves}
use Rattle.session.proofs.talk.converse.serve.Goals as goal

pub returns : goal.returns
returns g c =
    serves c.talk-end.result c.args.session.now.machine
    (source_traffic g.R.Source.remaining g.R.Source.taken g.R.Source.failures c.args.source.now _) (sink_traffic g.W.Sink.contents g.W.Sink.failures c.args.sink.now _)
    (is_read g.R.Source.remaining g.R.Source.taken g.R.Source.failures c.new-reader.ensures c.talk-end.ensures.source
    c.finish-source.ensures.consumed c.finish-source.ensures.taken c.finish-source.ensures.failures c.finish-source.ensures.same_reference (search rules))
    (is_written g.W.Sink.contents g.W.Sink.failures c.new-writer.ensures c.talk-end.ensures.sink
    c.finish-sink.ensures.out c.finish-sink.ensures.failed c.finish-sink.ensures.same_reference (search rules))
    c.talk-end.ensures.ends
