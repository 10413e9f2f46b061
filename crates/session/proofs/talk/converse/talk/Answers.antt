use Rattle.session.proofs.TalkLemmas.{same_sink_through, same_source_through}
use Rattle.session.proofs.talk.converse.talk.Goals as goal

pub loop-preserved : goal.loop-preserved
loop-preserved g c =
    let was = c.loop.invariant.2 in (
      tt,
      tt,
      record {
        waits = c.in_default.ensures.goes_on c.args.session.now.machine was.waits;
        sink = same_sink_through was.sink c.exchange.ensures.sink;
        source = same_source_through was.source c.in_default.ensures.source;
      },
    )
