-- What a session answers at its end, and how it came to it.
use Rattle.std.specs.Prelude.{Result, Ok, Err}
use Rattle.session.specs.declared.fault.SessionFault.{SessionFault}
use Rattle.session.specs.declared.fault.SessionFault.TheVariants.{Read, Write}
use Rattle.session.specs.declared.talk.exchange.End.{End}
use Rattle.session.specs.declared.talk.exchange.End.TheVariants as end
use Rattle.session.specs.State.{SessionState}
use Rattle.session.specs.Traffic.{SinkTraffic, SourceTraffic}
use Rattle.session.specs.Transcripts.{AnswersAll, AnswersPartly, AnswersWholeLines}

-- what a session answers at its end
abbrev pub outcome_of : End → Result (Unit {0}) SessionFault
outcome_of end.Input = Ok tt
outcome_of end.Quit = Ok tt
outcome_of end.ReadFailed = Err Read
outcome_of end.WriteFailed = Err Write

-- a session that stood in the state `first` was led to this end
abbrev pub Serves : End → SessionState → (source : SourceTraffic) (sink : SinkTraffic) → Type 0
Serves end.Input first source sink = AnswersAll first source sink
Serves end.Quit first source sink = AnswersAll first source sink
Serves end.ReadFailed first source sink = AnswersWholeLines first source sink
Serves end.WriteFailed first source sink = AnswersPartly first source sink
