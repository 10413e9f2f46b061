-- What a session leaves, by what it answers at its end.
use Rattle.std.specs.Prelude.{List, ℕ, Result, Ok, Err}
use Rattle.session.specs.declared.fault.SessionFault.{SessionFault}
use Rattle.session.specs.declared.fault.SessionFault.TheVariants.{Read, Write}
use Rattle.session.specs.declared.open.Options.{Options}
use Rattle.session.specs.Opening.{FromOpening, Refuses}
use Rattle.session.specs.Traffic.{SinkTraffic, SourceTraffic}
use Rattle.session.specs.Transcripts.{AnswersAll, AnswersPartly, AnswersWholeLines}

-- A session over this text, with these options, ran and answered this: every line was answered, the source failed, the sink
-- failed, or it did not open.
abbrev pub Ran : List ℕ → Options → (source : SourceTraffic) (sink : SinkTraffic) → Result (Unit {0}) SessionFault → Type 0
Ran text options source sink (Ok done) = FromOpening text options (λ first. AnswersAll first source sink)
Ran text options source sink (Err Read) = FromOpening text options (λ first. AnswersWholeLines first source sink)
Ran text options source sink (Err Write) = FromOpening text options (λ first. AnswersPartly first source sink)
Ran text options source sink (Err fault) = Refuses text options fault
