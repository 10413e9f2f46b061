-- The end of a run, by how the conversation ended or why the session did not open.
use Rattle.std.proofs.Common.{ℕ, List, Err}
use Rattle.std.specs.Prelude.{IfErr}
use Rattle.session.specs.declared.fault.SessionFault.{SessionFault}
use Rattle.session.specs.declared.fault.SessionFault.TheVariants as fault
use Rattle.session.specs.declared.open.Options.{Options}
use Rattle.session.specs.declared.talk.exchange.End.{End}
use Rattle.session.specs.declared.talk.exchange.End.TheVariants as end
use Rattle.session.specs.Opening.{IsOpeningFault, Opens, Refuses}
use Rattle.session.specs.Outcomes.{Ran}
use Rattle.session.specs.kept.Outcomes.{Serves, outcome_of}
use Rattle.session.specs.State.{SessionState}
use Rattle.session.specs.Traffic.{SinkTraffic, SourceTraffic}

-- a session that opened
pub ran : {text : List ℕ} {options : Options} {first : SessionState} (e : End) (source : SourceTraffic) (sink : SinkTraffic) → Opens text options first
    → Serves e first source sink → Ran text options source sink (outcome_of e)
ran {first = first} end.Input source sink opens served = (first, opens, served)
ran {first = first} end.Quit source sink opens served = (first, opens, served)
ran {first = first} end.ReadFailed source sink opens served = (first, opens, served)
ran {first = first} end.WriteFailed source sink opens served = (first, opens, served)

-- a session that did not open
pub not_ran : (text : List ℕ) (options : Options) (source : SourceTraffic) (sink : SinkTraffic) (f : SessionFault) → IsOpeningFault f → Refuses text options f
    → Ran text options source sink (Err f)
not_ran text options source sink (fault.Design f) at_opening refuses = refuses
not_ran text options source sink (fault.Edit f) at_opening refuses = refuses
not_ran text options source sink fault.OutOfMemory at_opening refuses = refuses
not_ran text options source sink fault.WorkerLost at_opening refuses = refuses
not_ran text options source sink fault.Read at_opening refuses = absurd at_opening
not_ran text options source sink fault.Write at_opening refuses = absurd at_opening

pub run_opened : (e : End) (P : SessionFault → Type 0) → IfErr (outcome_of e) (λ fault. IsOpeningFault fault → P fault)
run_opened end.Input P = tt
run_opened end.Quit P = tt
run_opened end.ReadFailed P = λ x. absurd x
run_opened end.WriteFailed P = λ x. absurd x
