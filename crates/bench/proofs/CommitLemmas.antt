-- Refused commits.
use Rattle.std.proofs.Common.{◌≡◌, ◌≢◌, ◌⊎◌, ◌+◌, ℕ, Bool, true, false, if◌then◌else◌, List, refl, inl, inr, arith}
use Rattle.std.specs.Prelude.{Result, Ok, Err, IfErr, OnErr}
use Rattle.gatestep.specs.Step.{Evaluation, advance}
use Rattle.design.specs.Netlist.{Netlist}
use Rattle.edits.specs.declared.edit.Edit.{Edit}
use Rattle.edits.specs.declared.fault.EditFault.{EditFault}
use Rattle.edits.specs.declared.fault.EditFault.TheVariants.{OutOfMemory, TooMany}
use Rattle.bench.specs.declared.fault.CommitFault.{CommitFault}
use Rattle.bench.specs.declared.fault.CommitFault.TheVariants as commit
use Rattle.bench.specs.Benches.{SnapshotRecord}
use Rattle.bench.specs.Commits.{commit_of}
use Rattle.bench.specs.Refusals.{MayRefuse, loses_a_worker}
use Rattle.bench.specs.kept.Refusals.{IsRefusal}
use Rattle.scratch.specs.Asked.{IsAskedInSomeOrder}
use Rattle.scratch.specs.kept.Grown.{all_is_part, grown_none}
use Rattle.resim.specs.Reruns.{HasGrownInPart}
use Rattle.bench.specs.Work.{AskedByRefused, rework_of}

-- A refused edit.

pub may_refuse : (s : SnapshotRecord) (edits : List Edit) (place : ℕ) (fault : EditFault) (r : CommitFault) → IsRefusal place fault r
    → (fault ≡ OutOfMemory) ⊎ (commit_of s.version s.design edits ≡ Err (place, fault)) → MayRefuse s edits r
may_refuse s edits place fault (commit.Edit p f) is (inl memory) = absurd (is.2 memory)
may_refuse s edits place fault (commit.Edit p f) is (inr refused) = rw (is.0, is.1) refused
may_refuse s edits place fault commit.OutOfMemory is from = tt
may_refuse s edits place fault commit.WorkerLost is from = absurd is

pub no_loss : (place : ℕ) (fault : EditFault) (r : CommitFault) (losses : ℕ) → IsRefusal place fault r
    → losses ≡ losses + (if loses_a_worker {A = ℕ} (Err r) then 1 else 0)
no_loss place fault (commit.Edit p f) losses is = omega arith
no_loss place fault commit.OutOfMemory losses is = omega arith
no_loss place fault commit.WorkerLost losses is = absurd is

-- What was asked in vain.

pub asked_nothing : (old : Netlist) (made : Result Netlist (ℕ × EditFault)) (asked : List (Evaluation × ℕ)) → AskedByRefused old made asked asked
asked_nothing old (Ok d) asked = grown_none asked (rework_of old d)
asked_nothing old (Err refused) asked = refl

pub asked_part : (old : Netlist) (made : Result Netlist (ℕ × EditFault)) (d : Netlist) (before now : List (Evaluation × ℕ)) → made ≡ Ok d
    → HasGrownInPart advance old d before now → AskedByRefused old made before now
asked_part old made d before now is part = rw is part

pub asked_all : (old new : Netlist) (before now : List (Evaluation × ℕ)) → IsAskedInSomeOrder before now (rework_of old new) → HasGrownInPart advance old new before now
asked_all old new before now all = all_is_part before now (rework_of old new) all

-- A commit's refusal is never that memory ran out.
pub refused_for : (last : Bool) (made : Result Netlist (ℕ × EditFault)) → IfErr made (λ refused. refused.1 ≢ OutOfMemory)
    → IfErr (if last then Err (0, TooMany) else made) (λ refused. refused.1 ≢ OutOfMemory)
refused_for true made is = λ e. cc
refused_for false made is = is

pub where_err : {A E P : Type 0} (r : Result A E) → P → OnErr r P
where_err (Ok x) p = tt
where_err (Err e) p = p
