-- What a commit asks of a stepper.
use Rattle.std.proofs.Common.{ℕ, List, [], Result, Ok, Err, refl, sym}
use Rattle.std.proofs.lemmas.List.{append-nil}
use Rattle.std.proofs.lemmas.List.Sorted.{IsPermutation-refl}
use Rattle.gatestep.specs.Step.{Evaluation}
use Rattle.design.specs.Netlist.{Netlist}
use Rattle.edits.specs.declared.fault.EditFault.{EditFault}
use Rattle.bench.specs.Work.{AskedByRefused, rework_of}

-- a commit that is refused before the stepper is asked
pub asked_nothing : (old : Netlist) (made : Result Netlist (ℕ × EditFault)) (asked : List (Evaluation × ℕ)) → AskedByRefused old made asked asked
asked_nothing old (Ok next) asked = ([], (rework_of old next, IsPermutation-refl (rework_of old next)), sym (append-nil asked))
asked_nothing old (Err refused) asked = refl
