-- How the program ends: the text on standard error, and the status (own).
use Rattle.std.specs.Prelude.{ℕ, ◌++◌, List, [], Result, Ok, Err, codes, decimal}
use Rattle.edits.specs.EditFaults.{fault_code, fault_name}
use Rattle.edits.specs.declared.fault.EditFault.{EditFault}
use Rattle.programs.specs.Endings.{breakdown_line, design_line}
use Rattle.programs.specs.declared.fault_lines.Breakdown.TheVariants as breakdown
use Rattle.session.specs.declared.SessionFault.{SessionFault}
use Rattle.session.specs.declared.SessionFault.TheVariants.{Design, Edit, OutOfMemory, WorkerLost, Read, Write}

-- `horizon: C NAME`
abbrev pub edit_line : EditFault → List ℕ
edit_line fault = codes "horizon: " ++ decimal (fault_code fault) ++ codes " " ++ fault_name fault ++ codes "\n"

abbrev pub fault_line : SessionFault → List ℕ
fault_line (Design fault) = design_line fault
fault_line (Edit fault) = edit_line fault
fault_line OutOfMemory = breakdown_line breakdown.OutOfMemory
fault_line WorkerLost = codes "worker lost\n"
fault_line Read = breakdown_line breakdown.Read
fault_line Write = breakdown_line breakdown.Write

abbrev pub fault_status : SessionFault → ℕ
fault_status (Design fault) = 1
fault_status (Edit fault) = 2
fault_status _ = 3

-- the text of an end, and its status
abbrev pub ending_text : Result (Unit {0}) SessionFault → List ℕ
ending_text (Ok _) = []
ending_text (Err fault) = fault_line fault

abbrev pub ending_status : Result (Unit {0}) SessionFault → ℕ
ending_status (Ok _) = 0
ending_status (Err fault) = fault_status fault
