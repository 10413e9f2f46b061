-- Why a session did not open, or broke off: numbers.
use Rattle.std.specs.Prelude.{ℕ}
use Rattle.session.specs.declared.fault.SessionFault.{SessionFault}
use Rattle.session.specs.declared.fault.SessionFault.TheVariants.{Design, Edit, OutOfMemory, WorkerLost, Read, Write}

abbrev pub fault_number : SessionFault → ℕ
fault_number (Design _) = 1
fault_number (Edit _) = 2
fault_number OutOfMemory = 3
fault_number WorkerLost = 4
fault_number Read = 5
fault_number Write = 6
