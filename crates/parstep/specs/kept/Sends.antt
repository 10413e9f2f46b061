-- Why a message could not be sent.
use Rattle.crossbeam_channel.specs.declared.err.SendError.{SendError}
use Rattle.crossbeam_channel.specs.declared.err.SendError.TheVariants.{Disconnected, OutOfMemory}
use Rattle.gatestep.specs.declared.fault.StepFault.{StepFault}
use Rattle.gatestep.specs.declared.fault.StepFault.TheVariants as fault

-- a closed channel is a lost worker; all else is a refused allocation
abbrev pub send_fault : {T : Type 0} → SendError T → StepFault
send_fault (Disconnected message) = fault.WorkerLost
send_fault (OutOfMemory message) = fault.OutOfMemory
