-- What the words of the command line stop a start by.
use Rattle.std.specs.Prelude.{◌≡◌, Option, None}
use Rattle.clap.specs.Words.{Kinds, Text}
use Rattle.programs.specs.Words.{IsFaultAmong}
use Rattle.programs.specs.declared.words.NoWords.{NoWords}
use Rattle.programs.specs.declared.words.NoWords.TheVariants as none
use Rattle.programs.specs.declared.words_fault.WordsFault.TheVariants.{NotText}
use Rattle.racer.specs.Arguments.{arguments_by}
use Rattle.racer.specs.declared.complaint.Complaint.TheVariants.{Words}
use Rattle.racer.specs.declared.complaint.StartFault.{StartFault}
use Rattle.racer.specs.declared.complaint.StartFault.TheVariants.{OutOfMemory, Refused}
use Rattle.racer.specs.Complaints.{IsValueFault}

-- why four words ask for nothing: by this fault of theirs, or an allocation was refused
abbrev pub StopsValues : (design script viewers looks : Option Text) → StartFault → Type 0
StopsValues design script viewers looks (Refused complaint) = (arguments_by design script viewers looks ≡ None) × IsValueFault design script viewers looks complaint
StopsValues design script viewers looks OutOfMemory = Unit {0}

-- words that `clap` refuses by one of these kinds do not start the program
abbrev pub IsRefusedAmong : Kinds → StartFault → Type 0
IsRefusedAmong kinds (Refused (Words fault)) = IsFaultAmong kinds fault
IsRefusedAmong kinds (Refused _) = ⊥
IsRefusedAmong kinds OutOfMemory = Unit {0}

-- words that there are not
abbrev pub stop_by : NoWords → StartFault
stop_by none.OutOfMemory = OutOfMemory
stop_by none.NotText = Refused (Words NotText)
