-- What the words of the command line stop a start by.
use Rattle.std.specs.Prelude.{◌≡◌, List, None}
use Rattle.clap.specs.Words.{Text}
use Rattle.app.specs.Arguments.{asked}
use Rattle.app.specs.declared.complaint.StartFault.{StartFault}
use Rattle.app.specs.declared.complaint.StartFault.TheVariants.{OutOfMemory, Refused}
use Rattle.app.specs.Complaints.{Explains}

-- why the program does not start with the words: they ask for nothing, by this fault of theirs, or an allocation was refused
abbrev pub StopsBy : List Text → StartFault → Type 0
StopsBy words (Refused complaint) = (asked words ≡ None) × Explains words complaint
StopsBy words OutOfMemory = Unit {0}
