-- The stop of a start whose words the system does not give.
use Rattle.std.specs.declared.io.ErrorKind.{ErrorKind}
use Rattle.programs.specs.Words.{no_words_by}
use Rattle.programs.specs.declared.words.NoWords.{NoWords}
use Rattle.programs.specs.declared.words.NoWords.TheVariants as none
use Rattle.programs.specs.declared.words_fault.WordsFault.TheVariants.{NotText}
use Rattle.app.specs.declared.complaint.Complaint.TheVariants.{Words}
use Rattle.app.specs.declared.complaint.StartFault.{StartFault}
use Rattle.app.specs.declared.complaint.StartFault.TheVariants as start

-- words that there are not
abbrev pub stop_by : NoWords → StartFault
stop_by none.OutOfMemory = start.OutOfMemory
stop_by none.NotText = start.Refused (Words NotText)

-- words that the system can't give: out of memory is itself, and all else is a word that is no text
abbrev pub no_words_fault : ErrorKind → StartFault
no_words_fault kind = stop_by (no_words_by kind)
