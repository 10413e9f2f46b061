-- The fault of the form of words, as the library that reads them has it.
use Rattle.std.specs.Prelude.{None, Option, Some}
use Rattle.programs.specs.declared.words_fault.WordsFault.{WordsFault}
use Rattle.app.specs.declared.complaint.Complaint.{Complaint}
use Rattle.app.specs.declared.complaint.Complaint.TheVariants.{Words}

-- the fault of the words' form, if it is that
abbrev pub form_fault : Complaint → Option WordsFault
form_fault (Words fault) = Some fault
form_fault _ = None
