-- Why the words are refused: the fault that the form of the command line, or a range of its numbers, finds in them.
use Rattle.std.specs.Prelude.{◌≡◌, List, true, Option, None, Some, codes, string_bytes}
use Rattle.clap.specs.Words.{Text, fault_of}
use Rattle.programs.specs.Words.{IsFaultAmong}
use Rattle.racer.specs.Arguments.{asked}
use Rattle.racer.specs.CommandLine.{command_line, is_taken, value_of}
use Rattle.racer.specs.Numbers.{looks_of_text, viewers_of_text}
use Rattle.racer.specs.declared.complaint.Complaint.{Complaint}
use Rattle.racer.specs.declared.complaint.Complaint.TheVariants.{Words, Missing, Viewers, Looks}
use Rattle.racer.specs.declared.complaint.Place.{Place}
use Rattle.racer.specs.declared.complaint.Place.TheVariants as place
use Rattle.racer.specs.declared.complaint.StartFault.{StartFault}
use Rattle.racer.specs.declared.complaint.StartFault.TheVariants.{OutOfMemory, Refused}

-- of four words, the one at a place
abbrev pub word_at : (design script viewers looks : Option Text) → Place → Option Text
word_at design script viewers looks place.Design = design
word_at design script viewers looks place.Script = script
word_at design script viewers looks place.Viewers = viewers
word_at design script viewers looks place.Looks = looks

-- the fault of four words, of which `clap` finds some
abbrev pub IsValueFault : (design script viewers looks : Option Text) → Complaint → Type 0
IsValueFault design script viewers looks (Words fault) = ⊥
IsValueFault design script viewers looks (Missing place) = word_at design script viewers looks place ≡ None
IsValueFault design script viewers looks (Viewers value) = (viewers ≡ Some (string_bytes value)) × (viewers_of_text (string_bytes value) ≡ None)
IsValueFault design script viewers looks (Looks value) = (looks ≡ Some (string_bytes value)) × (looks_of_text (string_bytes value) ≡ None)

-- `clap` refuses the words by this fault, or it takes them and a value is missing or out of its range
abbrev pub Explains : List Text → Complaint → Type 0
Explains words (Words fault) = IsFaultAmong (fault_of command_line words) fault
Explains words complaint = (is_taken words ≡ true)
    × IsValueFault (value_of (codes "design") words) (value_of (codes "script") words) (value_of (codes "viewers") words) (value_of (codes "looks") words) complaint

-- why the program does not start with the words: they ask for nothing, by this fault of theirs, or an allocation was refused
abbrev pub StopsBy : List Text → StartFault → Type 0
StopsBy words (Refused complaint) = (asked words ≡ None) × Explains words complaint
StopsBy words OutOfMemory = Unit {0}
