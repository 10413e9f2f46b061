-- Why the words are refused: the fault that the form of the command line, or a range of its numbers, finds in them.
use Rattle.std.specs.Prelude.{◌≡◌, List, true, Option, None, Some, codes, string_bytes}
use Rattle.clap.specs.Words.{Text, fault_of}
use Rattle.programs.specs.Words.{IsFaultAmong}
use Rattle.app.specs.CommandLine.{command_line, is_taken, value_of}
use Rattle.app.specs.Numbers.{delay_of_text, horizon_of_text, workers_of_text}
use Rattle.app.specs.declared.complaint.Complaint.{Complaint}
use Rattle.app.specs.declared.complaint.Complaint.TheVariants.{Words, NoDesign, Horizon, Workers, Delay}

-- the fault of words that are of the form, by what they give for DESIGN, H, N and D
abbrev pub IsValueFault : (design horizon workers delay : Option Text) → Complaint → Type 0
IsValueFault design horizon workers delay NoDesign = design ≡ None
IsValueFault design horizon workers delay (Horizon value) = (horizon ≡ Some (string_bytes value)) × (horizon_of_text (string_bytes value) ≡ None)
IsValueFault design horizon workers delay (Workers value) = (workers ≡ Some (string_bytes value)) × (workers_of_text (string_bytes value) ≡ None)
IsValueFault design horizon workers delay (Delay value) = (delay ≡ Some (string_bytes value)) × (delay_of_text (string_bytes value) ≡ None)
IsValueFault design horizon workers delay _ = ⊥

-- `clap` refuses the words by this fault, or it takes them and a value is missing or out of its range
abbrev pub Explains : List Text → Complaint → Type 0
Explains words (Words fault) = IsFaultAmong (fault_of command_line words) fault
Explains words complaint = (is_taken words ≡ true)
    × IsValueFault (value_of (codes "design") words) (value_of (codes "horizon") words) (value_of (codes "workers") words) (value_of (codes "delay") words) complaint
