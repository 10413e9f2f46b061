-- The lines that say what is wrong with the words (own, in the manner of `clap`).
use Rattle.std.specs.Prelude.{ℕ, ◌++◌, List, codes, string_bytes}
use Rattle.fourstate.specs.declared.limits.TheConstants.{MAX_DELAY, MAX_TIME}
use Rattle.programs.specs.Refusals.{missing_lines, range_line, value_line, words_lines}
use Rattle.app.specs.declared.complaint.Complaint.{Complaint}
use Rattle.app.specs.declared.complaint.Complaint.TheVariants.{Words, NoDesign, Horizon, Workers, Delay}
use Rattle.app.specs.declared.help.TheConstants.{ENDING, EXPLANATION, USAGE}
use Rattle.app.specs.declared.program.Program.{Program}
use Rattle.app.specs.Programs.{program_name}

abbrev pub complaint_lines : Complaint → List ℕ
complaint_lines (Words fault) = words_lines fault
complaint_lines NoDesign = missing_lines (codes "  <DESIGN>\n")
complaint_lines (Horizon value) = value_line (string_bytes value) (codes "--horizon <H>") ++ range_line 0 MAX_TIME
complaint_lines (Workers value) = value_line (string_bytes value) (codes "--workers <N>") ++ range_line 1 64
complaint_lines (Delay value) = value_line (string_bytes value) (codes "--delay <D>") ++ range_line 1 MAX_DELAY

-- how to use the program
unfoldable pub help_text : Program → List ℕ
help_text program = USAGE.now ++ program_name program ++ EXPLANATION.now ++ program_name program ++ ENDING.now

-- what is wrong with the words, and then how to use the program
unfoldable pub refusal_text : Program → Complaint → List ℕ
refusal_text program complaint = complaint_lines complaint ++ help_text program
