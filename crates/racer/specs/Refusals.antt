-- The lines that say what is wrong with the words (own, in the manner of `clap`).
use Rattle.std.specs.Prelude.{ℕ, ◌++◌, List, codes, string_bytes}
use Rattle.programs.specs.Refusals.{missing_lines, range_line, value_line, words_lines}
use Rattle.racer.specs.declared.complaint.Complaint.{Complaint}
use Rattle.racer.specs.declared.complaint.Complaint.TheVariants.{Words, Missing, Viewers, Looks}
use Rattle.racer.specs.declared.complaint.Place.{Place}
use Rattle.racer.specs.declared.complaint.Place.TheVariants as place
use Rattle.racer.specs.declared.help.TheConstants.{HELP}

-- a word and those behind it, each with a line
abbrev pub missing_words : Place → List ℕ
missing_words place.Design = codes "  <DESIGN>\n  <SCRIPT>\n  <VIEWERS>\n  <LOOKS>\n"
missing_words place.Script = codes "  <SCRIPT>\n  <VIEWERS>\n  <LOOKS>\n"
missing_words place.Viewers = codes "  <VIEWERS>\n  <LOOKS>\n"
missing_words place.Looks = codes "  <LOOKS>\n"

abbrev pub complaint_lines : Complaint → List ℕ
complaint_lines (Words fault) = words_lines fault
complaint_lines (Missing place) = missing_lines (missing_words place)
complaint_lines (Viewers value) = value_line (string_bytes value) (codes "<VIEWERS>") ++ range_line 1 64
complaint_lines (Looks value) = value_line (string_bytes value) (codes "<LOOKS>") ++ range_line 1 1000000

-- what is wrong with the words, and then how to use the program
unfoldable pub refusal_text : Complaint → List ℕ
refusal_text complaint = complaint_lines complaint ++ HELP.now
