-- Which program this is, by the word that it is started by, the first of the command line (own).
use Rattle.std.specs.Prelude.{Bool, true, false, ℕ, List, codes}
use Rattle.app.specs.declared.program.Program.{Program}
use Rattle.app.specs.declared.program.Program.TheVariants.{Gatebench, Gatetool}

abbrev pub program_name : Program → List ℕ
program_name Gatebench = codes "gatebench"
program_name Gatetool = codes "gatetool"

-- the questions of tools are known
abbrev pub is_tool : Program → Bool
is_tool Gatebench = false
is_tool Gatetool = true
