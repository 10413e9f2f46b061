-- How the program ends: what it prints, the text on standard error, and the status (own).
use Rattle.std.specs.Prelude.{ℕ, ◌==◌, ◌++◌, Bool, true, false, List, [], codes, decimal, if◌then◌else◌}
use Rattle.programs.specs.Endings.{breakdown_line, design_line}
use Rattle.programs.specs.declared.fault_lines.Breakdown.TheVariants.{OutOfMemory, Write}
use Rattle.racer.specs.declared.race.RaceEnd.{RaceEnd}
use Rattle.racer.specs.declared.race.RaceEnd.TheVariants.{Looks, Script, Design, Memory}

-- `looks N wrong W`
abbrev pub looks_line : (looks wrong : ℕ) → List ℕ
looks_line looks wrong = codes "looks " ++ decimal looks ++ codes " wrong " ++ decimal wrong ++ codes "\n"

-- `script line L`
abbrev pub script_line : ℕ → List ℕ
script_line line = codes "script line " ++ decimal line ++ codes "\n"

-- what is printed
abbrev pub output_text : RaceEnd → List ℕ
output_text (Looks tally) = looks_line tally.looks tally.wrong
output_text _ = []

-- what is said of it on standard error
abbrev pub fault_text : RaceEnd → List ℕ
fault_text (Looks tally) = []
fault_text (Script line) = script_line line
fault_text (Design fault) = design_line fault
fault_text Memory = breakdown_line OutOfMemory

abbrev pub end_status : RaceEnd → ℕ
end_status (Looks tally) = if tally.wrong == 0 then 0 else 1
end_status (Script line) = 1
end_status (Design fault) = 1
end_status Memory = 3

-- the same where the output may have failed, which is the end then
abbrev pub last_words : Bool → RaceEnd → List ℕ
last_words true end = breakdown_line Write
last_words false end = fault_text end

abbrev pub status_by : Bool → RaceEnd → ℕ
status_by true end = 3
status_by false end = end_status end
