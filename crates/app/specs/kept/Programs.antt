-- The program of a command line.
use Rattle.std.specs.Prelude.{Bool, ℕ, ◌-◌, ◌||◌, if◌then◌else◌, List, [], ◌∷◌, codes, drop, length, nat_eq}
use Rattle.std.specs.Cmp.Lexicographic.{pointwise}
use Rattle.app.specs.declared.program.Program.{Program}
use Rattle.app.specs.declared.program.Program.TheVariants.{Gatebench, Gatetool}

-- the word is `gatetool`, by itself or behind a slash
abbrev pub is_tool_name : List ℕ → Bool
is_tool_name word = pointwise nat_eq word (codes "gatetool") || pointwise nat_eq (drop (length word - 9) word) (codes "/gatetool")

abbrev pub program_by : List ℕ → Program
program_by word = if is_tool_name word then Gatetool else Gatebench

-- the program of a command line, whose first word is the program's name
abbrev pub program_of : List (List ℕ) → Program
program_of [] = Gatebench
program_of (word ∷ words) = program_by word
