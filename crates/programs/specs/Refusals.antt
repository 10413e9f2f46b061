-- The lines that say what is wrong with the words (own, in the manner of `clap`).
use Rattle.std.specs.Prelude.{ℕ, ◌++◌, List, [], codes, decimal, string_bytes}
use Rattle.programs.specs.declared.words_fault.WordsFault.{WordsFault}
use Rattle.programs.specs.declared.words_fault.WordsFault.TheVariants.{Help, Version, NotText, Form}

abbrev pub words_lines : WordsFault → List ℕ
words_lines Help = []
words_lines Version = []
words_lines NotText = codes "error: invalid UTF-8 was detected in one or more arguments\n\n"
words_lines (Form k lines) = string_bytes lines ++ codes "\n\n"

-- which words are missing, each with a line
abbrev pub missing_lines : List ℕ → List ℕ
missing_lines lines = codes "error: the following required arguments were not provided:\n" ++ lines ++ codes "\n"

-- which value of an argument is at fault
abbrev pub value_line : (value argument : List ℕ) → List ℕ
value_line value argument = codes "error: invalid value '" ++ value ++ codes "' for '" ++ argument ++ codes "'\n"

-- the numbers that are wanted
abbrev pub range_line : (least most : ℕ) → List ℕ
range_line least most = codes "  [possible values: " ++ decimal least ++ codes " to " ++ decimal most ++ codes ", in digits alone]\n\n"
