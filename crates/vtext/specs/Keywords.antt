-- The words of Verilog that mean something, and those that are refused (IEEE 1364-2005, annex B; which are refused is own).
use Rattle.std.specs.Prelude.{Bool, ℕ, ◌==◌, ◌||◌, nat_lt, if◌then◌else◌, List, [], ◌∷◌, length, codes}
use Rattle.std.specs.List.{list_any}
use Rattle.std.specs.Option.{option_map_or}
use Rattle.std.specs.Str.{bytes_eq}
use Rattle.fourstate.specs.Keywords.{gate_kind_of, net_kind_of}
use Rattle.vtext.specs.declared.word.Direction.TheVariants.{Input, Output}
use Rattle.vtext.specs.declared.word.Word.{Word}
use Rattle.vtext.specs.declared.word.Word.TheVariants.{Module, Endmodule, PortWord, NetWord, GateWord, Name, Misnamed, Open, Close, Comma, Semicolon, Hash, Dot, Colon, OpenBracket, CloseBracket, Refused, Broken}
use Rattle.design.specs.declared.limits.TheConstants.{MAX_NAME}
use Rattle.vtext.specs.Names.{number_of}

-- the words that are refused
abbrev pub refused_words : List (List ℕ)
refused_words =
    codes "always" ∷ codes "assign" ∷ codes "automatic" ∷ codes "begin" ∷ codes "case" ∷ codes "casex" ∷
    codes "casez" ∷ codes "cmos" ∷ codes "deassign" ∷ codes "default" ∷ codes "defparam" ∷ codes "disable" ∷
    codes "edge" ∷ codes "else" ∷ codes "end" ∷ codes "endcase" ∷ codes "endfunction" ∷ codes "endgenerate" ∷
    codes "endprimitive" ∷ codes "endspecify" ∷ codes "endtable" ∷ codes "endtask" ∷ codes "event" ∷ codes "for" ∷
    codes "force" ∷ codes "forever" ∷ codes "fork" ∷ codes "function" ∷ codes "generate" ∷ codes "genvar" ∷
    codes "if" ∷ codes "initial" ∷ codes "inout" ∷ codes "integer" ∷ codes "join" ∷ codes "large" ∷
    codes "localparam" ∷ codes "macromodule" ∷ codes "medium" ∷ codes "negedge" ∷ codes "nmos" ∷ codes "parameter" ∷
    codes "pmos" ∷ codes "posedge" ∷ codes "primitive" ∷ codes "pull0" ∷ codes "pull1" ∷ codes "pulldown" ∷
    codes "pullup" ∷ codes "rcmos" ∷ codes "real" ∷ codes "realtime" ∷ codes "reg" ∷ codes "release" ∷
    codes "repeat" ∷ codes "rnmos" ∷ codes "rpmos" ∷ codes "rtran" ∷ codes "rtranif0" ∷ codes "rtranif1" ∷
    codes "scalared" ∷ codes "signed" ∷ codes "small" ∷ codes "specify" ∷ codes "specparam" ∷ codes "strong0" ∷
    codes "strong1" ∷ codes "supply0" ∷ codes "supply1" ∷ codes "table" ∷ codes "task" ∷ codes "time" ∷
    codes "tran" ∷ codes "tranif0" ∷ codes "tranif1" ∷ codes "trireg" ∷ codes "unsigned" ∷ codes "uwire" ∷
    codes "vectored" ∷ codes "wait" ∷ codes "weak0" ∷ codes "weak1" ∷ codes "while" ∷ []

-- a word is refused
unfoldable pub is_refused : List ℕ → Bool
is_refused bytes = list_any (bytes_eq bytes) refused_words

-- a dot or an apostrophe
abbrev pub is_bad_byte : ℕ → Bool
is_bad_byte byte = byte == 46 || byte == 39

-- a name is too long, holds a dot or an apostrophe, or is `$end` (own)
abbrev pub is_misnamed : List ℕ → Bool
is_misnamed bytes = nat_lt MAX_NAME (length bytes) || list_any is_bad_byte bytes || bytes_eq bytes (codes "$end")

-- a name, by its number in the table
abbrev pub name_word : List (List ℕ) → List ℕ → Word
name_word names bytes = if is_misnamed bytes then Misnamed else option_map_or Name (number_of names bytes) Misnamed

-- a name that is not escaped, if it is none of the words
abbrev pub unkept_word : List (List ℕ) → List ℕ → Word
unkept_word names bytes = if is_refused bytes then Refused else name_word names bytes

-- letters, digits, underscores and dollar signs: a word, or a name
abbrev pub plain_word : List (List ℕ) → List ℕ → Word
plain_word names bytes =
    if bytes_eq bytes (codes "module") then Module
    else if bytes_eq bytes (codes "endmodule") then Endmodule
    else if bytes_eq bytes (codes "input") then PortWord Input
    else if bytes_eq bytes (codes "output") then PortWord Output
    else option_map_or NetWord (net_kind_of bytes) (option_map_or GateWord (gate_kind_of bytes) (unkept_word names bytes))

-- a byte that is a token by itself; a `\` that begins no name is broken
abbrev pub mark_of : ℕ → Word
mark_of byte =
    if byte == 40 then Open else if byte == 41 then Close else if byte == 44 then Comma else if byte == 59 then Semicolon
    else if byte == 35 then Hash else if byte == 46 then Dot else if byte == 58 then Colon else if byte == 91 then OpenBracket
    else if byte == 93 then CloseBracket else if byte == 92 then Broken else Refused
