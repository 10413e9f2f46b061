-- Where the word of a fault lies.
use Rattle.std.specs.Prelude.{◌≡◌, ℕ, List, length}
use Rattle.lexing.specs.Lines.{line_of}
use Rattle.lexing.specs.kept.Texts as texts
use Rattle.vtext.specs.declared.fault.ReadFault.{ReadFault}
use Rattle.vread.specs.declared.detail.FaultWord.{FaultWord}
use Rattle.vread.specs.declared.detail.FaultWord.TheVariants.{Nothing, End, Token}

-- the fault lies on the line of the word
abbrev pub IsOnLine : List ℕ → ReadFault → FaultWord → Type 0
IsOnLine text fault Nothing = Unit {0}
IsOnLine text fault End = fault.line ≡ line_of text (length text)
IsOnLine text fault (Token token) = fault.line ≡ line_of text token.start

-- a token has a byte and lies within a text of this length
abbrev pub IsWordInside : ℕ → FaultWord → Type 0
IsWordInside size (Token token) = texts.IsInside size token
IsWordInside size word = Unit {0}
