-- The second line about a refused design text (own): `  word WORD, column C`, and what else the fault names behind it.
use Rattle.std.specs.Prelude.{◌≡◌, true, ℕ, ◌++◌, List, [], Option, None, Some, IfSome, IsErrAnd, Result, codes, decimal, slice_index}
use Rattle.lexing.specs.Columns.{column_of}
use Rattle.lexing.specs.Shown.{shown_bytes}
use Rattle.lexing.specs.declared.token.Shape.{Shape}
use Rattle.lexing.specs.declared.token.Shape.TheVariants as shape
use Rattle.lexing.specs.declared.token.Token as tokens
use Rattle.session.specs.declared.SessionFault.{SessionFault}
use Rattle.session.specs.declared.SessionFault.TheVariants.{Design}
use Rattle.vread.specs.declared.detail.FaultDetail.{FaultDetail}
use Rattle.vread.specs.declared.detail.FaultWord.{FaultWord}
use Rattle.vread.specs.declared.detail.FaultWord.TheVariants.{Nothing, End, Token}
use Rattle.vread.specs.Details.{IsFaultDetail}
use Rattle.app.specs.declared.program.Program.{Program}
use Rattle.app.specs.Programs.{is_tool}

-- a token as it is shown; a byte that no text may hold by its number
abbrev pub text_by : Shape → List ℕ → tokens.Token → List ℕ
text_by shape.Stray text token = codes "byte " ++ decimal (slice_index text token.start)
text_by kind text token = codes "word " ++ shown_bytes text token

abbrev pub token_text : List ℕ → tokens.Token → List ℕ
token_text text token = text_by token.shape text token

abbrev pub token_line : List ℕ → tokens.Token → List ℕ → List ℕ
token_line text token party =
    codes "  " ++ token_text text token ++ codes ", column " ++ decimal (column_of text token.start) ++ party ++ codes "\n"

-- nothing is said where no word is at fault
abbrev pub word_line : List ℕ → FaultWord → List ℕ → List ℕ
word_line text Nothing party = []
word_line text End party = codes "  the text ends\n"
word_line text (Token token) party = token_line text token party

abbrev pub fault_line : List ℕ → FaultDetail → List ℕ
fault_line text detail = word_line text detail.word detail.party.items

-- the line, where there is one
abbrev pub second_line : List ℕ → Option FaultDetail → List ℕ
second_line text None = []
second_line text (Some detail) = fault_line text detail

-- a design text is refused
abbrev pub IsDesignFault : SessionFault → Type 0
IsDesignFault (Design fault) = Unit {0}
IsDesignFault fault = ⊥

-- What is said of a refused text beside its line: only to tools, and what the text's fault is told by. There may be none, since it
-- takes memory.
pub record IsTold (program : Program) (default : Option ℕ) (text : List ℕ) (outcome : Result (Unit {0}) SessionFault) (detail : FaultDetail) : Type 0 where
  pub tool : is_tool program ≡ true
  pub refused : IsErrAnd outcome IsDesignFault
  pub fault : IsFaultDetail default text detail

abbrev pub MayBeTold : Program → Option ℕ → List ℕ → Result (Unit {0}) SessionFault → Option FaultDetail → Type 0
MayBeTold program default text outcome detail = IfSome detail (IsTold program default text outcome)
