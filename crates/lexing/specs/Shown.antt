-- The bytes by which a token is shown to a person (own).
use Rattle.std.specs.Prelude.{ℕ, List, take}
use Rattle.lexing.specs.Texts.{bytes_of}
use Rattle.lexing.specs.declared.token.Shape.{Shape}
use Rattle.lexing.specs.declared.token.Shape.TheVariants as shape
use Rattle.lexing.specs.declared.token.Token.{Token}

-- all that it has, but of a comment or an attribute that doesn't end the first two, and of a directive its word
abbrev pub shown_by : Shape → List ℕ → List ℕ
shown_by shape.Unending bytes = take 2 bytes
shown_by shape.Timescale bytes = take 10 bytes
shown_by kind bytes = bytes

abbrev pub shown_bytes : List ℕ → Token → List ℕ
shown_bytes text token = shown_by token.shape (bytes_of text token)
