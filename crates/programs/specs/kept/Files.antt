-- What one piece of a reader adds to a text.
use Rattle.std.specs.Prelude.{◌≡◌, ℕ, ◌++◌, List, Option, length}
use Rattle.std.specs.Io.KnownBytes.{Consumes, IsAtEnd}

-- the text grew by n bytes, which the reader has no longer, and by none only where it had none left
pub record TakesIn (before after : Option (List ℕ)) (text text' : List ℕ) (n : ℕ) : Type 0 where
  pub more : List ℕ
  pub grown : text' ≡ text ++ more
  pub counted : length more ≡ n
  pub gone : Consumes before after more
  pub end : n ≡ 0 → IsAtEnd after
