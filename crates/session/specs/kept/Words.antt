-- Texts that begin with a blank.
use Rattle.std.specs.Prelude.{Bool, false, ℕ, List, [], ◌∷◌}
use Rattle.session.specs.Words.{is_blank}

-- a text begins with a blank
abbrev pub begins_blank : List ℕ → Bool
begins_blank [] = false
begins_blank (byte ∷ bytes) = is_blank byte
