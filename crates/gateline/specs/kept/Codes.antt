-- The numbers of the values of inputs.
use Rattle.std.specs.Prelude.{ℕ, ◌+◌, ◌*◌, List, [], ◌∷◌}
use Rattle.fourstate.specs.declared.value.Value.{Value}
pub use Rattle.waveform.specs.kept.Digits.{digit_of, value_of_digit}

-- the number of some values: it begins with a 1, so that so many values more have another one
abbrev pub code_of : List Value → ℕ
code_of [] = 1
code_of (v ∷ values) = code_of values * 4 + digit_of v
