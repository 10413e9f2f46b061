-- Functions of time that are read along their changes.
use Rattle.std.specs.Prelude.{ℕ, min, List, [], ◌∷◌}
use Rattle.std.specs.List.{AllZip}
use Rattle.fourstate.specs.declared.value.Value.{Value}
use Rattle.gateline.specs.declared.reader.Reader.{Reader}
pub use Rattle.gateline.specs.kept.Ahead.{GoesOn, next_of, rest_then, value_then}
use Rattle.waveform.specs.declared.times.TheConstants.{TIME_END}

-- what a reader has: its value and the changes that come
abbrev pub seen : Reader → Value × List (ℕ × Value)
seen r = (r.value, r.rest.now)

-- and what it has at t, where no change lies before t
abbrev pub seen_then : ℕ → Reader → Value × List (ℕ × Value)
seen_then t r = (value_then r.value r.rest.now t, rest_then r.rest.now t)

-- each reader has what its function has from m on
abbrev pub StandAt : List (ℕ → Value) → List Reader → ℕ → Type 0
StandAt functions readers m = AllZip (λ f reader. GoesOn f reader.value reader.rest.now m) functions readers

-- the moment of the first change that any reader has before it
abbrev pub next_among : List Reader → ℕ
next_among [] = TIME_END
next_among (r ∷ rs) = min (next_of r.rest.now) (next_among rs)
