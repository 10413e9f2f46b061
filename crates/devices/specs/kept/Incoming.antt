-- What a reader keeps of the text that its device gives, and what one read makes of it.
use Rattle.std.specs.Prelude.{◌≡◌, ℕ, ◌+◌, ◌≤◌, List, [], ◌∷◌, ◌++◌, Option, None, Some, length, take}
use Rattle.std.specs.List.{concat}
use Rattle.devices.specs.Incoming.{IsAllOf}

-- which reference leads to the device, what it had to give and what its takes had brought before, how often it has failed by now, and
-- the pieces that came since
pub record Incoming : Type 0 where
  pub loan : ℕ
  pub before : Option (List ℕ)
  pub taken_before : List (List ℕ)
  pub failures : ℕ
  pub pieces : List (List ℕ)

-- the text so far
abbrev pub text_of : Incoming → List ℕ
text_of r = concat r.pieces

-- The first n bytes of the buffer came as one piece, and n is 0 only where all was read. Or the device failed, and nothing came.
abbrev pub Reads : Incoming → Incoming → List ℕ → Option ℕ → Type 0
Reads old new buffer None = new ≡ record old { failures = old.failures + 1 }
Reads old new buffer (Some n) =
    (n ≤ length buffer) × (new ≡ record old { pieces = old.pieces ++ take n buffer ∷ [] }) × (n ≡ 0 → IsAllOf new.before (text_of new))
