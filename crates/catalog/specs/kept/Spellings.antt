-- What a hasher is given of a name. It decides how fast a name is found, and never which one.
use Rattle.std.specs.Prelude.{ℕ, Bool, ◌+◌, ◌-◌, ◌*◌, ◌%◌, ◌^◌, ◌&&◌, nat_le, bit_or, if◌then◌else◌, List, [], ◌∷◌, length, slice_index}
use Rattle.std.specs.Hash as fed

-- four to eight bytes
abbrev pub is_short : List ℕ → Bool
is_short bytes = nat_le 4 (length bytes) && nat_le (length bytes) 8

-- the four bytes at a place as a number, the first one lowest
unfoldable pub four : List ℕ → ℕ → ℕ
four bytes i = slice_index bytes i + slice_index bytes (i + 1) * 256 + slice_index bytes (i + 2) * 65536 + slice_index bytes (i + 3) * 16777216

-- the bytes as a number, the first one lowest
unfoldable pub packed : List ℕ → ℕ
packed bytes = let last = length bytes - 4 in bit_or (four bytes 0) ((four bytes last * 2 ^ (8 * last)) % 2 ^ 64)

-- the writes to the hasher
unfoldable pub input_of : List ℕ → List (List ℕ)
input_of bytes = if is_short bytes then fed.u64 (packed bytes) else bytes ∷ []
