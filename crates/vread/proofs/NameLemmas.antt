-- Names of a text that a design may have.
use Rattle.std.proofs.Common.{ℕ, ◌≤◌, List, [], ◌∷◌, All, arith}
use Rattle.std.specs.Str.{IsUtf8, IsAscii}
use Rattle.std.proofs.lemmas.List.Elements.{All-head, All-tail}
use Rattle.std.proofs.lemmas.Str.{IsUtf8-from_ascii}
use Rattle.std.proofs.lemmas.Str.Ascii.{IsAscii-nil, IsAscii-cons}

printed_is_ascii : (bytes : List ℕ) → All (λ byte. (33 ≤ byte) × (byte ≤ 126)) bytes → IsAscii bytes
printed_is_ascii [] h = IsAscii-nil
printed_is_ascii (byte ∷ bytes) h =
    let first = All-head (λ b. (33 ≤ b) × (b ≤ 126)) byte bytes h in
    IsAscii-cons byte bytes (omega arith) (printed_is_ascii bytes (All-tail (λ b. (33 ≤ b) × (b ≤ 126)) byte bytes h))

-- printable bytes are text
pub printed_is_text : (bytes : List ℕ) → All (λ byte. (33 ≤ byte) × (byte ≤ 126)) bytes → IsUtf8 bytes
printed_is_text bytes h = IsUtf8-from_ascii bytes (printed_is_ascii bytes h)
