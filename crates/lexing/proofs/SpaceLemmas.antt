-- White space in front of bytes.
use Rattle.std.proofs.Common.{◌≡◌, ◌≢◌, ◌-◌, ◌<◌, ◌≤◌, ℕ, zero, suc, List, [], ◌∷◌, Option, None, Some, length, drop, refl, sym, ap, ◌∙◌, arith, unwrap_or}
use Rattle.std.proofs.lemmas.List.Sums.{position_or_len_is}
use Rattle.memchr.specs.Find.{IsFirstByte, is_byte, FindsNeedle}
use Rattle.memchr.proofs.lemmas.ValueLemmas.{FindsNeedle-value}
use Rattle.lexing.proofs.TestLemmas.{false_from}
use Rattle.lexing.specs.Spaces.{line_length, enclosed, enclosed_up_to, white_space, behind, behind_white}
use Rattle.lexing.specs.declared.spaces.White.{White}
use Rattle.lexing.specs.declared.spaces.White.TheVariants as piece

-- the answer of a search for a line feed gives the length of the line
pub first_line_feed : (bytes : List ℕ) (r : Option ℕ) → IsFirstByte (is_byte 10) bytes r → unwrap_or r (length bytes) ≡ line_length bytes
first_line_feed bytes None h =
    sym (position_or_len_is _ bytes (length bytes) 0 (omega arith) (λ k lt. false_from _ (h k (omega arith) lt)) (λ lt. absurd (omega arith)))
first_line_feed bytes (Some place) h =
    sym (position_or_len_is _ bytes place 0 (omega (arith, h.0.high)) (λ k lt. false_from _ (h.0.before k (omega arith) lt)) (λ lt. h.1))

-- the answer of a search for what closes gives the piece of white space
pub closing_place : (bytes closing : List ℕ) (r : Option ℕ) → FindsNeedle bytes closing 0 r → enclosed_up_to r ≡ enclosed bytes closing
closing_place bytes closing r h = ap enclosed_up_to (FindsNeedle-value bytes closing r h)

behind_known : (n : ℕ) (bytes : List ℕ) → behind n bytes ≡ behind_white (drop n bytes)
unfolding behind
behind_known zero bytes = refl
behind_known (suc n) [] = refl
behind_known (suc n) (b ∷ bs) = behind_known n bs

-- what is behind all white space, by the first piece
abbrev pub next_behind : ℕ → List ℕ → White → List ℕ
next_behind b bs piece.Nothing = b ∷ bs
next_behind b bs (piece.Takes n) = behind (n - 1) bs
next_behind b bs piece.Unending = b ∷ bs

pub behind-cons : (b : ℕ) (bs : List ℕ) → behind_white (b ∷ bs) ≡ next_behind b bs (white_space (b ∷ bs))
unfolding behind
behind-cons b bs = refl

-- behind all white space is what is behind it from its second piece on
pub over_white : (bytes : List ℕ) (n : ℕ) → white_space bytes ≡ piece.Takes n → 0 < n → n ≤ length bytes → behind_white (drop n bytes) ≡ behind_white bytes
over_white [] n is some within = absurd (omega arith)
over_white (b ∷ bs) zero is some within = absurd (omega arith)
over_white (b ∷ bs) (suc n) is some within =
    let less : suc n - 1 ≡ n = omega arith in
    let passed : behind_white (b ∷ bs) ≡ behind (suc n - 1) bs = behind-cons b bs ∙ ap (next_behind b bs) is in
    sym (passed ∙ (ap (λ k. behind k bs) less ∙ behind_known n bs))

none_by : (b : ℕ) (bs : List ℕ) (w : White) → ((n : ℕ) → w ≢ piece.Takes n) → next_behind b bs w ≡ b ∷ bs
none_by b bs piece.Nothing h = refl
none_by b bs (piece.Takes n) h = absurd (h n refl)
none_by b bs piece.Unending h = refl

-- where no white space is in front, nothing is passed over
pub none_in_front : (bytes : List ℕ) → ((n : ℕ) → white_space bytes ≢ piece.Takes n) → behind_white bytes ≡ bytes
unfolding behind
none_in_front [] h = refl
none_in_front (b ∷ bs) h = behind-cons b bs ∙ none_by b bs (white_space (b ∷ bs)) h
