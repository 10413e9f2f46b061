-- The words of a line, and what they write (own).
use Rattle.std.specs.Prelude.{Bool, true, false, ℕ, ◌+◌, ◌-◌, ◌*◌, ◌^◌, ◌==◌, ◌&&◌, ◌||◌, nat_le, nat_eq, min, if◌then◌else◌, List, [], ◌∷◌, Option, None, Some, option_map, option_and_then}
use Rattle.std.specs.List.{filter, fold, list_all, slice_split}
use Rattle.std.specs.Cmp.Lexicographic.{pointwise}
use Rattle.fourstate.specs.declared.value.Value.{Value}
use Rattle.fourstate.specs.Values.{value_of_symbol}

-- two words are the same
abbrev pub same_word : List ℕ → List ℕ → Bool
same_word a b = pointwise nat_eq a b

-- a blank or a tab
abbrev pub is_blank : ℕ → Bool
is_blank byte = byte == 32 || byte == 9

-- a byte that a line may hold: a tab, or 32 to 126
abbrev pub is_plain : ℕ → Bool
is_plain byte = byte == 9 || (nat_le 32 byte && nat_le byte 126)

abbrev pub has_bytes : List ℕ → Bool
has_bytes [] = false
has_bytes (byte ∷ bytes) = true

-- the words: what stands between blanks and is not empty
abbrev pub words : List ℕ → List (List ℕ)
words line = filter has_bytes (slice_split is_blank line)

-- a word begins with the sign of a comment
abbrev pub begins_comment : List ℕ → Bool
begins_comment [] = false
begins_comment (byte ∷ bytes) = byte == 35

-- there are no words, or the first one begins a comment
abbrev pub are_skipped : List (List ℕ) → Bool
are_skipped [] = true
are_skipped (word ∷ rest) = begins_comment word

-- exactly so many words
abbrev pub no_words : List (List ℕ) → Bool
no_words [] = true
no_words (word ∷ rest) = false

abbrev pub one_word : List (List ℕ) → Option (List ℕ)
one_word (a ∷ []) = Some a
one_word _ = None

abbrev pub two_words : List (List ℕ) → Option (List ℕ × List ℕ)
two_words (a ∷ b ∷ []) = Some (a, b)
two_words _ = None

abbrev pub three_words : List (List ℕ) → Option (List ℕ × List ℕ × List ℕ)
three_words (a ∷ b ∷ c ∷ []) = Some (a, b, c)
three_words _ = None

abbrev pub four_words : List (List ℕ) → Option (List ℕ × List ℕ × List ℕ × List ℕ)
four_words (a ∷ b ∷ c ∷ d ∷ []) = Some (a, b, c, d)
four_words _ = None

-- Numbers.

abbrev pub is_digit : ℕ → Bool
is_digit byte = nat_le 48 byte && nat_le byte 57

-- the number that decimal digits write
abbrev pub decimal_value : List ℕ → ℕ
decimal_value digits = fold (λ n digit. 10 * n + (digit - 48)) 0 digits

-- a number that a word of digits writes; one above 2^64 - 1 counts as that
abbrev pub number_of : List ℕ → Option ℕ
number_of word = if has_bytes word && list_all is_digit word then Some (min (decimal_value word) (2 ^ 64 - 1)) else None

-- the sign between a fall and a turn-off delay
abbrev pub is_slash : ℕ → Bool
is_slash byte = byte == 47

-- the value that a word of one byte writes
abbrev pub value_of : List ℕ → Option Value
value_of (byte ∷ []) = value_of_symbol byte
value_of _ = None

-- a name and a moment
abbrev pub name_and_time : List (List ℕ) → Option (List ℕ × ℕ)
name_and_time ws = option_and_then (λ w. option_map (λ time. (w.0, time)) (number_of w.1)) (two_words ws)
