-- What is behind a directive is shorter.
use Rattle.std.proofs.Common.{◌≡◌, ◌-◌, ◌<◌, ◌≤◌, ℕ, zero, suc, Bool, true, false, cond, List, [], ◌∷◌, None, Some, length, drop, refl, ap, arith, length-drop, nat_lt, ◌&&◌}
use Rattle.std.proofs.lemmas.Bool.{ltb-true, and_parts}
use Rattle.lexing.proofs.SpaceLemmas.{next_behind}
use Rattle.lexing.specs.Directives.{directive, literals, literal, precision, magnitude, unit, then_read, Reading, begins_with, word_of, magnitudes, units}
use Rattle.lexing.specs.Spaces.{white_space, behind, behind_white}
use Rattle.lexing.specs.declared.spaces.White.{White}
use Rattle.lexing.specs.declared.spaces.White.TheVariants as piece

-- fewer than n bytes are behind what is read
pub record IsShorter {A : Type 0} (read : Reading A) (n : ℕ) : Type 0 where
  pub rest : (value : A) (rest : List ℕ) → read ≡ Some (value, rest) → length rest < n

abbrev left_of : {A : Type 0} → Reading A → ℕ
left_of None = 0
left_of (Some part) = length part.1

shorter_none : {A : Type 0} (n : ℕ) → IsShorter {A = A} None n
shorter_none n = record { rest = λ value rest e. cc }

shorter_some : {A : Type 0} (value : A) (rest : List ℕ) (n : ℕ) → length rest < n → IsShorter (Some (value, rest)) n
shorter_some value rest n less = record { rest = λ other more e. let same = ap left_of e in omega (arith, same) }

shorter_if : {A : Type 0} (test : Bool) (value : A) (rest : List ℕ) (other : Reading A) (n : ℕ) → length rest < n → IsShorter other n →
    IsShorter (cond test (Some (value, rest)) other) n
shorter_if true value rest other n less h = shorter_some value rest n less
shorter_if false value rest other n less h = h

shorter_then : {A B : Type 0} (read : Reading A) (next : A → List ℕ → Reading B) (m n : ℕ) → IsShorter read m →
    ((value : A) (rest : List ℕ) → length rest < m → IsShorter (next value rest) n) → IsShorter (then_read read next) n
shorter_then None next m n first h = shorter_none n
shorter_then (Some part) next m n first h = h part.0 part.1 (first.rest part.0 part.1 refl)

behind_next : (b : ℕ) (bs : List ℕ) (w : White) → ((k : ℕ) → length (behind k bs) ≤ length bs) → length (next_behind b bs w) ≤ length (b ∷ bs)
behind_next b bs piece.Nothing h = omega arith
behind_next b bs (piece.Takes n) h = let le = h (n - 1) in omega (arith, le)
behind_next b bs piece.Unending h = omega arith

behind_length : (known : ℕ) (bytes : List ℕ) → length (behind known bytes) ≤ length bytes
unfolding behind
behind_length known [] = omega arith
behind_length (suc known) (b ∷ bs) = let le = behind_length known bs in omega (arith, le)
behind_length zero (b ∷ bs) = behind_next b bs (white_space (b ∷ bs)) (λ k. behind_length k bs)

-- each word has a byte
abbrev are_words : {A : Type 0} → List (List ℕ × A) → Bool
are_words [] = true
are_words (word ∷ words) = nat_lt 0 (length word.0) && are_words words

word_shorter : {A : Type 0} (words : List (List ℕ × A)) (bytes : List ℕ) → are_words words ≡ true → 0 < length bytes →
    IsShorter (word_of words bytes) (length bytes)
word_shorter [] bytes h some = shorter_none (length bytes)
word_shorter (word ∷ words) bytes h some =
    let parts = and_parts (nat_lt 0 (length word.0)) (are_words words) h in
    let word_some : 0 < length word.0 = ltb-true _ _ parts.0 in
    shorter_if (begins_with word.0 bytes) word.1 (drop (length word.0) bytes) (word_of words bytes) (length bytes)
    (omega (arith, length-drop (length word.0) bytes)) (word_shorter words bytes parts.1 some)

magnitude_shorter : (bytes : List ℕ) → IsShorter (magnitude bytes) (length bytes)
unfolding magnitude
magnitude_shorter [] = shorter_none 0
magnitude_shorter (b ∷ bs) = word_shorter magnitudes (b ∷ bs) refl (omega arith)

unit_shorter : (bytes : List ℕ) → IsShorter (unit bytes) (length bytes)
unfolding unit
unit_shorter [] = shorter_none 0
unit_shorter (b ∷ bs) = word_shorter units (b ∷ bs) refl (omega arith)

literal_shorter : (bytes : List ℕ) → IsShorter (literal bytes) (length bytes)
unfolding literal
literal_shorter bytes =
    shorter_then _ _ (length (behind_white bytes)) _ (magnitude_shorter (behind_white bytes)) (λ magnitude rest less.
    shorter_then _ _ (length (behind_white rest)) _ (unit_shorter (behind_white rest)) (λ unit more fewer.
    shorter_some _ more _ (omega (arith, less, fewer, behind_length 0 bytes, behind_length 0 rest))))

-- a reading that is shorter by what is passed over in front
shorter_by : {A : Type 0} (read : Reading A) (m n : ℕ) → m ≤ n → IsShorter read m → IsShorter read n
shorter_by read m n le h = record { rest = λ value rest e. let less = h.rest value rest e in omega (arith, less) }

shorter_test : {A : Type 0} (test : Bool) (read : Reading A) (n : ℕ) → IsShorter read n → IsShorter (cond test read None) n
shorter_test true read n h = h
shorter_test false read n h = shorter_none n

precision_shorter : (bytes : List ℕ) → IsShorter (precision bytes) (length bytes)
unfolding precision
precision_shorter bytes =
    shorter_test _ _ _ (shorter_by _ (length (drop 1 (behind_white bytes))) _ (omega (arith, length-drop 1 (behind_white bytes), behind_length 0 bytes))
    (literal_shorter (drop 1 (behind_white bytes))))

literals_shorter : (bytes : List ℕ) → IsShorter (literals bytes) (length bytes)
unfolding literals
literals_shorter bytes =
    shorter_then _ _ (length bytes) _ (literal_shorter bytes) (λ unit rest less.
    shorter_then _ _ (length rest) _ (precision_shorter rest) (λ precision more fewer. shorter_some _ more _ (omega (arith, less, fewer))))

-- a directive has at least ten bytes, its word
pub directive_shorter : (bytes : List ℕ) → IsShorter (directive bytes) (length bytes - 9)
unfolding directive
directive_shorter bytes =
    shorter_test _ _ _ (shorter_by _ (length (drop 10 bytes)) _ (omega (arith, length-drop 10 bytes)) (literals_shorter (drop 10 bytes)))
