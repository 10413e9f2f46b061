-- Words and numbers, a byte at a time.
use Rattle.std.proofs.Common.{◌≡◌, ℕ, ◌+◌, ◌-◌, ◌*◌, ◌<◌, List, [], ◌∷◌, length, take, drop, get_or, min, Bool, true, false, ◌&&◌, not, nat_lt, unwrap_or, position, refl, sym, ap, ◌∙◌, arith, zero, suc}
use Rattle.std.proofs.lemmas.Bool.{ltb-false}
use Rattle.std.proofs.lemmas.List.{take_more}
use Rattle.std.proofs.lemmas.List.Sums.{fold-append, prefix_len-le-length}
use Rattle.std.proofs.lemmas.List.Splits.{slice_split-cons_yes, slice_split-cons_no}
use Rattle.std.proofs.lemmas.Bool.Decides.{nat_tests}
use Rattle.std.proofs.lemmas.Str.{IsUtf8-from_ascii}
use Rattle.std.proofs.lemmas.Str.Ascii.{IsAscii-nil, IsAscii-cons}
use Rattle.std.specs.Str.{IsUtf8, IsAscii}
use Rattle.std.specs.List.{filter, list_all, slice_split, onto_first, position_or_len}
use Rattle.session.specs.Words.{is_blank, is_plain, has_bytes, words, decimal_value}
use Rattle.session.specs.kept.Words.{begins_blank}

pub and_true : (a b : Bool) → (a && b) ≡ true → (a ≡ true) × (b ≡ true)
and_true true b e = (refl, e)
and_true false b e = (e, absurd (cc))

-- a number with a digit more
pub value_with_digit : (digits : List ℕ) (i : ℕ) (n most : ℕ) → i < length digits → n ≡ min (decimal_value (take i digits)) most
    → min (10 * n + (get_or digits i 0 - 48)) most ≡ min (decimal_value (take (i + 1) digits)) most
value_with_digit digits i n most h e =
    let more : decimal_value (take (i + 1) digits) ≡ 10 * decimal_value (take i digits) + (get_or digits i 0 - 48) =
    ap decimal_value (take_more digits i 0 h) ∙ fold-append (λ n digit. 10 * n + (digit - 48)) 0 (take i digits) (get_or digits i 0 ∷ []) in
    let v : ℕ = decimal_value (take i digits) in
    rw more (omega (arith, e))

-- a blank in front is no word
pub words_past_blank : (byte : ℕ) (bytes : List ℕ) → is_blank byte ≡ true → words (byte ∷ bytes) ≡ words bytes
words_past_blank byte bytes e = ap (filter has_bytes) (slice_split-cons_yes is_blank byte bytes e)

-- a text's parts between blanks: the bytes before the first blank, and others, whose words are those of the rest
pub record StartsWithPart (text : List ℕ) (parts : List (List ℕ)) : Type 0 where
  pub others : List (List ℕ)
  pub first : parts ≡ take (position_or_len is_blank text) text ∷ others
  pub words_of : filter has_bytes others ≡ words (drop (position_or_len is_blank text) text)

part_more : (byte : ℕ) (bytes : List ℕ) (b : Bool) → is_blank byte ≡ b → StartsWithPart bytes (slice_split is_blank bytes) → StartsWithPart (byte ∷ bytes) (slice_split is_blank (byte ∷ bytes))
part_more byte bytes true e was =
    let none : position_or_len is_blank (byte ∷ bytes) ≡ 0 = rw e refl in
    record {
      others = slice_split is_blank bytes;
      first = slice_split-cons_yes is_blank byte bytes e ∙ ap (λ n. take n (byte ∷ bytes) ∷ slice_split is_blank bytes) (sym none);
      words_of = sym (words_past_blank byte bytes e) ∙ ap (λ n. words (drop n (byte ∷ bytes))) (sym none);
    }
part_more byte bytes false e was =
    let n = position_or_len is_blank bytes in
    let one : position_or_len is_blank (byte ∷ bytes) ≡ suc n = rw e (omega arith) in
    record {
      others = was.others;
      first = slice_split-cons_no is_blank byte bytes e ∙ ap (onto_first byte) was.first ∙ ap (λ k. take k (byte ∷ bytes) ∷ was.others) (sym one);
      words_of = was.words_of ∙ ap (λ k. words (drop k (byte ∷ bytes))) (sym one);
    }

pub parts_start : (text : List ℕ) → StartsWithPart text (slice_split is_blank text)
parts_start [] = record { others = []; first = refl; words_of = refl }
parts_start (byte ∷ bytes) = part_more byte bytes (is_blank byte) refl (parts_start bytes)

word_has_bytes : (text : List ℕ) → 0 < length text → begins_blank text ≡ false → has_bytes (take (position_or_len is_blank text) text) ≡ true
word_has_bytes [] some e = absurd (omega arith)
word_has_bytes (byte ∷ bytes) some e =
    let one : position_or_len is_blank (byte ∷ bytes) ≡ suc (position_or_len is_blank bytes) = rw e (omega arith) in
    rw one refl

position_or_all_by : (p : ℕ → Bool) (xs : List ℕ) (b : Bool) → nat_lt (position_or_len p xs) (length xs) ≡ b → unwrap_or (position p xs) (length xs) ≡ position_or_len p xs
position_or_all_by p xs true e = rw e refl
position_or_all_by p xs false e = rw e (omega (arith, ltb-false (position_or_len p xs) (length xs) e, prefix_len-le-length (λ x. not (p x)) xs))

-- the first place of a byte, or the length
pub position_or_all : (p : ℕ → Bool) (xs : List ℕ) → unwrap_or (position p xs) (length xs) ≡ position_or_len p xs
position_or_all p xs = position_or_all_by p xs (nat_lt (position_or_len p xs) (length xs)) refl

-- the first word of a text that begins with none of the blanks
pub first_word : (text : List ℕ) (n : ℕ) → 0 < length text → begins_blank text ≡ false → n ≡ position_or_len is_blank text → words text ≡ take n text ∷ words (drop n text)
first_word text n some e is =
    let start = parts_start text in
    let kept : has_bytes (take (position_or_len is_blank text) text) ≡ true = word_has_bytes text some e in
    rw is (ap (filter has_bytes) start.first ∙ rw kept (ap (λ ws. take (position_or_len is_blank text) text ∷ ws) start.words_of))

-- bytes of a text are as all its bytes are
pub all_taken : (p : ℕ → Bool) (n : ℕ) (xs : List ℕ) → list_all p xs ≡ true → list_all p (take n xs) ≡ true
all_taken p zero xs e = refl
all_taken p (suc n) [] e = refl
all_taken p (suc n) (x ∷ xs) e =
    let both : (p x ≡ true) × (list_all p xs ≡ true) = and_true (p x) (list_all p xs) e in
    rw both.0 (all_taken p n xs both.1)

pub all_dropped : (p : ℕ → Bool) (n : ℕ) (xs : List ℕ) → list_all p xs ≡ true → list_all p (drop n xs) ≡ true
all_dropped p zero xs e = e
all_dropped p (suc n) [] e = refl
all_dropped p (suc n) (x ∷ xs) e = all_dropped p n xs (and_true (p x) (list_all p xs) e).1

plain_below : (byte : ℕ) → is_plain byte ≡ true → byte < 128
plain_below byte e = grind (arith, nat_tests)

plain_are_ascii : (text : List ℕ) → list_all is_plain text ≡ true → IsAscii text
plain_are_ascii [] e = IsAscii-nil
plain_are_ascii (byte ∷ bytes) e =
    let both = and_true (is_plain byte) (list_all is_plain bytes) e in
    IsAscii-cons byte bytes (plain_below byte both.0) (plain_are_ascii bytes both.1)

-- plain bytes are text
pub plain_is_text : (text : List ℕ) → list_all is_plain text ≡ true → IsUtf8 text
plain_is_text text e = IsUtf8-from_ascii text (plain_are_ascii text e)

pub all_passes : {X : Type 0} (p : X → Bool) (xs : List X) (i : ℕ) (d : X) → list_all p xs ≡ true → i < length xs → p (get_or xs i d) ≡ true
all_passes p [] i d all within = absurd (omega arith)
all_passes p (x ∷ xs) zero d all within = (and_true (p x) (list_all p xs) all).0
all_passes p (x ∷ xs) (suc i) d all within = all_passes p xs i d (and_true (p x) (list_all p xs) all).1 (omega arith)
