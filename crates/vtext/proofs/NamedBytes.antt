-- What the bytes of a name of a text are: one or more, each of which prints.
use Rattle.std.proofs.Common.{◌≡◌, ℕ, ◌+◌, ◌-◌, ◌<◌, ◌≤◌, true, nat_lt, ◌==◌, ◌&&◌, List, [], ◌∷◌, length, take, drop, All, refl, sym, ap, subst, ◌∙◌, arith}
use Rattle.std.specs.List.{list_all}
use Rattle.std.proofs.lemmas.Bool.{false≢true, and_parts}
use Rattle.std.proofs.lemmas.Bool.Decides.{nat_tests}
use Rattle.std.proofs.lemmas.List.{drop-drop, drop-take}
use Rattle.std.proofs.lemmas.List.Elements.{All-nil, All-cons}
use Rattle.lexing.specs.Classes.{is_letter, is_digit, is_name_byte, is_printed}
use Rattle.lexing.specs.Lexemes.{IsLongest, is_name, is_escaped, spells}
use Rattle.lexing.specs.Texts.{Spells, at_end, at_white, at_unending, at_stray, at_token, name_bytes, token_at}
use Rattle.lexing.specs.declared.token.Shape.{Shape}
use Rattle.lexing.specs.declared.token.Shape.TheVariants as shape
use Rattle.lexing.specs.declared.token.Token.{Token}
use Rattle.vtext.specs.Words.{is_named}

-- one byte or more, and each prints
pub record IsPlain (bytes : List ℕ) : Type 0 where
  pub some : 1 ≤ length bytes
  pub printed : list_all is_printed bytes ≡ true

-- the token's name, if it has one, is of such bytes
abbrev pub IsPlainToken : List ℕ → Token → Type 0
IsPlainToken text token = is_named token.shape ≡ true → IsPlain (name_bytes text token)

-- A name that is not escaped.

letter_prints : (b : ℕ) → is_letter b ≡ true → is_printed b ≡ true
unfolding is_letter is_printed
letter_prints b h = grind (arith, nat_tests)

name_byte_prints : (b : ℕ) → is_name_byte b ≡ true → is_printed b ≡ true
unfolding is_letter is_digit is_name_byte is_printed
name_byte_prints b h = grind (arith, nat_tests)

name_bytes_print : (bs : List ℕ) → list_all is_name_byte bs ≡ true → list_all is_printed bs ≡ true
name_bytes_print [] h = refl
name_bytes_print (b ∷ bs) h =
    let parts = and_parts (is_name_byte b) (list_all is_name_byte bs) h in
    rw (name_byte_prints b parts.0, name_bytes_print bs parts.1) refl

name_is_plain : (bytes : List ℕ) → is_name bytes ≡ true → IsPlain bytes
unfolding is_name
name_is_plain [] h = absurd (false≢true h)
name_is_plain (b ∷ bs) h =
    let parts = and_parts (is_letter b) (list_all is_name_byte bs) h in
    record { some = omega arith; printed = rw (letter_prints b parts.0, name_bytes_print bs parts.1) refl }

-- An escaped name.

escaped_is_plain : (bytes : List ℕ) → is_escaped bytes ≡ true → IsPlain (drop 1 bytes)
unfolding is_escaped
escaped_is_plain [] h = absurd (false≢true h)
escaped_is_plain (b ∷ bs) h =
    let parts = (and_parts (b == 92) (nat_lt 0 (length bs) && list_all is_printed bs) h).1 in
    let more = and_parts (nat_lt 0 (length bs)) (list_all is_printed bs) parts in
    let some = more.0 in
    record { some = grind (arith, nat_tests); printed = more.1 }

-- Where a name stands in its text.

whole_bytes : (text : List ℕ) (from n : ℕ) → take (from + n - from) (drop from text) ≡ take n (drop from text)
whole_bytes text from n = let size : from + n - from ≡ n = omega arith in ap (λ (k : ℕ). take k (drop from text)) size

bytes_behind : (text : List ℕ) (from n : ℕ) → 0 < n → take (from + n - (from + 1)) (drop (from + 1) text) ≡ drop 1 (take n (drop from text))
bytes_behind text from n some =
    let size : from + n - (from + 1) ≡ n - 1 = omega arith in
    let whole : 1 + (n - 1) ≡ n = omega arith in
    ap (λ (k : ℕ). take k (drop (from + 1) text)) size
    ∙ ap (take (n - 1)) (sym (drop-drop 1 from text))
    ∙ sym (drop-take 1 (n - 1) (drop from text))
    ∙ ap (λ (k : ℕ). drop 1 (take k (drop from text))) whole

named_is_plain : (text : List ℕ) (kind : Shape) (from n : ℕ) → IsLongest (drop from text) kind n → IsPlainToken text (token_at kind from (from + n))
unfolding spells
named_is_plain text shape.Name from n found named = subst IsPlain (sym (whole_bytes text from n)) (name_is_plain (take n (drop from text)) found.token)
named_is_plain text shape.Escaped from n found named =
    subst IsPlain (sym (bytes_behind text from n found.some)) (escaped_is_plain (take n (drop from text)) found.token)
named_is_plain text kind from n found named = absurd (false≢true named)

pub names_are_plain : (text : List ℕ) {from : ℕ} (tokens : List Token) → Spells text from tokens → All (IsPlainToken text) tokens
names_are_plain text tokens (at_end is) = All-nil (IsPlainToken text)
names_are_plain text tokens (at_white n is rest) = names_are_plain text tokens rest
names_are_plain text {from} tokens (at_unending is) =
    All-cons (IsPlainToken text) (token_at shape.Unending from (length text)) [] (λ named. absurd (false≢true named)) (All-nil (IsPlainToken text))
names_are_plain text {from} tokens (at_stray within is none) =
    All-cons (IsPlainToken text) (token_at shape.Stray from (from + 1)) [] (λ named. absurd (false≢true named)) (All-nil (IsPlainToken text))
names_are_plain text {from} tokens (at_token {kind = kind} n {tokens = more} is found rest) =
    All-cons (IsPlainToken text) (token_at kind from (from + n)) more (named_is_plain text kind from n found) (names_are_plain text more rest)
