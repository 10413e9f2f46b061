-- The shape of a token is known by its bytes.
use Rattle.std.proofs.Common.{◌≡◌, ◌≢◌, ◌<◌, ℕ, Bool, true, false, cond, not, ◌&&◌, List, [], ◌∷◌, Option, None, Some, length, take, refl, sym, ◌∙◌, arith, nat_eq, nat_lt, ⊎_elim}
use Rattle.std.specs.List.{list_all}
use Rattle.std.proofs.lemmas.Bool.{false≢true, eqb-true, and_parts, cases_eq}
use Rattle.std.proofs.lemmas.Bool.Decides.{nat_tests}
use Rattle.std.proofs.lemmas.List.{length-take-le}
use Rattle.lexing.proofs.DirectiveLemmas.{directive_shorter}
use Rattle.lexing.proofs.LexemeLemmas.{digit_no_letter, no_letter_escape, no_digit_escape, no_letter_accent, no_digit_accent, constant_parts, one_is_digit, quote_ends, no_directive}
use Rattle.lexing.proofs.TestLemmas.{false_from}
use Rattle.lexing.specs.Classes.{is_letter, is_digit, is_number_byte, is_printed, is_name_byte}
use Rattle.lexing.specs.Constants.{begins_constant}
use Rattle.lexing.specs.Directives.{directive, is_whole, Reading}
use Rattle.lexing.specs.Lexemes.{is_name, is_escaped, is_number, is_constant, is_single, is_directive, spells, IsLongest}
use Rattle.fourstate.specs.declared.unit.TimeUnit.{TimeUnit}
use Rattle.lexing.specs.declared.token.Shape.{Shape}
use Rattle.lexing.specs.declared.token.Shape.TheVariants as shape

-- the shape of a token of a first byte and those behind it
abbrev shape_of : ℕ → List ℕ → Shape
shape_of b bs =
    cond (is_letter b) shape.Name (cond (is_digit b) (cond (is_constant (b ∷ bs)) shape.Constant shape.Number)
    (cond (nat_eq (length bs) 0) shape.Other (cond (nat_eq b 92) shape.Escaped shape.Timescale)))

name_shape : (b : ℕ) (bs : List ℕ) → is_name (b ∷ bs) ≡ true → shape.Name ≡ shape_of b bs
unfolding is_name
name_shape b bs h = rw (and_parts (is_letter b) (list_all is_name_byte bs) h).0 refl

constant_front : (b : ℕ) (bs : List ℕ) → is_constant (b ∷ bs) ≡ true → begins_constant (b ∷ bs) ≡ true
unfolding is_constant
constant_front b bs h = (and_parts (nat_eq (length (b ∷ bs)) 4) (begins_constant (b ∷ bs)) h).1

constant_shape : (b : ℕ) (bs : List ℕ) → is_constant (b ∷ bs) ≡ true → shape.Constant ≡ shape_of b bs
constant_shape b bs h =
    let digit = one_is_digit b (constant_parts (b ∷ bs) (constant_front b bs h)).1 in
    rw (digit_no_letter b digit, digit, h) refl

no_quote : (b : ℕ) (bs : List ℕ) → list_all is_number_byte bs ≡ true → is_constant (b ∷ bs) ≡ true → ⊥
no_quote b [] h constant = let parts = constant_parts (b ∷ []) (constant_front b [] constant) in absurd (grind (arith, nat_tests, parts))
no_quote b (c ∷ cs) h constant =
    let parts = constant_parts (b ∷ c ∷ cs) (constant_front b (c ∷ cs) constant) in
    false≢true (sym (quote_ends c parts.2) ∙ (and_parts (is_number_byte c) (list_all is_number_byte cs) h).0)

number_shape : (b : ℕ) (bs : List ℕ) → is_number (b ∷ bs) ≡ true → shape.Number ≡ shape_of b bs
unfolding is_number
number_shape b bs h =
    let parts = and_parts (is_digit b) (list_all is_number_byte bs) h in
    let constant : is_constant (b ∷ bs) ≡ false = false_from _ (no_quote b bs parts.1) in
    rw (digit_no_letter b parts.0, parts.0, constant) refl

escaped_shape : (b : ℕ) (bs : List ℕ) → is_escaped (b ∷ bs) ≡ true → shape.Escaped ≡ shape_of b bs
unfolding is_escaped
escaped_shape b bs h =
    let parts = and_parts (nat_eq b 92) (nat_lt 0 (length bs) && list_all is_printed bs) h in
    let some = (and_parts (nat_lt 0 (length bs)) (list_all is_printed bs) parts.1).0 in
    let longer : nat_eq (length bs) 0 ≡ false = grind (arith, nat_tests) in
    rw (eqb-true b 92 parts.0, no_letter_escape, no_digit_escape, longer) refl

not_not : (a b : ℕ) → (a ≢ b → ⊥) → a ≡ b
not_not a b h = ⊎_elim (λ same. same) (λ rival. absurd (h rival)) (cases_eq a b)

none_is_some : {A : Type 0} {value : A} → ◌≡◌ {A = Option A} None (Some value) → ⊥
none_is_some e = cc

not_true : (a : Bool) → not a ≡ true → a ≡ false
not_true true h = sym h
not_true false h = refl

single_shape : (b : ℕ) (bs : List ℕ) → is_single (b ∷ bs) ≡ true → shape.Other ≡ shape_of b bs
unfolding is_single
single_shape b bs h =
    let parts = and_parts (nat_eq (length bs) 0) (is_printed b && (not (is_letter b) && not (is_digit b))) h in
    let more = and_parts (is_printed b) (not (is_letter b) && not (is_digit b)) parts.1 in
    let classes = and_parts (not (is_letter b)) (not (is_digit b)) more.1 in
    rw (not_true (is_letter b) classes.0, not_true (is_digit b) classes.1, parts.0) refl

accent_of : (read : Reading TimeUnit) (b : ℕ) (bs : List ℕ) → directive (b ∷ bs) ≡ read → is_whole read ≡ true → (b ≡ 96) × (0 < length bs)
accent_of None b bs e h = absurd (false≢true h)
accent_of (Some part) b bs e h =
    let less = (directive_shorter (b ∷ bs)).rest part.0 part.1 e in
    let accent : b ≡ 96 = not_not b 96 (λ differs. none_is_some (sym (no_directive b bs differs) ∙ e)) in
    (accent, omega (arith, less))

timescale_shape : (b : ℕ) (bs : List ℕ) → is_directive (b ∷ bs) ≡ true → shape.Timescale ≡ shape_of b bs
unfolding is_directive
timescale_shape b bs h =
    let parts = accent_of (directive (b ∷ bs)) b bs refl h in
    let some = parts.1 in
    let longer : nat_eq (length bs) 0 ≡ false = grind (arith, nat_tests) in
    rw (parts.0, no_letter_accent, no_digit_accent, longer) refl

-- the shape of a token is that of its bytes
shape_is : (kind : Shape) (b : ℕ) (bs : List ℕ) → spells kind (b ∷ bs) ≡ true → kind ≡ shape_of b bs
unfolding spells
shape_is shape.Name b bs h = name_shape b bs h
shape_is shape.Escaped b bs h = escaped_shape b bs h
shape_is shape.Number b bs h = number_shape b bs h
shape_is shape.Constant b bs h = constant_shape b bs h
shape_is shape.Timescale b bs h = timescale_shape b bs h
shape_is shape.Other b bs h = single_shape b bs h
shape_is shape.Unending b bs h = absurd (false≢true h)
shape_is shape.Stray b bs h = absurd (false≢true h)

-- no bytes are tokens of two shapes
pub one_shape : (bytes : List ℕ) (kind rival : Shape) → 0 < length bytes → spells kind bytes ≡ true → spells rival bytes ≡ true → kind ≡ rival
one_shape [] kind rival some h g = absurd (omega arith)
one_shape (b ∷ bs) kind rival some h g = shape_is kind b bs h ∙ sym (shape_is rival b bs g)

not_longer : (bytes : List ℕ) (kind rival : Shape) (m n : ℕ) → IsLongest bytes kind m → IsLongest bytes rival n → m < n → ⊥
not_longer bytes kind rival m n a b less = false≢true (sym (a.longest rival n less b.within) ∙ b.token)

-- the longest token in front of bytes is one
pub one_longest : (bytes : List ℕ) (kind rival : Shape) (m n : ℕ) → IsLongest bytes kind m → IsLongest bytes rival n → (kind ≡ rival) × (m ≡ n)
one_longest bytes kind rival m n a b =
    let lengths : m ≡ n = omega (arith, not_longer bytes kind rival m n a b, not_longer bytes rival kind n m b a) in
    let some : 0 < length (take m bytes) = omega (arith, a.some, length-take-le m bytes a.within) in
    (one_shape (take m bytes) kind rival some a.token (rw lengths b.token), lengths)
