-- The longest token in front of bytes.
use Rattle.std.proofs.Common.{◌≡◌, ◌≢◌, ◌+◌, ◌-◌, ◌<◌, ◌≤◌, ℕ, zero, suc, Bool, true, false, cond, not, ◌&&◌, List, [], ◌∷◌, ◌++◌, None, Some, length, take, drop, get_or, refl, sym, ap, ◌∙◌, arith, append-nil, length-append, length-drop, nat_eq, nat_lt, nat_le}
use Rattle.std.specs.List.{list_all, prefix_len}
use Rattle.std.proofs.lemmas.Bool.{false≢true, eqb-true, eq-eqb, and_parts, and_from}
use Rattle.std.proofs.lemmas.Bool.Decides.{nat_tests}
use Rattle.std.proofs.lemmas.Grind.{common_steps}
use Rattle.std.proofs.lemmas.List.{length-take-le, take-append-drop, take_at, nil_from_length}
use Rattle.std.proofs.lemmas.List.Sums.{prefix_len-le-length}
use Rattle.lexing.proofs.TestLemmas.{false_from, and_false, not_equal}
use Rattle.lexing.proofs.WholeLemmas.{directive_local}
use Rattle.lexing.proofs.WordLemmas.{rest_or}
use Rattle.lexing.specs.Classes.{is_letter, is_digit, is_name_byte, is_number_byte, is_printed}
use Rattle.lexing.specs.kept.Classes.{is_mark}
use Rattle.lexing.specs.Constants.{begins_constant}
use Rattle.std.specs.Option.{option_map}
use Rattle.lexing.specs.Directives.{Reading, directive, is_whole, timescale_of}
use Rattle.lexing.specs.Lexemes.{is_name, is_escaped, is_number, is_constant, is_single, is_directive, spells, IsLongest, IsNoToken}
use Rattle.fourstate.specs.declared.unit.TimeUnit.{TimeUnit}
use Rattle.lexing.specs.declared.token.Shape.{Shape}
use Rattle.lexing.specs.declared.token.Shape.TheVariants as shape

-- runs of bytes that pass a test

passes_more : (p : ℕ → Bool) (b : ℕ) (bs : List ℕ) (v : Bool) → p b ≡ v → list_all p (take (prefix_len p bs) bs) ≡ true →
    list_all p (take (cond v (1 + prefix_len p bs) 0) (b ∷ bs)) ≡ true
passes_more p b bs true is rest =
    let one : 1 + prefix_len p bs ≡ suc (prefix_len p bs) = omega arith in
    rw (one, is) rest
passes_more p b bs false is rest = refl

pub run_passes : (p : ℕ → Bool) (bytes : List ℕ) → list_all p (take (prefix_len p bytes) bytes) ≡ true
run_passes p [] = refl
run_passes p (b ∷ bs) = passes_more p b bs (p b) refl (run_passes p bs)

ends_more : (p : ℕ → Bool) (b : ℕ) (bs : List ℕ) (v : Bool) (m : ℕ) → p b ≡ v →
    (prefix_len p bs < m → list_all p (take m bs) ≡ false) → cond v (1 + prefix_len p bs) 0 < suc m → (p b && list_all p (take m bs)) ≡ false
ends_more p b bs true m is rest more = rw is (rest (omega arith))
ends_more p b bs false m is rest more = rw is refl

pub run_ends : (p : ℕ → Bool) (bytes : List ℕ) (m : ℕ) → prefix_len p bytes < m → m ≤ length bytes → list_all p (take m bytes) ≡ false
run_ends p bytes zero more within = absurd (omega arith)
run_ends p [] (suc m) more within = absurd (omega arith)
run_ends p (b ∷ bs) (suc m) more within = ends_more p b bs (p b) m refl (λ h. run_ends p bs m h (omega arith)) more

-- classes of bytes

pub letter_no_digit : (b : ℕ) → is_letter b ≡ true → is_digit b ≡ false
unfolding is_letter is_digit
letter_no_digit b h = grind (arith, nat_tests)

pub digit_no_letter : (b : ℕ) → is_digit b ≡ true → is_letter b ≡ false
unfolding is_letter is_digit
digit_no_letter b h = grind (arith, nat_tests)

not_printed_no_letter : (b : ℕ) → is_printed b ≡ false → is_letter b ≡ false
unfolding is_letter is_printed
not_printed_no_letter b h = grind (arith, nat_tests)

not_printed_no_digit : (b : ℕ) → is_printed b ≡ false → is_digit b ≡ false
unfolding is_digit is_printed
not_printed_no_digit b h = grind (arith, nat_tests)

pub letter_is_other : (b : ℕ) → is_letter b ≡ true → (b ≢ 49) × (b ≢ 92) × (b ≢ 96)
unfolding is_letter
letter_is_other b h = (grind (arith, nat_tests), grind (arith, nat_tests), grind (arith, nat_tests))

pub digit_is_other : (b : ℕ) → is_digit b ≡ true → (b ≢ 92) × (b ≢ 96)
unfolding is_digit
digit_is_other b h = (grind (arith, nat_tests), grind (arith, nat_tests))

not_printed_is_other : (b : ℕ) → is_printed b ≡ false → (b ≢ 49) × (b ≢ 92) × (b ≢ 96)
unfolding is_printed
not_printed_is_other b h = (grind (arith, nat_tests), grind (arith, nat_tests), grind (arith, nat_tests))

-- a shape is no token in front of bytes whose first byte is another

no_name : (b : ℕ) (bs : List ℕ) → is_letter b ≡ false → is_name (b ∷ bs) ≡ false
unfolding is_name
no_name b bs h = rw h refl

no_escaped : (b : ℕ) (bs : List ℕ) → b ≢ 92 → is_escaped (b ∷ bs) ≡ false
unfolding is_escaped
no_escaped b bs h = rw (not_equal b 92 h) refl

no_number : (b : ℕ) (bs : List ℕ) → is_digit b ≡ false → is_number (b ∷ bs) ≡ false
unfolding is_number
no_number b bs h = rw h refl

no_constant : (b : ℕ) (bs : List ℕ) → b ≢ 49 → is_constant (b ∷ bs) ≡ false
unfolding is_constant begins_constant
no_constant b bs h = rw (not_equal b 49 h) (and_false _ _ (and_false _ _ refl))

no_single_letter : (b : ℕ) (bs : List ℕ) → is_letter b ≡ true → is_single (b ∷ bs) ≡ false
unfolding is_single
no_single_letter b bs h = rw h (and_false _ _ (and_false _ _ refl))

no_single_digit : (b : ℕ) (bs : List ℕ) → is_digit b ≡ true → is_single (b ∷ bs) ≡ false
unfolding is_single
no_single_digit b bs h =
    rw h (and_false (nat_eq (length bs) 0) _ (and_false (is_printed b) _ (and_false (not (is_letter b)) false refl)))

no_single_longer : (b : ℕ) (bs : List ℕ) → 0 < length bs → is_single (b ∷ bs) ≡ false
unfolding is_single
no_single_longer b bs h = let e : nat_eq (length bs) 0 ≡ false = grind (arith, nat_tests) in rw e refl

no_single_stray : (b : ℕ) (bs : List ℕ) → is_printed b ≡ false → is_single (b ∷ bs) ≡ false
unfolding is_single
no_single_stray b bs h = rw h (and_false _ _ refl)

pub no_directive : (b : ℕ) (bs : List ℕ) → b ≢ 96 → directive (b ∷ bs) ≡ None
unfolding directive
no_directive b bs h = let e : nat_eq 96 b ≡ false = grind (arith, nat_tests) in rw e refl

-- other shapes in front of bytes whose first byte is known

long_name : (b : ℕ) (bs : List ℕ) → list_all is_name_byte bs ≡ false → is_name (b ∷ bs) ≡ false
unfolding is_name
long_name b bs run = rw run (and_false (is_letter b) false refl)

long_number : (b : ℕ) (bs : List ℕ) → list_all is_number_byte bs ≡ false → is_number (b ∷ bs) ≡ false
unfolding is_number
long_number b bs run = rw run (and_false (is_digit b) false refl)

long_escaped : (b : ℕ) (bs : List ℕ) → list_all is_printed bs ≡ false → is_escaped (b ∷ bs) ≡ false
unfolding is_escaped
long_escaped b bs run = rw run (and_false (nat_eq b 92) _ (and_false (nat_lt 0 (length bs)) false refl))

no_timescale : (b : ℕ) (bs : List ℕ) → b ≢ 96 → is_directive (b ∷ bs) ≡ false
unfolding is_directive
no_timescale b bs h = ap is_whole (no_directive b bs h)

letter_front : (rival : Shape) (b : ℕ) (bs : List ℕ) → is_letter b ≡ true → list_all is_name_byte bs ≡ false → spells rival (b ∷ bs) ≡ false
unfolding spells
letter_front shape.Name b bs h run = long_name b bs run
letter_front shape.Escaped b bs h run = no_escaped b bs (letter_is_other b h).1
letter_front shape.Number b bs h run = no_number b bs (letter_no_digit b h)
letter_front shape.Constant b bs h run = no_constant b bs (letter_is_other b h).0
letter_front shape.Timescale b bs h run = no_timescale b bs (letter_is_other b h).2
letter_front shape.Other b bs h run = no_single_letter b bs h
letter_front shape.Unending b bs h run = refl
letter_front shape.Stray b bs h run = refl

digit_front : (rival : Shape) (b : ℕ) (bs : List ℕ) → is_digit b ≡ true → list_all is_number_byte bs ≡ false → is_constant (b ∷ bs) ≡ false →
    spells rival (b ∷ bs) ≡ false
unfolding spells
digit_front shape.Name b bs h run constant = no_name b bs (digit_no_letter b h)
digit_front shape.Escaped b bs h run constant = no_escaped b bs (digit_is_other b h).0
digit_front shape.Number b bs h run constant = long_number b bs run
digit_front shape.Constant b bs h run constant = constant
digit_front shape.Timescale b bs h run constant = no_timescale b bs (digit_is_other b h).1
digit_front shape.Other b bs h run constant = no_single_digit b bs h
digit_front shape.Unending b bs h run constant = refl
digit_front shape.Stray b bs h run constant = refl

no_digit_no_one : (b : ℕ) → is_digit b ≡ false → b ≢ 49
unfolding is_digit
no_digit_no_one b h = grind (arith, nat_tests)

single_front : (rival : Shape) (b : ℕ) (bs : List ℕ) → is_letter b ≡ false → is_digit b ≡ false → 0 < length bs → is_escaped (b ∷ bs) ≡ false →
    is_directive (b ∷ bs) ≡ false → spells rival (b ∷ bs) ≡ false
unfolding spells
single_front shape.Name b bs letter digit some escaped timescale = no_name b bs letter
single_front shape.Escaped b bs letter digit some escaped timescale = escaped
single_front shape.Number b bs letter digit some escaped timescale = no_number b bs digit
single_front shape.Constant b bs letter digit some escaped timescale = no_constant b bs (no_digit_no_one b digit)
single_front shape.Timescale b bs letter digit some escaped timescale = timescale
single_front shape.Other b bs letter digit some escaped timescale = no_single_longer b bs some
single_front shape.Unending b bs letter digit some escaped timescale = refl
single_front shape.Stray b bs letter digit some escaped timescale = refl

-- some of the bytes behind the first
some_taken : (k : ℕ) (bs : List ℕ) → 0 < k → k ≤ length bs → 0 < length (take k bs)
some_taken k bs some within = omega (arith, length-take-le k bs within)

-- the longest token by its first byte

longest_from : (b : ℕ) (bs : List ℕ) (kind : Shape) (n : ℕ) → n ≤ length bs → spells kind (b ∷ take n bs) ≡ true →
    ((rival : Shape) (k : ℕ) → n < k → k ≤ length bs → spells rival (b ∷ take k bs) ≡ false) → IsLongest (b ∷ bs) kind (suc n)
longest_from b bs kind n within token longer = record {
  some = omega arith;
  within = omega arith;
  token = token;
  longest = λ rival m. by_length rival m;
} where
  by_length : (rival : Shape) (m : ℕ) → suc n < m → m ≤ length (b ∷ bs) → spells rival (take m (b ∷ bs)) ≡ false
  by_length rival zero more fits = absurd (omega arith)
  by_length rival (suc k) more fits = longer rival k (omega arith) (omega arith)

is_name_run : (b : ℕ) (bs : List ℕ) → is_letter b ≡ true → spells shape.Name (b ∷ take (prefix_len is_name_byte bs) bs) ≡ true
unfolding spells is_name
is_name_run b bs h = rw h (run_passes is_name_byte bs)

pub name_found : (bytes : List ℕ) (n : ℕ) → 0 < length bytes → is_letter (get_or bytes 0 0) ≡ true →
    n ≡ 1 + prefix_len is_name_byte (drop 1 bytes) → IsLongest bytes shape.Name n
name_found [] n some h e = absurd (omega arith)
name_found (b ∷ bs) n some h e =
    let to : n ≡ suc (prefix_len is_name_byte bs) = omega (arith, e) in
    rw to (longest_from b bs shape.Name (prefix_len is_name_byte bs) (prefix_len-le-length is_name_byte bs) (is_name_run b bs h)
    (λ rival k more within. letter_front rival b (take k bs) h (run_ends is_name_byte bs k more within)))

is_number_run : (b : ℕ) (bs : List ℕ) → is_digit b ≡ true → spells shape.Number (b ∷ take (prefix_len is_number_byte bs) bs) ≡ true
unfolding spells is_number
is_number_run b bs h = rw h (run_passes is_number_byte bs)

-- constants have four bytes

constant_at_four : (bytes : List ℕ) → begins_constant (take 4 bytes) ≡ begins_constant bytes
unfolding begins_constant
constant_at_four [] = refl
constant_at_four (a ∷ []) = refl
constant_at_four (a ∷ b ∷ []) = refl
constant_at_four (a ∷ b ∷ c ∷ []) = refl
constant_at_four (a ∷ b ∷ c ∷ d ∷ rest) =
    let enough : nat_le 4 (length (a ∷ b ∷ c ∷ d ∷ rest)) ≡ true = grind (arith, nat_tests) in
    rw enough refl

constant_length : (bytes : List ℕ) (m : ℕ) → m ≤ length bytes → is_constant (take m bytes) ≡ true → (m ≡ 4) × (begins_constant bytes ≡ true)
unfolding is_constant
constant_length bytes m within h =
    let both = and_parts (nat_eq (length (take m bytes)) 4) (begins_constant (take m bytes)) h in
    let four : m ≡ 4 = omega (arith, eqb-true _ _ both.0, length-take-le m bytes within) in
    (four, sym (constant_at_four bytes) ∙ (ap (λ n. begins_constant (take n bytes)) (sym four) ∙ both.1))

pub number_found : (bytes : List ℕ) (n : ℕ) → 0 < length bytes → is_digit (get_or bytes 0 0) ≡ true → begins_constant bytes ≡ false →
    n ≡ 1 + prefix_len is_number_byte (drop 1 bytes) → IsLongest bytes shape.Number n
number_found [] n some h constant e = absurd (omega arith)
number_found (b ∷ bs) n some h constant e =
    let to : n ≡ suc (prefix_len is_number_byte bs) = omega (arith, e) in
    rw to (longest_from b bs shape.Number (prefix_len is_number_byte bs) (prefix_len-le-length is_number_byte bs) (is_number_run b bs h)
    (λ rival k more within. digit_front rival b (take k bs) h (run_ends is_number_byte bs k more within)
    (false_from _ (λ is. false≢true (sym constant ∙ (constant_length (b ∷ bs) (suc k) (omega arith) is).1)))))

pub quote_ends : (c : ℕ) → nat_eq c 39 ≡ true → is_number_byte c ≡ false
unfolding is_number_byte is_digit
quote_ends c h = grind (arith, nat_tests)

pub one_is_digit : (b : ℕ) → nat_eq b 49 ≡ true → is_digit b ≡ true
unfolding is_digit
one_is_digit b h = grind (arith, nat_tests)

-- what a constant's first bytes are
pub constant_parts : (bytes : List ℕ) → begins_constant bytes ≡ true →
    (nat_le 4 (length bytes) ≡ true) × (nat_eq (get_or bytes 0 0) 49 ≡ true) × (nat_eq (get_or bytes 1 0) 39 ≡ true)
unfolding begins_constant
constant_parts bytes h = grind (arith, common_steps)

is_constant_at_four : (bytes : List ℕ) → 4 ≤ length bytes → begins_constant bytes ≡ true → spells shape.Constant (take 4 bytes) ≡ true
unfolding spells is_constant
is_constant_at_four bytes enough h =
    and_from (nat_eq (length (take 4 bytes)) 4) (begins_constant (take 4 bytes))
    (eq-eqb _ 4 (length-take-le 4 bytes enough)) (constant_at_four bytes ∙ h)

longer_constant : (rival : Shape) (b c : ℕ) (rest : List ℕ) (k : ℕ) → is_digit b ≡ true → is_number_byte c ≡ false → 3 < k → k ≤ length (c ∷ rest) →
    spells rival (b ∷ take k (c ∷ rest)) ≡ false
longer_constant rival b c rest zero digit quote more within = absurd (omega arith)
longer_constant rival b c rest (suc k) digit quote more within =
    digit_front rival b (c ∷ take k rest) digit (rw quote refl)
    (false_from _ (λ is. let four = (constant_length (b ∷ c ∷ rest) (suc (suc k)) (omega arith) is).0 in absurd (omega (arith, four))))

pub constant_found : (bytes : List ℕ) → begins_constant bytes ≡ true → IsLongest bytes shape.Constant 4
constant_found [] h = let parts = constant_parts [] h in absurd (grind (arith, nat_tests, parts))
constant_found (b ∷ []) h = let parts = constant_parts (b ∷ []) h in absurd (grind (arith, nat_tests, parts))
constant_found (b ∷ c ∷ rest) h =
    let parts = constant_parts (b ∷ c ∷ rest) h in
    let enough : 4 ≤ length (b ∷ c ∷ rest) = grind (arith, nat_tests, parts) in
    longest_from b (c ∷ rest) shape.Constant 3 (omega arith) (is_constant_at_four (b ∷ c ∷ rest) enough h)
    (λ rival k more within. longer_constant rival b c rest k (one_is_digit b parts.1) (quote_ends c parts.2) more within)

-- a single byte, and what begins with \ or a grave accent

one_byte : (b : ℕ) → is_printed b ≡ true → is_letter b ≡ false → is_digit b ≡ false → spells shape.Other (b ∷ []) ≡ true
unfolding spells is_single
one_byte b printed letter digit = rw (printed, letter, digit) refl

printed_escape : is_printed 92 ≡ true
unfolding is_printed
printed_escape = refl

pub no_letter_escape : is_letter 92 ≡ false
unfolding is_letter
no_letter_escape = refl

pub no_digit_escape : is_digit 92 ≡ false
unfolding is_digit
no_digit_escape = refl

printed_accent : is_printed 96 ≡ true
unfolding is_printed
printed_accent = refl

pub no_letter_accent : is_letter 96 ≡ false
unfolding is_letter
no_letter_accent = refl

pub no_digit_accent : is_digit 96 ≡ false
unfolding is_digit
no_digit_accent = refl

-- bytes that begin with \ are no longer token where no byte 33 to 126 follows the k-th
escape_front : (rival : Shape) (bs : List ℕ) (k : ℕ) → prefix_len is_printed bs < k → k ≤ length bs → spells rival (92 ∷ take k bs) ≡ false
escape_front rival bs k more within =
    single_front rival 92 (take k bs) no_letter_escape no_digit_escape (some_taken k bs (omega arith) within)
    (long_escaped 92 (take k bs) (run_ends is_printed bs k more within)) (no_timescale 92 (take k bs) (omega arith))

is_escaped_run : (bs : List ℕ) → 0 < prefix_len is_printed bs → spells shape.Escaped (92 ∷ take (prefix_len is_printed bs) bs) ≡ true
unfolding spells is_escaped
is_escaped_run bs some =
    let fits = length-take-le (prefix_len is_printed bs) bs (prefix_len-le-length is_printed bs) in
    let some_bytes : nat_lt 0 (length (take (prefix_len is_printed bs) bs)) ≡ true = grind (arith, nat_tests, fits) in
    rw (some_bytes, run_passes is_printed bs) refl

pub escaped_found : (bytes : List ℕ) (n : ℕ) → 0 < length bytes → get_or bytes 0 0 ≡ 92 → 0 < prefix_len is_printed (drop 1 bytes) →
    n ≡ 1 + prefix_len is_printed (drop 1 bytes) → IsLongest bytes shape.Escaped n
escaped_found [] n some h run e = absurd (omega arith)
escaped_found (b ∷ bs) n some h run e =
    let to : n ≡ suc (prefix_len is_printed bs) = omega (arith, e) in
    rw (h, to) (longest_from 92 bs shape.Escaped (prefix_len is_printed bs) (prefix_len-le-length is_printed bs) (is_escaped_run bs run)
    (λ rival k more within. escape_front rival bs k more within))

pub escape_alone : (bytes : List ℕ) → 0 < length bytes → get_or bytes 0 0 ≡ 92 → prefix_len is_printed (drop 1 bytes) ≡ 0 → IsLongest bytes shape.Other 1
escape_alone [] some h run = absurd (omega arith)
escape_alone (b ∷ bs) some h run =
    rw h (longest_from 92 bs shape.Other 0 (omega arith) (one_byte 92 printed_escape no_letter_escape no_digit_escape)
    (λ rival k more within. escape_front rival bs k (omega (arith, run)) within))

-- bytes that begin with a grave accent are no longer token where they are no directive
accent_front : (rival : Shape) (bs : List ℕ) (k : ℕ) → 0 < k → k ≤ length bs → is_directive (96 ∷ take k bs) ≡ false →
    spells rival (96 ∷ take k bs) ≡ false
accent_front rival bs k some within timescale =
    single_front rival 96 (take k bs) no_letter_accent no_digit_accent (some_taken k bs some within) (no_escaped 96 (take k bs) (omega arith)) timescale

-- the first m bytes are a directive: then it stands in front of all
whole_part : (bytes : List ℕ) (m : ℕ) (part : TimeUnit × List ℕ) → directive (take m bytes) ≡ Some part → is_whole (Some part) ≡ true →
    directive bytes ≡ Some (part.0, drop m bytes)
whole_part bytes m part e h =
    let none : part.1 ≡ [] = nil_from_length part.1 (eqb-true _ 0 h) in
    let found = directive_local (take m bytes) part.0 part.1 e in
    let front : found.front ≡ take m bytes = sym (append-nil found.front) ∙ (ap (λ l. found.front ++ l) (sym none) ∙ sym found.whole) in
    sym (ap directive (ap (λ l. l ++ drop m bytes) front ∙ take-append-drop m bytes)) ∙ found.again (drop m bytes)

whole_by : (bytes : List ℕ) (m : ℕ) (read : Reading TimeUnit) → directive (take m bytes) ≡ read → is_whole read ≡ true →
    (unit : TimeUnit) × (directive bytes ≡ Some (unit, drop m bytes))
whole_by bytes m None e h = absurd (false≢true h)
whole_by bytes m (Some part) e h = (part.0, whole_part bytes m part e h)

whole_of : (bytes : List ℕ) (m : ℕ) → is_directive (take m bytes) ≡ true → (unit : TimeUnit) × (directive bytes ≡ Some (unit, drop m bytes))
unfolding is_directive
whole_of bytes m h = whole_by bytes m (directive (take m bytes)) refl h

none_or_read : (read : Reading TimeUnit) (part : TimeUnit × List ℕ) → read ≡ None → read ≡ Some part → ⊥
none_or_read read part none some = cc

pub accent_alone : (bytes : List ℕ) → 0 < length bytes → get_or bytes 0 0 ≡ 96 → directive bytes ≡ None → IsLongest bytes shape.Other 1
accent_alone [] some h e = absurd (omega arith)
accent_alone (b ∷ bs) some h e =
    let none = rw h at e in
    rw h (longest_from 96 bs shape.Other 0 (omega arith) (one_byte 96 printed_accent no_letter_accent no_digit_accent)
    (λ rival k more within. accent_front rival bs k more within
    (false_from _ (λ is. none_or_read _ _ none (whole_of (96 ∷ bs) (suc k) is).1))))

is_directive_front : (front : List ℕ) (unit : TimeUnit) → directive (front ++ []) ≡ Some (unit, []) → spells shape.Timescale front ≡ true
unfolding spells is_directive
is_directive_front front unit e = ap is_whole (ap directive (sym (append-nil front)) ∙ e)

other_length : (bytes rest : List ℕ) (unit : TimeUnit) (m : ℕ) → directive bytes ≡ Some (unit, rest) → length bytes < m + length rest → m ≤ length bytes →
    is_directive (take m bytes) ≡ false
other_length bytes rest unit m e more within =
    false_from _ (λ is.
    let found = whole_of bytes m is in
    let same : rest ≡ drop m bytes = ap (rest_or rest) (sym e ∙ found.1) in
    absurd (omega (arith, ap length same, length-drop m bytes)))

pub timescale_found : (bytes : List ℕ) (n : ℕ) (unit : TimeUnit) (rest : List ℕ) → 0 < length bytes → get_or bytes 0 0 ≡ 96 →
    directive bytes ≡ Some (unit, rest) → length rest < length bytes → n ≡ length bytes - length rest → IsLongest bytes shape.Timescale n
timescale_found [] n unit rest some h e less to = absurd (omega arith)
timescale_found (b ∷ bs) n unit rest some h e less to =
    let found = directive_local (b ∷ bs) unit rest e in
    let size : length found.front ≡ n = omega (arith, to, ap length found.whole, length-append found.front rest) in
    let taken : take n (b ∷ bs) ≡ found.front = ap (take n) found.whole ∙ take_at found.front rest n size in
    record {
      some = omega (arith, to);
      within = omega (arith, to);
      token = ap (spells shape.Timescale) taken ∙ is_directive_front found.front unit (found.again []);
      longest = λ rival m. by_length rival m;
    } where
      by_length : (rival : Shape) (m : ℕ) → n < m → m ≤ length (b ∷ bs) → spells rival (take m (b ∷ bs)) ≡ false
      by_length rival zero more fits = absurd (omega arith)
      by_length rival (suc k) more fits =
          let read = rw h at e in
          rw h (accent_front rival bs k (omega (arith, to)) (omega arith)
          (other_length (96 ∷ bs) rest unit (suc k) read (omega (arith, to)) fits))

pub single_found : (bytes : List ℕ) → 0 < length bytes → is_printed (get_or bytes 0 0) ≡ true → is_letter (get_or bytes 0 0) ≡ false →
    is_digit (get_or bytes 0 0) ≡ false → get_or bytes 0 0 ≢ 92 → get_or bytes 0 0 ≢ 96 → IsLongest bytes shape.Other 1
single_found [] some printed letter digit escape accent = absurd (omega arith)
single_found (b ∷ bs) some printed letter digit escape accent =
    longest_from b bs shape.Other 0 (omega arith) (one_byte b printed letter digit)
    (λ rival k more within. single_front rival b (take k bs) letter digit (some_taken k bs more within) (no_escaped b (take k bs) escape)
    (no_timescale b (take k bs) accent))

mark_parts : (b : ℕ) → is_mark b ≡ true → (is_printed b ≡ true) × (is_letter b ≡ false) × (is_digit b ≡ false) × (b ≢ 92) × (b ≢ 96)
unfolding is_mark
mark_parts b h = grind (arith, nat_tests, common_steps)

pub mark_found : (bytes : List ℕ) → 0 < length bytes → is_mark (get_or bytes 0 0) ≡ true → IsLongest bytes shape.Other 1
mark_found bytes some h =
    let parts = mark_parts (get_or bytes 0 0) h in
    single_found bytes some parts.0 parts.1 parts.2 parts.3 parts.4

-- a byte that begins no token

stray_front : (rival : Shape) (b : ℕ) (bs : List ℕ) → is_printed b ≡ false → spells rival (b ∷ bs) ≡ false
unfolding spells
stray_front shape.Name b bs h = no_name b bs (not_printed_no_letter b h)
stray_front shape.Escaped b bs h = no_escaped b bs (not_printed_is_other b h).1
stray_front shape.Number b bs h = no_number b bs (not_printed_no_digit b h)
stray_front shape.Constant b bs h = no_constant b bs (not_printed_is_other b h).0
stray_front shape.Timescale b bs h = no_timescale b bs (not_printed_is_other b h).2
stray_front shape.Other b bs h = no_single_stray b bs h
stray_front shape.Unending b bs h = refl
stray_front shape.Stray b bs h = refl

no_bytes : (rival : Shape) → spells rival [] ≡ false
unfolding spells is_name is_escaped is_number is_constant is_directive is_single directive
no_bytes shape.Name = refl
no_bytes shape.Escaped = refl
no_bytes shape.Number = refl
no_bytes shape.Constant = refl
no_bytes shape.Timescale = refl
no_bytes shape.Other = refl
no_bytes shape.Unending = refl
no_bytes shape.Stray = refl

pub stray_found : (bytes : List ℕ) → 0 < length bytes → is_printed (get_or bytes 0 0) ≡ false → IsNoToken bytes
stray_found [] some h = absurd (omega arith)
stray_found (b ∷ bs) some h = record { none = λ rival m. by_length rival m } where
  by_length : (rival : Shape) (m : ℕ) → spells rival (take m (b ∷ bs)) ≡ false
  by_length rival zero = no_bytes rival
  by_length rival (suc k) = stray_front rival b (take k bs) h

whole_unit : (bytes : List ℕ) (m : ℕ) (read : Reading TimeUnit) → directive (take m bytes) ≡ read → is_whole read ≡ true →
    timescale_of (take m bytes) ≡ timescale_of bytes
whole_unit bytes m None e h = absurd (false≢true h)
whole_unit bytes m (Some part) e h =
    ap (option_map (λ r. r.0)) e ∙ sym (ap (option_map (λ r. r.0)) (whole_part bytes m part e h))

-- a directive's own bytes say what the bytes that it begins say
pub unit_of_bytes : (bytes : List ℕ) (m : ℕ) → spells shape.Timescale (take m bytes) ≡ true →
    timescale_of (take m bytes) ≡ timescale_of bytes
unfolding spells is_directive
unit_of_bytes bytes m h = whole_unit bytes m (directive (take m bytes)) refl h
