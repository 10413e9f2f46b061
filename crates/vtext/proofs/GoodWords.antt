-- Each word of a text that is a name is a good one: its number is known, and it is a part of a name of a design.
use Rattle.std.proofs.Common.{◌≡◌, ◌≤◌, ℕ, Bool, true, false, cond, IsTrue, nat_le, nat_lt, ◌==◌, ◌||◌, List, [], ◌∷◌, Option, Some, None, length, slice_index, codes, refl, sym, ap, subst, ◌∙◌, arith}
use Rattle.std.specs.List.{list_all, list_any}
use Rattle.std.specs.Option.{option_map_or}
use Rattle.std.specs.Str.{bytes_eq}
use Rattle.std.proofs.lemmas.Bool.{and_parts, or_parts}
use Rattle.std.proofs.lemmas.Bool.Decides.{nat_tests}
use Rattle.std.proofs.lemmas.List.Elements.{All-map, All-weaker}
use Rattle.fourstate.specs.Keywords.{gate_kind_of, net_kind_of}
use Rattle.lexing.specs.Classes.{is_printed}
use Rattle.lexing.specs.Texts.{Spells, bytes_of, name_bytes}
use Rattle.lexing.specs.declared.token.Shape.{Shape}
use Rattle.lexing.specs.declared.token.Shape.TheVariants as shape
use Rattle.lexing.specs.declared.token.Token.{Token}
use Rattle.fourstate.specs.declared.unit.TimeUnit.{TimeUnit}
use Rattle.design.specs.Names.{is_name_byte, is_part, same_name}
use Rattle.vtext.specs.declared.word.Direction.TheVariants.{Input, Output}
use Rattle.vtext.specs.declared.word.Word.{Word}
use Rattle.vtext.specs.declared.word.Word.TheVariants.{Module, Endmodule, PortWord, NetWord, GateWord, Name, Misnamed, Open, Close, Comma, Semicolon, Hash, Dot, Colon, OpenBracket, CloseBracket, Refused, Broken, Timescale}
use Rattle.design.specs.declared.limits.TheConstants.{MAX_NAME}
use Rattle.vtext.specs.Keywords.{is_bad_byte, is_misnamed, is_refused, mark_of, name_word, plain_word, unkept_word}
use Rattle.vtext.specs.Names.{number_of}
use Rattle.vtext.specs.kept.Sound.{AreGoodWords, IsGoodNumber, IsGoodWord}
use Rattle.vtext.specs.Words.{directive_word, first_unit, is_named, names_of, same_unit, unit_at, word_by, word_of, words_of}
use Rattle.vtext.proofs.NamedBytes.{IsPlain, IsPlainToken, names_are_plain}
use Rattle.vtext.proofs.NumberLemmas.{numbered}

-- The bytes of a name that is not misnamed are a part of a name, and no longer than one.

good_byte : (b : ℕ) → is_printed b ≡ true → is_bad_byte b ≡ false → is_name_byte b ≡ true
unfolding is_printed
good_byte b printed good =
    let range = and_parts (nat_le 33 b) (nat_le b 126) printed in
    let others = or_parts (b == 46) (b == 39) good in
    rw (range.0, range.1, others.0, others.1) refl

good_bytes : (bytes : List ℕ) → list_all is_printed bytes ≡ true → list_any is_bad_byte bytes ≡ false → list_all is_name_byte bytes ≡ true
good_bytes [] printed good = refl
good_bytes (b ∷ bs) printed good =
    let prints = and_parts (is_printed b) (list_all is_printed bs) printed in
    let others = or_parts (is_bad_byte b) (list_any is_bad_byte bs) good in
    rw (good_byte b prints.0 others.0, good_bytes bs prints.1 others.1) refl

good_part : (bytes : List ℕ) → IsPlain bytes → is_misnamed bytes ≡ false → IsTrue (is_part bytes) × (length bytes ≤ MAX_NAME)
good_part bytes plain good =
    let parts = or_parts (nat_lt MAX_NAME (length bytes) || list_any is_bad_byte bytes) (bytes_eq bytes (codes "$end")) good in
    let more = or_parts (nat_lt MAX_NAME (length bytes)) (list_any is_bad_byte bytes) parts.0 in
    let short = more.0 in
    let long = plain.some in
    let some : nat_le 1 (length bytes) ≡ true = grind (arith, nat_tests) in
    let fits : length bytes ≤ MAX_NAME = grind (arith, nat_tests) in
    let free : same_name bytes (codes "$end") ≡ false = parts.1 in
    (rw (some, good_bytes bytes plain.printed more.1, free) refl, fits)

good_number : (names : List (List ℕ)) (bytes : List ℕ) (n : ℕ) → IsPlain bytes → is_misnamed bytes ≡ false → number_of names bytes ≡ Some n → IsGoodNumber names n
good_number names bytes n plain good e =
    let same = (numbered names bytes n e).1 in
    let there = good_part bytes plain good in
    record {
      known = ap (number_of names) same ∙ e;
      part = subst (λ (b : List ℕ). IsTrue (is_part b)) (sym same) there.0;
      short = subst (λ (b : List ℕ). length b ≤ MAX_NAME) (sym same) there.1;
    }

-- Words that are chosen from good ones.

either : (names : List (List ℕ)) (b : Bool) (v w : Word) → IsGoodWord names v → IsGoodWord names w → IsGoodWord names (cond b v w)
either names true v w h g = h
either names false v w h g = g

one_of : (names : List (List ℕ)) {X : Type 0} (o : Option X) (f : X → Word) (w : Word) → ((x : X) → IsGoodWord names (f x)) → IsGoodWord names w →
    IsGoodWord names (option_map_or f o w)
one_of names None f w h g = g
one_of names (Some x) f w h g = h x

good_name : (names : List (List ℕ)) (bytes : List ℕ) → IsPlain bytes → IsGoodWord names (name_word names bytes)
good_name names bytes plain = step (is_misnamed bytes) refl (number_of names bytes) refl
  where
    step : (bad : Bool) → is_misnamed bytes ≡ bad → (o : Option ℕ) → number_of names bytes ≡ o → IsGoodWord names (cond bad Misnamed (option_map_or Name o Misnamed))
    step true is o e = tt
    step false is None e = tt
    step false is (Some n) e = good_number names bytes n plain is e

good_plain : (names : List (List ℕ)) (bytes : List ℕ) → IsPlain bytes → IsGoodWord names (plain_word names bytes)
good_plain names bytes plain =
    let unkept = either names (is_refused bytes) Refused (name_word names bytes) tt (good_name names bytes plain) in
    let gates = one_of names (gate_kind_of bytes) GateWord (unkept_word names bytes) (λ kind. tt) unkept in
    let nets = one_of names (net_kind_of bytes) NetWord (option_map_or GateWord (gate_kind_of bytes) (unkept_word names bytes)) (λ kind. tt) gates in
    either names (bytes_eq bytes (codes "module")) Module _ tt
    (either names (bytes_eq bytes (codes "endmodule")) Endmodule _ tt
    (either names (bytes_eq bytes (codes "input")) (PortWord Input) _ tt
    (either names (bytes_eq bytes (codes "output")) (PortWord Output) _ tt nets)))

good_mark : (names : List (List ℕ)) (byte : ℕ) → IsGoodWord names (mark_of byte)
good_mark names byte =
    either names (byte == 40) Open _ tt
    (either names (byte == 41) Close _ tt
    (either names (byte == 44) Comma _ tt
    (either names (byte == 59) Semicolon _ tt
    (either names (byte == 35) Hash _ tt
    (either names (byte == 46) Dot _ tt
    (either names (byte == 58) Colon _ tt
    (either names (byte == 91) OpenBracket _ tt
    (either names (byte == 93) CloseBracket _ tt
    (either names (byte == 92) Broken Refused tt tt)))))))))

good_directive : (names : List (List ℕ)) (first this : Option TimeUnit) → IsGoodWord names (directive_word first this)
good_directive names (Some first) (Some this) = either names (same_unit first this) (Timescale this) Refused tt tt
good_directive names (Some first) None = tt
good_directive names None this = tt

-- What a token says.

good_by : (names : List (List ℕ)) (first : Option TimeUnit) (text : List ℕ) (token : Token) (kind : Shape) → (is_named kind ≡ true → IsPlain (name_bytes text token)) →
    IsGoodWord names (word_by kind names first text token)
good_by names first text token shape.Name plain = good_plain names (name_bytes text token) (plain refl)
good_by names first text token shape.Escaped plain = good_name names (name_bytes text token) (plain refl)
good_by names first text token shape.Number plain = tt
good_by names first text token shape.Constant plain = tt
good_by names first text token shape.Timescale plain = good_directive names first (unit_at text token)
good_by names first text token shape.Other plain = good_mark names (slice_index (bytes_of text token) 0)
good_by names first text token shape.Unending plain = tt
good_by names first text token shape.Stray plain = tt

good_token : (names : List (List ℕ)) (first : Option TimeUnit) (text : List ℕ) (token : Token) → IsPlainToken text token →
    IsGoodWord names (word_of names first text token).word
good_token names first text token plain = good_by names first text token token.shape plain

pub good_words : (text : List ℕ) (tokens : List Token) → Spells text 0 tokens → AreGoodWords (names_of text tokens) (words_of text tokens)
good_words text tokens spelled =
    let names : List (List ℕ) = names_of text tokens in
    let first : Option TimeUnit = first_unit text tokens in
    All-map (λ p. IsGoodWord names p.word) (word_of names first text) tokens
    (All-weaker (IsPlainToken text) (λ token. IsGoodWord names (word_of names first text token).word) (good_token names first text) tokens (names_are_plain text tokens spelled))
