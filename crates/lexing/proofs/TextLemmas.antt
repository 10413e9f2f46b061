-- The tokens of a text, one after another.
use Rattle.std.proofs.Common.{◌≡◌, ◌≢◌, ◌+◌, ◌<◌, ◌≤◌, ℕ, List, [], ◌∷◌, ◌++◌, length, take, drop, get_or, true, false, refl, sym, ap, ◌∙◌, arith, append_assoc, append-nil, length-drop}
use Rattle.std.proofs.lemmas.List.{get_or-drop}
use Rattle.std.proofs.lemmas.Bool.{false≢true, true≢false}
use Rattle.std.proofs.lemmas.Bool.Decides.{nat_tests}
use Rattle.std.proofs.lemmas.Grind.{common_steps}
use Rattle.lexing.proofs.LawLemmas.{no_fault}
use Rattle.lexing.proofs.LexemeLemmas.{mark_found}
use Rattle.lexing.proofs.TestLemmas.{not_equal}
use Rattle.lexing.specs.Classes.{is_space, is_letter, is_printed}
use Rattle.lexing.specs.kept.Classes.{is_mark}
use Rattle.lexing.specs.Lexemes.{IsLongest}
use Rattle.lexing.specs.kept.Lexemes.{IsLexeme}
use Rattle.lexing.specs.Spaces.{white_space, opening_of}
use Rattle.lexing.specs.Texts.{Spells, at_end, at_white, at_unending, at_stray, at_token, token_at}
use Rattle.lexing.specs.kept.Texts.{IsInside, IsNext}
use Rattle.lexing.specs.declared.spaces.White.TheVariants as piece
use Rattle.lexing.specs.declared.token.Shape.{Shape}
use Rattle.lexing.specs.declared.token.Shape.TheVariants as shape
use Rattle.lexing.specs.declared.token.Token.{Token}

-- a piece of what follows a place ends within the text
pub within_text : (text : List ℕ) (from n : ℕ) → n ≤ length (drop from text) → from ≤ length text → from + n ≤ length text
within_text text from n fits within = omega (arith, length-drop from text)

-- whatever the text spells from the place on completes these tokens
abbrev pub Completes : List ℕ → ℕ → List Token → Type 0
Completes text from tokens = (more : List Token) → Spells text from more → Spells text 0 (tokens ++ more)

pub past_white : (text : List ℕ) (from n : ℕ) (tokens : List Token) → piece.Takes n ≡ white_space (drop from text) → Completes text from tokens →
    Completes text (from + n) tokens
past_white text from n tokens is spelled = λ more rest. spelled more (at_white n (sym is) rest)

pub to_unending : (text : List ℕ) (from : ℕ) (tokens all : List Token) (last : Token) → all ≡ tokens ++ last ∷ [] →
    last ≡ token_at shape.Unending from (length text) → piece.Unending ≡ white_space (drop from text) → Completes text from tokens → Spells text 0 all
to_unending text from tokens all last whole made is spelled = rw (whole, made) (spelled _ (at_unending (sym is)))

pub to_stray : (text : List ℕ) (from n : ℕ) (tokens all : List Token) (last : Token) (kind : Shape) → all ≡ tokens ++ last ∷ [] →
    last ≡ token_at kind from (from + n) → kind ≡ shape.Stray → from < length text → piece.Nothing ≡ white_space (drop from text) →
    IsLexeme (drop from text) kind n → Completes text from tokens → Spells text 0 all
to_stray text from n tokens all last kind whole made stray within is lexeme spelled =
    let found = rw stray at lexeme in
    let one = found.0 in
    rw (whole, made, stray, one) (spelled _ (at_stray within (sym is) found.1))

longest_of : (bytes : List ℕ) (kind : Shape) (n : ℕ) → kind ≢ shape.Stray → IsLexeme bytes kind n → IsLongest bytes kind n
longest_of bytes shape.Name n h found = found
longest_of bytes shape.Escaped n h found = found
longest_of bytes shape.Number n h found = found
longest_of bytes shape.Constant n h found = found
longest_of bytes shape.Timescale n h found = found
longest_of bytes shape.Other n h found = found
longest_of bytes shape.Unending n h found = found
longest_of bytes shape.Stray n h found = absurd (h refl)

pub past_token : (text : List ℕ) (from n : ℕ) (tokens all : List Token) (last : Token) (kind : Shape) → all ≡ tokens ++ last ∷ [] →
    last ≡ token_at kind from (from + n) → kind ≢ shape.Stray → piece.Nothing ≡ white_space (drop from text) → IsLexeme (drop from text) kind n →
    Completes text from tokens → Completes text (from + n) all
past_token text from n tokens all last kind whole made other is lexeme spelled = λ more rest.
    rw (whole, append_assoc, made) (spelled _ (at_token n (sym is) (longest_of (drop from text) kind n other lexeme) rest))

pub to_end : (text : List ℕ) (from : ℕ) (tokens : List Token) → from ≡ length text → Completes text from tokens → Spells text 0 tokens
to_end text from tokens is spelled = rw (← append-nil tokens) (spelled [] (at_end is))

-- one byte of white space, and tokens by their first byte

white_at : (bytes : List ℕ) → 0 < length bytes → is_space (get_or bytes 0 0) ≡ true → piece.Takes 1 ≡ white_space bytes
unfolding white_space opening_of
white_at [] some h = absurd (omega arith)
white_at (b ∷ bs) some h = rw h refl

-- no white space begins with the byte
abbrev OpensNone : ℕ → Type 0
OpensNone b = (is_space b ≡ false) × (b ≢ 47) × (b ≢ 40)

mark_opens_none : (b : ℕ) → is_mark b ≡ true → OpensNone b
unfolding is_mark is_printed is_space
mark_opens_none b h = (grind (arith, nat_tests, common_steps), grind (arith, nat_tests, common_steps), grind (arith, nat_tests, common_steps))

letter_opens_none : (b : ℕ) → is_letter b ≡ true → OpensNone b
unfolding is_letter is_space
letter_opens_none b h = (grind (arith, nat_tests), grind (arith, nat_tests), grind (arith, nat_tests))

no_white_at : (bytes : List ℕ) → 0 < length bytes → OpensNone (get_or bytes 0 0) → piece.Nothing ≡ white_space bytes
unfolding white_space opening_of
no_white_at [] some h = absurd (omega arith)
no_white_at (b ∷ []) some h = rw h.0 refl
no_white_at (b ∷ c ∷ rest) some h = rw (h.0, not_equal b 47 h.1, not_equal b 40 h.2) refl

first_from : (text : List ℕ) (from : ℕ) → get_or (drop from text) 0 0 ≡ get_or text from 0
first_from text from = get_or-drop from text 0 0 ∙ ap (λ k. get_or text k 0) (omega arith)

-- what the text spells from the second place on it spells from the first one on: white space lies between
abbrev pub Reaches : List ℕ → ℕ → ℕ → Type 0
Reaches text from at = (tokens : List Token) → Spells text at tokens → Spells text from tokens

pub reach_past_white : (text : List ℕ) (from at n : ℕ) → piece.Takes n ≡ white_space (drop at text) → Reaches text from at → Reaches text from (at + n)
reach_past_white text from at n is reach = λ tokens rest. reach tokens (at_white n (sym is) rest)

pub reach_past_space : (text : List ℕ) (from at : ℕ) → at < length text → is_space (get_or text at 0) ≡ true → Reaches text from at → Reaches text from (at + 1)
reach_past_space text from at within h reach =
    let some : 0 < length (drop at text) = omega (arith, length-drop at text) in
    reach_past_white text from at 1 (white_at (drop at text) some (ap is_space (first_from text at) ∙ h)) reach

pub reach_to_end : (text : List ℕ) (from at : ℕ) → at ≡ length text → Reaches text from at → Spells text from []
reach_to_end text from at is reach = reach [] (at_end is)

-- the first token

-- a token of these bytes lies within the text
within_next : (text : List ℕ) (at n : ℕ) (kind : Shape) → 0 < n → at + n ≤ length text → IsInside (length text) (token_at kind at (at + n))
within_next text at n kind some within = record { some = omega arith; within = within }

next_whole : (text : List ℕ) (from at n : ℕ) (kind : Shape) → kind ≢ shape.Stray → piece.Nothing ≡ white_space (drop at text) → IsLexeme (drop at text) kind n
    → from ≤ at → 0 < n → at + n ≤ length text → Reaches text from at → IsNext text from (token_at kind at (at + n))
next_whole text from at n kind other is lexeme behind some within reach =
    let found : IsLongest (drop at text) kind n = longest_of (drop at text) kind n other lexeme in
    record {
      inside = within_next text at n kind some within;
      start = behind;
      last = λ fault. absurd (false≢true (sym (no_fault kind (take n (drop at text)) found.token) ∙ fault));
      first = λ sound rest spelled. reach _ (at_token n (sym is) found spelled);
    }

next_stray : (text : List ℕ) (from at n : ℕ) → piece.Nothing ≡ white_space (drop at text) → IsLexeme (drop at text) shape.Stray n
    → from ≤ at → 0 < n → at + n ≤ length text → Reaches text from at → IsNext text from (token_at shape.Stray at (at + n))
next_stray text from at n is lexeme behind some within reach =
    let one : n ≡ 1 = lexeme.0 in
    let alone : Spells text at (token_at shape.Stray at (at + 1) ∷ []) = at_stray (omega arith) (sym is) lexeme.1 in
    record {
      inside = within_next text at n shape.Stray some within;
      start = behind;
      last = λ fault. reach _ (rw one alone);
      first = λ sound. absurd (true≢false sound);
    }

next_by : (text : List ℕ) (from at n : ℕ) (kind : Shape) → piece.Nothing ≡ white_space (drop at text) → IsLexeme (drop at text) kind n
    → from ≤ at → 0 < n → at + n ≤ length text → Reaches text from at → IsNext text from (token_at kind at (at + n))
next_by text from at n shape.Stray is lexeme behind some within reach = next_stray text from at n is lexeme behind some within reach
next_by text from at n kind is lexeme behind some within reach = next_whole text from at n kind (λ e. cc) is lexeme behind some within reach

pub next_lexeme : (text : List ℕ) (from at n : ℕ) (kind : Shape) (token : Token) → token ≡ token_at kind at (at + n) → piece.Nothing ≡ white_space (drop at text)
    → IsLexeme (drop at text) kind n → from ≤ at → 0 < n → at + n ≤ length text → Reaches text from at → IsNext text from token
next_lexeme text from at n kind token made is lexeme behind some within reach = rw made (next_by text from at n kind is lexeme behind some within reach)

pub next_unending : (text : List ℕ) (from at : ℕ) (token : Token) → token ≡ token_at shape.Unending at (length text) → piece.Unending ≡ white_space (drop at text)
    → from ≤ at → at < length text → Reaches text from at → IsNext text from token
next_unending text from at token made is behind within reach =
    rw made
    (record {
      inside = record { some = within; within = omega arith };
      start = behind;
      last = λ fault. reach _ (at_unending (sym is));
      first = λ sound. absurd (true≢false sound);
    })

pub next_mark : (text : List ℕ) (from at : ℕ) (token : Token) → token ≡ token_at shape.Other at (at + 1) → at < length text → is_mark (get_or text at 0) ≡ true
    → from ≤ at → Reaches text from at → IsNext text from token
next_mark text from at token made within h behind reach =
    let some : 0 < length (drop at text) = omega (arith, length-drop at text) in
    let first : is_mark (get_or (drop at text) 0 0) ≡ true = ap is_mark (first_from text at) ∙ h in
    next_lexeme text from at 1 shape.Other token made (no_white_at (drop at text) some (mark_opens_none (get_or (drop at text) 0 0) first)) (mark_found (drop at text) some first)
    behind (omega arith) (omega arith) reach

pub next_name : (text : List ℕ) (from at n : ℕ) (token : Token) → token ≡ token_at shape.Name at (at + n) → at < length text → is_letter (get_or text at 0) ≡ true
    → IsLongest (drop at text) shape.Name n → from ≤ at → 0 < n → at + n ≤ length text → Reaches text from at → IsNext text from token
next_name text from at n token made within h name behind some fits reach =
    let many : 0 < length (drop at text) = omega (arith, length-drop at text) in
    let first : is_letter (get_or (drop at text) 0 0) ≡ true = ap is_letter (first_from text at) ∙ h in
    next_lexeme text from at n shape.Name token made (no_white_at (drop at text) many (letter_opens_none (get_or (drop at text) 0 0) first)) name behind some fits reach

-- some tokens that the rest of the text completes
abbrev pub HasFront : List ℕ → ℕ → Type 0
HasFront text from = (tokens : List Token) × Completes text from tokens

pub front_past_white : (text : List ℕ) (from n : ℕ) → piece.Takes n ≡ white_space (drop from text) → HasFront text from → HasFront text (from + n)
front_past_white text from n is front = (front.0, past_white text from n front.0 is front.1)

pub front_past_token : (text : List ℕ) (from n : ℕ) (kind : Shape) → kind ≢ shape.Stray → piece.Nothing ≡ white_space (drop from text) →
    IsLexeme (drop from text) kind n → HasFront text from → HasFront text (from + n)
front_past_token text from n kind whole is lexeme front =
    (front.0 ++ token_at kind from (from + n) ∷ [], past_token text from n front.0 _ (token_at kind from (from + n)) kind refl refl whole is lexeme front.1)

pub front_to_unending : (text : List ℕ) (from : ℕ) → piece.Unending ≡ white_space (drop from text) → HasFront text from →
    (tokens : List Token) × Spells text 0 tokens
front_to_unending text from is front =
    (_, to_unending text from front.0 (front.0 ++ token_at shape.Unending from (length text) ∷ []) _ refl refl is front.1)

pub front_to_stray : (text : List ℕ) (from n : ℕ) (kind : Shape) → kind ≡ shape.Stray → from < length text → piece.Nothing ≡ white_space (drop from text) →
    IsLexeme (drop from text) kind n → HasFront text from → (tokens : List Token) × Spells text 0 tokens
front_to_stray text from n kind stray within is lexeme front =
    (_, to_stray text from n front.0 (front.0 ++ token_at kind from (from + n) ∷ []) _ kind refl refl stray within is lexeme front.1)

pub front_to_end : (text : List ℕ) (from : ℕ) → from ≡ length text → HasFront text from → (tokens : List Token) × Spells text 0 tokens
front_to_end text from is front = (front.0, to_end text from front.0 is front.1)
