-- What the tokens of a text say, one after another.
use Rattle.std.proofs.Common.{◌≡◌, ◌≤◌, ℕ, true, false, List, [], ◌∷◌, ◌++◌, Option, None, length, map, option_map, unwrap_or, append-nil, append_assoc, sym, subst, ◌∙◌, arith}
use Rattle.std.specs.List.{find}
use Rattle.std.proofs.lemmas.List.Elements.{All-push}
use Rattle.fourstate.specs.declared.unit.TimeUnit.{TimeUnit}
use Rattle.lexing.specs.Texts.{Spells}
use Rattle.lexing.specs.kept.Texts.{IsInside, IsNext, is_fault}
use Rattle.lexing.specs.declared.token.Token.{Token}
use Rattle.vtext.specs.declared.word.Placed.{Placed}
use Rattle.vtext.specs.Words.{first_unit, is_timescale, names_of, unit_at, with_token, word_of}
use Rattle.vtext.specs.kept.Words.{AreSaid, AreWithin, with_directive}
use Rattle.vtext.proofs.TableLemmas.{names_more, words_more}
use Rattle.vtext.proofs.UnitLemmas.{same_word_so_far, unit_more}

-- what these tokens say, whatever tokens follow
pub record Said (text : List ℕ) (tokens : List Token) (names : List (List ℕ)) (first : Option (Option TimeUnit)) (words : List Placed) : Type 0 where
  pub named : names ≡ names_of text tokens
  pub directive : first ≡ option_map (unit_at text) (find (λ (token : Token). is_timescale token.shape) tokens)
  pub said : (rest : List Token) → words ≡ map (word_of (names_of text (tokens ++ rest)) (first_unit text (tokens ++ rest)) text) tokens

-- what the tokens in front of a place say
pub record SoFar (text : List ℕ) (from : ℕ) (names : List (List ℕ)) (first : Option (Option TimeUnit)) (words : List Placed) : Type 0 where
  pub tokens : List Token
  pub completed : (rest : List Token) → Spells text from rest → Spells text 0 (tokens ++ rest)
  pub are : Said text tokens names first words

said_more : (text : List ℕ) (tokens : List Token) (token : Token) (names after : List (List ℕ)) (first next : Option (Option TimeUnit)) (words all : List Placed) (word : Placed)
    → after ≡ with_token text names token → next ≡ with_directive text first token → word ≡ word_of after (unwrap_or next None) text token → all ≡ words ++ word ∷ []
    → Said text tokens names first words → Said text (tokens ++ token ∷ []) after next all
said_more text tokens token names after first next words all word more unit says whole h =
    let so_far : next ≡ option_map (unit_at text) (find (λ (t : Token). is_timescale t.shape) (tokens ++ token ∷ [])) = unit ∙ unit_more text tokens token first h.directive in
    record {
      named = names_more text tokens token names after h.named more;
      directive = so_far;
      said = λ rest.
          let list : List Token = (tokens ++ token ∷ []) ++ rest in
          let before : words ≡ map (word_of (names_of text list) (first_unit text list) text) tokens
          = subst (λ (ts : List Token). words ≡ map (word_of (names_of text ts) (first_unit text ts) text) tokens) (sym (append_assoc tokens (token ∷ []) rest)) (h.said (token ∷ rest)) in
          whole
          ∙ words_more text (first_unit text list) tokens rest token names after words word h.named more before (same_word_so_far text tokens token rest after next word so_far says);
    }

are_said : (text : List ℕ) (tokens : List Token) (names : List (List ℕ)) (first : Option (Option TimeUnit)) (words : List Placed) → Spells text 0 tokens
    → Said text tokens names first words → AreSaid text names words
are_said text tokens names first words spelled h = record {
  tokens = tokens;
  spelled = spelled;
  named = h.named;
  said = subst (λ (ts : List Token). words ≡ map (word_of (names_of text ts) (first_unit text ts) text) tokens) (append-nil tokens) (h.said []);
}

module _ (text : List ℕ) (from : ℕ) (names : List (List ℕ)) (first : Option (Option TimeUnit)) (words : List Placed) (h : SoFar text from names first words) where
  -- nothing follows
  pub said_at_end : Spells text from [] → AreSaid text names words
  said_at_end ends = are_said text h.tokens names first words (subst (Spells text 0) (append-nil h.tokens) (h.completed [] ends)) h.are

  module _ (token : Token) (after : List (List ℕ)) (next : Option (Option TimeUnit)) (word : Placed) (all : List Placed) (is_next : IsNext text from token)
      (more : after ≡ with_token text names token) (unit : next ≡ with_directive text first token) (says : word ≡ word_of after (unwrap_or next None) text token)
      (whole : all ≡ words ++ word ∷ []) where
    -- the last token follows
    pub said_at_last : is_fault token.shape ≡ true → AreSaid text after all
    said_at_last fault =
        are_said text (h.tokens ++ token ∷ []) after next all (h.completed (token ∷ []) (is_next.last fault)) (said_more text h.tokens token names after first next words all word more unit says whole h.are)

    -- a token follows
    pub so_far_more : is_fault token.shape ≡ false → SoFar text token.end after next all
    so_far_more sound = record {
      tokens = h.tokens ++ token ∷ [];
      completed = λ rest spelled. subst (Spells text 0) (sym (append_assoc h.tokens (token ∷ []) rest)) (h.completed (token ∷ rest) (is_next.first sound rest spelled));
      are = said_more text h.tokens token names after first next words all word more unit says whole h.are;
    }

pub within_more : (text : List ℕ) (token : Token) (words all : List Placed) (word : Placed) → IsInside (length text) token → word.start ≡ token.start → all ≡ words ++ word ∷ []
    → AreWithin text words → AreWithin text all
within_more text token words all word inside start whole within =
    rw whole (All-push (λ (w : Placed). w.start ≤ length text) words word within (omega (arith, start, inside.some, inside.within)))
