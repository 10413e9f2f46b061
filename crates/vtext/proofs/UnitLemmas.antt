-- The unit of the first directive, in a loop over the tokens.
use Rattle.std.proofs.Common.{◌≡◌, ℕ, ◌++◌, Bool, true, false, cond, List, [], ◌∷◌, Option, Some, None, option_map, unwrap_or, refl, sym, ap, ◌∙◌}
use Rattle.std.proofs.lemmas.List.Folds.{find-append}
use Rattle.std.specs.List.{find}
use Rattle.std.specs.Option.{option_and_then, option_or}
use Rattle.fourstate.specs.declared.unit.TimeUnit.{TimeUnit}
use Rattle.lexing.specs.declared.token.Shape.{Shape}
use Rattle.lexing.specs.declared.token.Shape.TheVariants as shape
use Rattle.lexing.specs.declared.token.Token.{Token}
use Rattle.vtext.specs.declared.word.Placed.{Placed}
use Rattle.vtext.specs.declared.word.Word.{Word}
use Rattle.vtext.specs.Words.{directive_word, first_unit, is_timescale, unit_at, word_by, word_of}
use Rattle.vtext.specs.kept.Words.{with_directive}

abbrev is_directive : Token → Bool
is_directive token = is_timescale token.shape

-- what a token says rests on the unit of the first directive only where it is a directive
word_by_unit : (s : Shape) (names : List (List ℕ)) (a b : Option TimeUnit) (text : List ℕ) (token : Token) → (is_timescale s ≡ true → a ≡ b) → word_by s names a text token ≡ word_by s names b text token
word_by_unit shape.Name names a b text token same = refl
word_by_unit shape.Escaped names a b text token same = refl
word_by_unit shape.Number names a b text token same = refl
word_by_unit shape.Constant names a b text token same = refl
word_by_unit shape.Timescale names a b text token same = ap (λ (first : Option TimeUnit). directive_word first (unit_at text token)) (same refl)
word_by_unit shape.Other names a b text token same = refl
word_by_unit shape.Unending names a b text token same = refl
word_by_unit shape.Stray names a b text token same = refl

module _ (u : Token → Option TimeUnit) (t : Token) where
  with_unit : (b : Bool) (o : Option Token) → cond b (Some (unwrap_or (option_map u o) (u t))) (option_map u o) ≡ option_map u (option_or o (cond b (Some t) None))
  with_unit true None = refl
  with_unit true (Some x) = refl
  with_unit false None = refl
  with_unit false (Some x) = refl

  first_of : (o rest : Option Token) → unwrap_or (option_map u (option_or o (Some t))) None ≡ option_and_then u (option_or (option_or o (Some t)) rest)
  first_of None rest = refl
  first_of (Some x) rest = refl

module _ (text : List ℕ) (before : List Token) (token : Token) where
  found : find is_directive (before ++ token ∷ []) ≡ option_or (find is_directive before) (cond (is_directive token) (Some token) None)
  found = find-append is_directive before (token ∷ [])

  -- the first directive so far, after one more token
  pub unit_more : (first : Option (Option TimeUnit)) → first ≡ option_map (unit_at text) (find is_directive before)
      → with_directive text first token ≡ option_map (unit_at text) (find is_directive (before ++ token ∷ []))
  unit_more first known =
      ap (λ (f : Option (Option TimeUnit)). with_directive text f token) known
      ∙ with_unit (unit_at text) token (is_directive token) (find is_directive before)
      ∙ sym (ap (option_map (unit_at text)) found)

  first_here : (rest : List Token) → is_directive token ≡ true
      → unwrap_or (option_map (unit_at text) (find is_directive (before ++ token ∷ []))) None ≡ first_unit text ((before ++ token ∷ []) ++ rest)
  first_here rest holds =
      let here : find is_directive (before ++ token ∷ []) ≡ option_or (find is_directive before) (Some token)
      = found ∙ ap (λ (b : Bool). option_or (find is_directive before) (cond b (Some token) None)) holds in
      let all : find is_directive ((before ++ token ∷ []) ++ rest) ≡ option_or (option_or (find is_directive before) (Some token)) (find is_directive rest)
      = find-append is_directive (before ++ token ∷ []) rest ∙ ap (λ (o : Option Token). option_or o (find is_directive rest)) here in
      ap (λ (o : Option Token). unwrap_or (option_map (unit_at text) o) None) here
      ∙ first_of (unit_at text) token (find is_directive before) (find is_directive rest) ∙ sym (ap (option_and_then (unit_at text)) all)

  -- what the token says is the same with the first directive so far as with that of the text
  pub same_word_so_far : (rest : List Token) (names : List (List ℕ)) (first : Option (Option TimeUnit)) (word : Placed)
      → first ≡ option_map (unit_at text) (find is_directive (before ++ token ∷ []))
      → word ≡ word_of names (unwrap_or first None) text token → word ≡ word_of names (first_unit text ((before ++ token ∷ []) ++ rest)) text token
  same_word_so_far rest names first word so_far says =
      says
      ∙ ap (λ (w : Word). record { word = w; start = token.start })
      (word_by_unit token.shape names (unwrap_or first None) (first_unit text ((before ++ token ∷ []) ++ rest)) text token
      (λ holds. ap (λ (f : Option (Option TimeUnit)). unwrap_or f None) so_far ∙ first_here rest holds))
