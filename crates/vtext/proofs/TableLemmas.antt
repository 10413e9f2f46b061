-- The table of names as it grows: a name keeps its number, and what it says.
use Rattle.std.proofs.Common.{◌≡◌, ◌≢◌, ℕ, ◌+◌, ◌<◌, ◌++◌, Bool, true, false, not, cond, ◌||◌, List, [], ◌∷◌, Option, Some, None, length, get_or, map, fold, refl, sym, ap, subst, ◌∙◌, arith}
use Rattle.std.proofs.lemmas.List.{append_assoc, get_or_append_left, get_or-map, length-append, map-append}
use Rattle.std.proofs.lemmas.List.Folds.{list_any-append, list_any_at}
use Rattle.std.proofs.lemmas.List.Quantifiers.{position-Some}
use Rattle.std.proofs.lemmas.List.Sums.{fold-append}
use Rattle.std.specs.List.{list_any, position_or_len}
use Rattle.std.specs.Str.{bytes_eq}
use Rattle.lexing.specs.Texts.{name_bytes}
use Rattle.lexing.specs.declared.token.Shape.{Shape}
use Rattle.lexing.specs.declared.token.Shape.TheVariants as shape
use Rattle.lexing.specs.declared.token.Token.{Token}
use Rattle.fourstate.specs.declared.unit.TimeUnit.{TimeUnit}
use Rattle.vtext.specs.declared.word.Placed.{Placed}
use Rattle.vtext.specs.declared.word.Word.{Word}
use Rattle.vtext.specs.Keywords.{name_word, plain_word}
use Rattle.vtext.specs.kept.Keywords.{meanings_of}
use Rattle.vtext.specs.Names.{number_of, with_name}
use Rattle.vtext.specs.Words.{is_named, names_of, with_token, word_by, word_of}
use Rattle.vtext.proofs.NumberLemmas.{found_at, is_itself, kept_by_token, numbered, or_first, there_from}

-- A name keeps its number.

place_stays : {X : Type 0} (p : X → Bool) (xs ys : List X) → list_any p xs ≡ true → position_or_len p (xs ++ ys) ≡ position_or_len p xs
place_stays p [] ys h = absurd cc
place_stays p (x ∷ xs) ys h = step (p x) (place_stays p xs ys) h
  where
    step : (b : Bool) → (list_any p xs ≡ true → position_or_len p (xs ++ ys) ≡ position_or_len p xs) → (b || list_any p xs) ≡ true
        → cond (not b) (1 + position_or_len p (xs ++ ys)) 0 ≡ cond (not b) (1 + position_or_len p xs) 0
    step true rest h = refl
    step false rest h = ap (λ n. 1 + n) (rest h)

number_stays : (names more : List (List ℕ)) (bytes : List ℕ) → list_any (bytes_eq bytes) names ≡ true → number_of (names ++ more) bytes ≡ number_of names bytes
number_stays names more bytes h =
    let there : list_any (bytes_eq bytes) (names ++ more) ≡ true = list_any-append (bytes_eq bytes) names more ∙ or_first (list_any (bytes_eq bytes) names) (list_any (bytes_eq bytes) more) h in
    found_at (bytes_eq bytes) (names ++ more) there ∙ ap Some (place_stays (bytes_eq bytes) names more h) ∙ sym (found_at (bytes_eq bytes) names h)

number_by_token : (text : List ℕ) (names : List (List ℕ)) (bytes : List ℕ) (token : Token) → list_any (bytes_eq bytes) names ≡ true
    → number_of (with_token text names token) bytes ≡ number_of names bytes
number_by_token text names bytes token h = step (is_named token.shape) (list_any (bytes_eq (name_bytes text token)) names)
  where
    step : (named there : Bool) → number_of (cond named (cond there names (names ++ name_bytes text token ∷ [])) names) bytes ≡ number_of names bytes
    step true true = refl
    step true false = number_stays names (name_bytes text token ∷ []) bytes h
    step false there = refl

number_kept : (text : List ℕ) (tokens : List Token) (names : List (List ℕ)) (bytes : List ℕ) → list_any (bytes_eq bytes) names ≡ true
    → number_of (fold (with_token text) names tokens) bytes ≡ number_of names bytes
number_kept text [] names bytes h = refl
number_kept text (token ∷ tokens) names bytes h =
    number_kept text tokens (with_token text names token) bytes (kept_by_token text names bytes token h) ∙ number_by_token text names bytes token h

-- A name says the same where its number is the same.

same_name : (names all : List (List ℕ)) (bytes : List ℕ) → number_of all bytes ≡ number_of names bytes → name_word all bytes ≡ name_word names bytes
same_name names all bytes e = rw e refl

same_meaning : (names all : List (List ℕ)) (bytes : List ℕ) → number_of all bytes ≡ number_of names bytes → plain_word all bytes ≡ plain_word names bytes
same_meaning names all bytes e = rw e refl

same_by : (kind : Shape) (names all : List (List ℕ)) (first : Option TimeUnit) (text : List ℕ) (token : Token)
    → (is_named kind ≡ true → number_of all (name_bytes text token) ≡ number_of names (name_bytes text token)) → word_by kind all first text token ≡ word_by kind names first text token
same_by shape.Name names all first text token same = same_meaning names all (name_bytes text token) (same refl)
same_by shape.Escaped names all first text token same = same_name names all (name_bytes text token) (same refl)
same_by shape.Number names all first text token same = refl
same_by shape.Constant names all first text token same = refl
same_by shape.Timescale names all first text token same = refl
same_by shape.Other names all first text token same = refl
same_by shape.Unending names all first text token same = refl
same_by shape.Stray names all first text token same = refl

same_word : (text : List ℕ) (first : Option TimeUnit) (names : List (List ℕ)) (token : Token) (rest : List Token)
    → word_of (fold (with_token text) names (token ∷ rest)) first text token ≡ word_of (with_token text names token) first text token
same_word text first names token rest =
    ap (λ (word : Word). record { word = word; start = token.start }) (same_by token.shape (with_token text names token) (fold (with_token text) names (token ∷ rest)) first text token
    (λ named. number_kept text rest (with_token text names token) (name_bytes text token) (there_from text [] [] token names named)))

-- The loop over the tokens.

all_from : (text : List ℕ) (before rest : List Token) (token : Token)
    → names_of text ((before ++ token ∷ []) ++ rest) ≡ fold (with_token text) (names_of text before) (token ∷ rest)
all_from text before rest token = ap (names_of text) (append_assoc before (token ∷ []) rest) ∙ fold-append (with_token text) [] before (token ∷ rest)

-- the names with those of one more token
pub names_more : (text : List ℕ) (before : List Token) (token : Token) (names after : List (List ℕ)) → names ≡ names_of text before → after ≡ with_token text names token
    → after ≡ names_of text (before ++ token ∷ [])
names_more text before token names after known more =
    more ∙ ap (λ (table : List (List ℕ)). with_token text table token) known ∙ sym (fold-append (with_token text) [] before (token ∷ []))

-- the words of the tokens before, and that of one more token, in a text of more tokens
pub words_more : (text : List ℕ) (first : Option TimeUnit) (before rest : List Token) (token : Token) (names after : List (List ℕ)) (words : List Placed) (word : Placed)
    → names ≡ names_of text before → after ≡ with_token text names token
    → words ≡ map (word_of (names_of text ((before ++ token ∷ []) ++ rest)) first text) before → word ≡ word_of after first text token
    → words ++ word ∷ [] ≡ map (word_of (names_of text ((before ++ token ∷ []) ++ rest)) first text) (before ++ token ∷ [])
words_more text first before rest token names after words word known more said says =
    let all : List (List ℕ) = names_of text ((before ++ token ∷ []) ++ rest) in
    let F : List (List ℕ) → Placed = λ table. word_of table first text token in
    let now : after ≡ with_token text (names_of text before) token = more ∙ ap (λ (table : List (List ℕ)). with_token text table token) known in
    let same : F all ≡ F (with_token text (names_of text before) token) = ap F (all_from text before rest token) ∙ same_word text first (names_of text before) token rest in
    ap (λ (list : List Placed). list ++ word ∷ []) said
    ∙ ap (λ (last : Placed). map (word_of all first text) before ++ last ∷ []) (says ∙ ap F now ∙ sym same)
    ∙ sym (map-append (word_of all first text) before (token ∷ []))

-- The meanings of names.

or_second : (a b c : Bool) → b ≡ true → (a || (b || c)) ≡ true
or_second true b c h = refl
or_second false b c h = rw h refl

same_from : (before after more : List (List ℕ)) → map (plain_word ((before ++ after) ++ more)) after ≡ map (plain_word (before ++ after)) after
same_from before [] more = refl
same_from before (name ∷ after) more =
    let names : List (List ℕ) = before ++ name ∷ after in
    let moved : (before ++ name ∷ []) ++ after ≡ names = append_assoc before (name ∷ []) after in
    let there : list_any (bytes_eq name) names ≡ true
    = list_any-append (bytes_eq name) before (name ∷ after) ∙ or_second (list_any (bytes_eq name) before) (bytes_eq name name) (list_any (bytes_eq name) after) (is_itself name) in
    let head : plain_word (names ++ more) name ≡ plain_word names name = same_meaning names (names ++ more) name (number_stays names more name there) in
    let rest : map (plain_word (names ++ more)) after ≡ map (plain_word names) after = rw moved at (same_from (before ++ name ∷ []) after more) in
    ap (λ (word : Word). word ∷ map (plain_word (names ++ more)) after) head ∙ ap (λ (words : List Word). plain_word names name ∷ words) rest

any_there : (names : List (List ℕ)) (bytes : List ℕ) (n : ℕ) → number_of names bytes ≡ Some n → list_any (bytes_eq bytes) names ≡ true
any_there names bytes n h =
    let at = position-Some (bytes_eq bytes) names n [] h in
    list_any_at (bytes_eq bytes) names n [] at.0 at.1

any_absent : (names : List (List ℕ)) (bytes : List ℕ) → number_of names bytes ≡ None → list_any (bytes_eq bytes) names ≡ false
any_absent names bytes h = step (list_any (bytes_eq bytes) names) refl
  where
    step : (there : Bool) → list_any (bytes_eq bytes) names ≡ there → list_any (bytes_eq bytes) names ≡ false
    step true e = let found = found_at (bytes_eq bytes) names e in absurd cc
    step false e = e

pub name_stays : (names : List (List ℕ)) (bytes : List ℕ) (n : ℕ) → number_of names bytes ≡ Some n → with_name names bytes ≡ names
name_stays names bytes n h = rw (any_there names bytes n h) refl

-- it keeps its number where another one is added
pub number_with : (names : List (List ℕ)) (bytes name : List ℕ) (n : ℕ) → number_of names name ≡ Some n → number_of (with_name names bytes) name ≡ Some n
number_with names bytes name n h = step (list_any (bytes_eq bytes) names)
  where
    step : (there : Bool) → number_of (cond there names (names ++ bytes ∷ [])) name ≡ Some n
    step true = h
    step false = number_stays names (bytes ∷ []) name (any_there names name n h) ∙ h

-- a name is new where its number is the last one
pub number_is_new : (names all : List (List ℕ)) (bytes : List ℕ) (n : ℕ) → all ≡ with_name names bytes → number_of all bytes ≡ Some n → n ≡ length names → number_of names bytes ≡ None
number_is_new names all bytes n longer h last = step (number_of names bytes) refl
  where
    step : (o : Option ℕ) → number_of names bytes ≡ o → number_of names bytes ≡ None
    step (Some k) e =
        let same : all ≡ names = longer ∙ name_stays names bytes k e in
        let found : number_of names bytes ≡ Some n = sym (ap (λ table. number_of table bytes) same) ∙ h in
        absurd (omega (arith, (numbered names bytes n found).0))
    step None e = e

-- no name is new where the number is another one
pub number_is_old : (names all : List (List ℕ)) (bytes : List ℕ) (n : ℕ) → all ≡ with_name names bytes → number_of all bytes ≡ Some n → n ≢ length names → all ≡ names
number_is_old names all bytes n longer h other = step (number_of names bytes) refl
  where
    step : (o : Option ℕ) → number_of names bytes ≡ o → all ≡ names
    step (Some k) e = longer ∙ name_stays names bytes k e
    step None e =
        let absent : list_any (bytes_eq bytes) names ≡ false = any_absent names bytes e in
        let appended : with_name names bytes ≡ names ++ bytes ∷ [] = rw absent refl in
        let at = position-Some (bytes_eq bytes) (names ++ bytes ∷ []) n [] (sym (ap (λ table. number_of table bytes) (longer ∙ appended)) ∙ h) in
        let inside : n < length names = omega (arith, at.0, length-append names (bytes ∷ [])) in
        let there : list_any (bytes_eq bytes) names ≡ true
        = list_any_at (bytes_eq bytes) names n [] inside (sym (ap (bytes_eq bytes) (get_or_append_left names (bytes ∷ []) [] n inside)) ∙ at.1) in
        absurd cc

meanings_added : (names : List (List ℕ)) (bytes : List ℕ) (word : Word) → word ≡ plain_word (names ++ bytes ∷ []) bytes
    → meanings_of names ++ word ∷ [] ≡ meanings_of (names ++ bytes ∷ [])
meanings_added names bytes word e =
    ap (λ (words : List Word). words ++ word ∷ []) (sym (same_from [] names (bytes ∷ []))) ∙ ap (λ (last : Word). map (plain_word (names ++ bytes ∷ [])) names ++ last ∷ []) e
    ∙ sym (map-append (plain_word (names ++ bytes ∷ [])) names (bytes ∷ []))

pub meanings_more : (names all : List (List ℕ)) (bytes : List ℕ) (meanings : List Word) (word : Word) → number_of names bytes ≡ None → all ≡ with_name names bytes
    → meanings ≡ meanings_of names → word ≡ plain_word all bytes → meanings ++ word ∷ [] ≡ meanings_of all
meanings_more names all bytes meanings word h longer meant =
    let P : List (List ℕ) → Type 0 = λ table. word ≡ plain_word table bytes → meanings ++ word ∷ [] ≡ meanings_of table in
    let appended : names ++ bytes ∷ [] ≡ with_name names bytes = rw (any_absent names bytes h) refl in
    subst P (appended ∙ sym longer) (λ e. ap (λ (words : List Word). words ++ word ∷ []) meant ∙ meanings_added names bytes word e)

pub meaning_at : (names : List (List ℕ)) (bytes : List ℕ) (n : ℕ) (d : Word) → number_of names bytes ≡ Some n → get_or (meanings_of names) n d ≡ plain_word names bytes
meaning_at names bytes n d h =
    let at = numbered names bytes n h in
    get_or-map (plain_word names) names n [] d at.0 ∙ ap (plain_word names) at.1
