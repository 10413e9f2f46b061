-- Names and their numbers.
use Rattle.std.proofs.Common.{◌≡◌, ℕ, ◌+◌, ◌<◌, ◌++◌, Bool, true, false, not, cond, ltb, ◌||◌, List, [], ◌∷◌, Some, None, IsSome, length, get_or, map, fold, refl, sym, ap, subst, ◌∙◌, arith}
use Rattle.std.proofs.lemmas.Bool.Decides.{nat_tests}
use Rattle.std.proofs.lemmas.List.Folds.{list_any-append}
use Rattle.std.proofs.lemmas.List.Quantifiers.{position-Some}
use Rattle.std.proofs.lemmas.Slice.Eq.{bytes_eq-Decides}
use Rattle.std.specs.List.{list_any, position, position_or_len}
use Rattle.std.specs.Str.{bytes_eq}
use Rattle.indexmap.specs.IndexSet.{insert_key}
use Rattle.lexing.specs.Texts.{name_bytes}
use Rattle.lexing.specs.declared.token.Token.{Token}
use Rattle.vtext.specs.Names.{name_at, number_of, with_name}
use Rattle.vtext.specs.Words.{is_named, names_of, with_token}
use Rattle.vtext.proofs.NameLemmas.{first_mapped, text_added}

pub numbered : (names : List (List ℕ)) (bytes : List ℕ) (n : ℕ) → number_of names bytes ≡ Some n → (n < length names) × (name_at names n ≡ bytes)
numbered names bytes n e =
    let at = position-Some (bytes_eq bytes) names n [] e in
    (at.0, sym ((bytes_eq-Decides bytes (get_or names n [])).0 at.1))

pub one_name : (names : List (List ℕ)) (a b : List ℕ) (n : ℕ) → number_of names a ≡ Some n → number_of names b ≡ Some n → a ≡ b
one_name names a b n d e = sym (numbered names a n d).1 ∙ (numbered names b n e).1

-- A name that is there has a number.

place_in : {X : Type 0} (p : X → Bool) (xs : List X) → list_any p xs ≡ true → position_or_len p xs < length xs
place_in p [] h = absurd cc
place_in p (x ∷ xs) h = step (p x) (place_in p xs) h
  where
    step : (b : Bool) → (list_any p xs ≡ true → position_or_len p xs < length xs) → (b || list_any p xs) ≡ true → cond (not b) (1 + position_or_len p xs) 0 < length (x ∷ xs)
    step true rest h = omega arith
    step false rest h = let more = rest h in omega (arith, more)

found_if : (a b : ℕ) → a < b → cond (ltb a b) (Some a) None ≡ Some a
found_if a b h = let t : ltb a b ≡ true = grind (arith, nat_tests) in rw t refl

pub found_at : {X : Type 0} (p : X → Bool) (xs : List X) → list_any p xs ≡ true → position p xs ≡ Some (position_or_len p xs)
found_at p xs h = found_if (position_or_len p xs) (length xs) (place_in p xs h)

has_number : (names : List (List ℕ)) (bytes : List ℕ) → list_any (bytes_eq bytes) names ≡ true → IsSome (number_of names bytes)
has_number names bytes h = rw (found_at (bytes_eq bytes) names h) refl

-- The table keeps its names.

pub or_first : (a b : Bool) → a ≡ true → (a || b) ≡ true
or_first a b h = rw h refl

kept_by_name : (names : List (List ℕ)) (bytes other : List ℕ) → list_any (bytes_eq bytes) names ≡ true → list_any (bytes_eq bytes) (with_name names other) ≡ true
kept_by_name names bytes other h = step (list_any (bytes_eq other) names)
  where
    step : (there : Bool) → list_any (bytes_eq bytes) (cond there names (names ++ other ∷ [])) ≡ true
    step true = h
    step false = list_any-append (bytes_eq bytes) names (other ∷ []) ∙ or_first (list_any (bytes_eq bytes) names) (bytes_eq bytes other || false) h

pub kept_by_token : (text : List ℕ) (names : List (List ℕ)) (bytes : List ℕ) (token : Token) → list_any (bytes_eq bytes) names ≡ true → list_any (bytes_eq bytes) (with_token text names token) ≡ true
kept_by_token text names bytes token h = step (is_named token.shape)
  where
    step : (named : Bool) → list_any (bytes_eq bytes) (cond named (with_name names (name_bytes text token)) names) ≡ true
    step true = kept_by_name names bytes (name_bytes text token) h
    step false = h

kept : (text : List ℕ) (tokens : List Token) (names : List (List ℕ)) (bytes : List ℕ) → list_any (bytes_eq bytes) names ≡ true → list_any (bytes_eq bytes) (fold (with_token text) names tokens) ≡ true
kept text [] names bytes h = h
kept text (token ∷ tokens) names bytes h = kept text tokens (with_token text names token) bytes (kept_by_token text names bytes token h)

-- A token's name is in the table from then on.

pub is_itself : (bytes : List ℕ) → bytes_eq bytes bytes ≡ true
is_itself bytes = (bytes_eq-Decides bytes bytes).1 refl

or_last : (a b : Bool) → b ≡ true → (a || (b || false)) ≡ true
or_last true b h = refl
or_last false b h = rw h refl

added : (names : List (List ℕ)) (bytes : List ℕ) → list_any (bytes_eq bytes) (with_name names bytes) ≡ true
added names bytes = step (list_any (bytes_eq bytes) names) refl
  where
    step : (there : Bool) → list_any (bytes_eq bytes) names ≡ there → list_any (bytes_eq bytes) (cond there names (names ++ bytes ∷ [])) ≡ true
    step true h = h
    step false h = list_any-append (bytes_eq bytes) names (bytes ∷ []) ∙ or_last (list_any (bytes_eq bytes) names) (bytes_eq bytes bytes) (is_itself bytes)

pub there_from : (text : List ℕ) (before after : List Token) (token : Token) (names : List (List ℕ)) → is_named token.shape ≡ true
    → list_any (bytes_eq (name_bytes text token)) (fold (with_token text) names (before ++ token ∷ after)) ≡ true
there_from text [] after token names named =
    let bytes : List ℕ = name_bytes text token in
    let P : List (List ℕ) → Type 0 = λ table. list_any (bytes_eq bytes) table ≡ true in
    let now : with_token text names token ≡ with_name names bytes = ap (λ (b : Bool). cond b (with_name names bytes) names) named in
    kept text after (with_token text names token) bytes (subst P (sym now) (added names bytes))
there_from text (first ∷ before) after token names named = there_from text before after token (with_token text names first) named

pub name_there : (text : List ℕ) (before after : List Token) (token : Token) → is_named token.shape ≡ true
    → IsSome (number_of (names_of text (before ++ token ∷ after)) (name_bytes text token))
name_there text before after token named = has_number (names_of text (before ++ token ∷ after)) (name_bytes text token) (there_from text before after token [] named)

-- The number of a name that is added.

place_added : {X : Type 0} (p : X → Bool) (xs : List X) (x : X) → p x ≡ true → position_or_len p (xs ++ x ∷ []) ≡ position_or_len p xs
place_added p [] x h = rw h refl
place_added p (first ∷ xs) x h = ap (λ n. cond (not (p first)) (1 + n) 0) (place_added p xs x h)

place_named : (names : List (List ℕ)) (bytes : List ℕ) → position_or_len (bytes_eq bytes) (with_name names bytes) ≡ position_or_len (bytes_eq bytes) names
place_named names bytes = step (list_any (bytes_eq bytes) names)
  where
    step : (there : Bool) → position_or_len (bytes_eq bytes) (cond there names (names ++ bytes ∷ [])) ≡ position_or_len (bytes_eq bytes) names
    step true = refl
    step false = place_added (bytes_eq bytes) names bytes (is_itself bytes)

added_number : (names : List (List ℕ)) (bytes : List ℕ) → number_of (with_name names bytes) bytes ≡ Some (position_or_len (bytes_eq bytes) names)
added_number names bytes = found_at (bytes_eq bytes) (with_name names bytes) (added names bytes) ∙ ap Some (place_named names bytes)

pub text_number : {A : Type 0} (f : A → List ℕ) (xs : List A) (x : A) (name : List ℕ) (place : ℕ) → f x ≡ name → place ≡ position_or_len (λ y. bytes_eq (f x) (f y)) xs
    → number_of (map f (insert_key (λ a b. bytes_eq (f a) (f b)) xs x)) name ≡ Some place
text_number f xs x name place e h =
    ap (λ (names : List (List ℕ)). number_of names name) (text_added f xs x name e) ∙ added_number (map f xs) name
    ∙ ap Some (first_mapped f (bytes_eq name) xs ∙ ap (λ (bytes : List ℕ). position_or_len (λ y. bytes_eq bytes (f y)) xs) (sym e) ∙ sym h)
