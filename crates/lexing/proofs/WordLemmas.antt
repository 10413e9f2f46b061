-- The words of directives.
use Rattle.std.proofs.Common.{◌≡◌, ◌≢◌, ℕ, Bool, true, false, cond, List, [], ◌∷◌, ◌++◌, None, Some, length, take, drop, refl, sym, ap, ◌∙◌, arith, nat_eq}
use Rattle.std.proofs.lemmas.List.{take-append-drop}
use Rattle.std.proofs.lemmas.Slice.Eq.{bytes_eq-Decides}
use Rattle.lexing.specs.Classes.{is_space}
use Rattle.lexing.specs.Directives.{Reading, begins_with, word_of, magnitude, unit, magnitudes, units}
use Rattle.fourstate.specs.declared.unit.Magnitude.{Magnitude}
use Rattle.fourstate.specs.declared.unit.Magnitude.TheVariants.{One, Ten, Hundred}
use Rattle.fourstate.specs.declared.unit.Unit as times

abbrev pub value_or : {A : Type 0} → A → Reading A → A
value_or d None = d
value_or d (Some part) = part.0

abbrev pub rest_or : {A : Type 0} → List ℕ → Reading A → List ℕ
rest_or d None = d
rest_or d (Some part) = part.1

pub none_or_read : {A : Type 0} (part : A × List ℕ) → ◌≡◌ {A = Reading A} None (Some part) → ⊥
none_or_read part e = cc

-- bytes that begin with a word are the word and what is behind it
pub whole_word : (word bytes : List ℕ) → begins_with word bytes ≡ true → bytes ≡ word ++ drop (length word) bytes
whole_word word bytes h =
    let same : word ≡ take (length word) bytes = (bytes_eq-Decides word (take (length word) bytes)).0 h in
    sym (take-append-drop (length word) bytes) ∙ ap (λ front. front ++ drop (length word) bytes) (sym same)

-- P holds of each word with its meaning
abbrev Each : {A : Type 0} → (List ℕ → A → Type 0) → List (List ℕ × A) → Type 0
Each P [] = Unit {0}
Each P (word ∷ words) = P word.0 word.1 × Each P words

-- a word that was read is one of them
pub record IsWordRead {A : Type 0} (P : List ℕ → A → Type 0) (bytes : List ℕ) (value : A) (rest : List ℕ) : Type 0 where
  pub word : List ℕ
  pub known : P word value
  pub whole : bytes ≡ word ++ rest

read_by : {A : Type 0} (P : List ℕ → A → Type 0) (test : Bool) (word : List ℕ) (meaning : A) (others : Reading A) (bytes : List ℕ) (value : A)
    (rest : List ℕ) → begins_with word bytes ≡ test → P word meaning → cond test (Some (meaning, drop (length word) bytes)) others ≡ Some (value, rest) →
    (others ≡ Some (value, rest) → IsWordRead P bytes value rest) → IsWordRead P bytes value rest
read_by P true word meaning others bytes value rest is known e h =
    let same : meaning ≡ value = ap (value_or meaning) e in
    let behind : drop (length word) bytes ≡ rest = ap (rest_or rest) e in
    record { word = word; known = rw (← same) known; whole = whole_word word bytes is ∙ ap (λ l. word ++ l) behind }
read_by P false word meaning others bytes value rest is known e h = h e

word_read : {A : Type 0} (P : List ℕ → A → Type 0) (words : List (List ℕ × A)) (bytes : List ℕ) (value : A) (rest : List ℕ) → Each P words →
    word_of words bytes ≡ Some (value, rest) → IsWordRead P bytes value rest
word_read P [] bytes value rest each e = absurd (none_or_read _ e)
word_read P (word ∷ words) bytes value rest each e =
    read_by P (begins_with word.0 bytes) word.0 word.1 (word_of words bytes) bytes value rest refl each.0 e
    (λ later. word_read P words bytes value rest each.1 later)

-- a word of a unit begins with a letter and is read whatever follows
pub record IsUnitWord (word : List ℕ) (meaning : times.Unit) : Type 0 where
  pub head : ℕ
  pub tail : List ℕ
  pub is : word ≡ head ∷ tail
  pub solid : is_space head ≡ false
  pub no_slash : head ≢ 47
  pub no_parenthesis : head ≢ 40
  pub again : (more : List ℕ) → unit (word ++ more) ≡ Some (meaning, more)

unit_words : Each IsUnitWord units
unfolding is_space unit
unit_words = (
  record { head = 115; tail = []; is = refl; solid = refl; no_slash = omega arith; no_parenthesis = omega arith; again = λ more. refl },
  (
    record { head = 109; tail = 115 ∷ []; is = refl; solid = refl; no_slash = omega arith; no_parenthesis = omega arith; again = λ more. refl },
    (
      record { head = 117; tail = 115 ∷ []; is = refl; solid = refl; no_slash = omega arith; no_parenthesis = omega arith; again = λ more. refl },
      (
        record { head = 110; tail = 115 ∷ []; is = refl; solid = refl; no_slash = omega arith; no_parenthesis = omega arith; again = λ more. refl },
        (
          record { head = 112; tail = 115 ∷ []; is = refl; solid = refl; no_slash = omega arith; no_parenthesis = omega arith; again = λ more. refl },
          (
            record { head = 102; tail = 115 ∷ []; is = refl; solid = refl; no_slash = omega arith; no_parenthesis = omega arith; again = λ more. refl },
            tt,
          ),
        ),
      ),
    ),
  ),
)

pub unit_read : (bytes : List ℕ) (value : times.Unit) (rest : List ℕ) → unit bytes ≡ Some (value, rest) → IsWordRead IsUnitWord bytes value rest
unfolding unit
unit_read bytes value rest e = word_read IsUnitWord units bytes value rest unit_words e

-- a magnitude begins with 1, and is read whatever follows the byte behind it
pub record IsMagnitudeWord (word : List ℕ) (meaning : Magnitude) : Type 0 where
  pub tail : List ℕ
  pub is : word ≡ 49 ∷ tail
  pub again : (x : ℕ) (rest more : List ℕ) → magnitude (word ++ x ∷ rest) ≡ Some (meaning, x ∷ rest) → magnitude (word ++ x ∷ more) ≡ Some (meaning, x ∷ more)

hundred_is_ten : Hundred ≡ Ten → ⊥
hundred_is_ten e = cc

hundred_is_one : Hundred ≡ One → ⊥
hundred_is_one e = cc

ten_is_one : Ten ≡ One → ⊥
ten_is_one e = cc

hundred_or_ten : (v : Bool) (a b c : List ℕ) → cond {A = Reading Magnitude} v (Some (Hundred, a)) (Some (Ten, b)) ≡ Some (One, c) → ⊥
hundred_or_ten true a b c e = hundred_is_one (ap (value_or One) e)
hundred_or_ten false a b c e = ten_is_one (ap (value_or One) e)

ten_by : (x : ℕ) (rest more : List ℕ) (v : Bool) → nat_eq 48 x ≡ v → magnitude (49 ∷ 48 ∷ x ∷ rest) ≡ Some (Ten, x ∷ rest) →
    magnitude (49 ∷ 48 ∷ x ∷ more) ≡ Some (Ten, x ∷ more)
unfolding magnitude
ten_by x rest more true is e = let read = rw is at e in absurd (hundred_is_ten (ap (value_or One) read))
ten_by x rest more false is e = rw is refl

one_by : (x : ℕ) (rest more : List ℕ) (v : Bool) → nat_eq 48 x ≡ v → magnitude (49 ∷ x ∷ rest) ≡ Some (One, x ∷ rest) →
    magnitude (49 ∷ x ∷ more) ≡ Some (One, x ∷ more)
unfolding magnitude
one_by x rest more true is e = let read = rw is at e in absurd (hundred_or_ten _ _ _ _ read)
one_by x rest more false is e = rw is refl

hundred_again : (rest : List ℕ) → magnitude (49 ∷ 48 ∷ 48 ∷ rest) ≡ Some (Hundred, rest)
unfolding magnitude
hundred_again rest = refl

magnitude_words : Each IsMagnitudeWord magnitudes
magnitude_words = (
  record { tail = 48 ∷ 48 ∷ []; is = refl; again = λ x rest more e. hundred_again (x ∷ more) },
  (
    record { tail = 48 ∷ []; is = refl; again = λ x rest more e. ten_by x rest more (nat_eq 48 x) refl e },
    (
      record { tail = []; is = refl; again = λ x rest more e. one_by x rest more (nat_eq 48 x) refl e },
      tt,
    ),
  ),
)

pub magnitude_read : (bytes : List ℕ) (value : Magnitude) (rest : List ℕ) → magnitude bytes ≡ Some (value, rest) → IsWordRead IsMagnitudeWord bytes value rest
unfolding magnitude
magnitude_read bytes value rest e = word_read IsMagnitudeWord magnitudes bytes value rest magnitude_words e
