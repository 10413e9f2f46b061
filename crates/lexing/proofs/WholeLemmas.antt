-- A directive is one by its own bytes, whatever follows.
use Rattle.std.proofs.Common.{subst, ◌≡◌, ◌≢◌, ◌+◌, ◌<◌, ℕ, Bool, true, false, cond, ◌&&◌, List, [], ◌∷◌, ◌++◌, None, Some, length, drop, refl, sym, ap, ◌∙◌, arith, append_assoc, length-append, nat_lt, codes}
use Rattle.std.proofs.lemmas.Bool.{and_parts, ltb-true}
use Rattle.std.proofs.lemmas.Bool.Decides.{nat_tests}
use Rattle.lexing.proofs.GapLemmas.{gap_of, behind_done, white_pair, nothing_takes}
use Rattle.lexing.proofs.SpaceLemmas.{none_in_front}
use Rattle.lexing.proofs.TestLemmas.{not_equal}
use Rattle.lexing.proofs.WordLemmas.{IsMagnitudeWord, unit_read, magnitude_read, whole_word, value_or, rest_or, none_or_read}
use Rattle.lexing.specs.Classes.{is_space}
use Rattle.lexing.specs.Directives.{Reading, begins_with, then_read, magnitude, unit, literal, precision, literals, directive}
use Rattle.lexing.specs.Spaces.{white_space, opening_of, behind_white}
use Rattle.lexing.specs.declared.spaces.White.TheVariants as piece
use Rattle.fourstate.specs.declared.unit.Magnitude.{Magnitude}
use Rattle.fourstate.specs.declared.unit.TimeUnit.{TimeUnit}
use Rattle.fourstate.specs.declared.unit.Unit as times

-- a byte that begins no white space, whatever follows

solid_alone : (t n : ℕ) → is_space t ≡ false → white_space (t ∷ []) ≢ piece.Takes n
unfolding white_space opening_of
solid_alone t n solid e = let nothing = rw solid at e in nothing_takes n nothing

solid_pair : (t b n : ℕ) (bs : List ℕ) → is_space t ≡ false → t ≢ 47 → t ≢ 40 → white_space (t ∷ b ∷ bs) ≢ piece.Takes n
solid_pair t b n bs solid slash parenthesis e =
    let pair = sym (white_pair t b bs) ∙ e in
    let nothing = rw (solid, not_equal t 47 slash, not_equal t 40 parenthesis) at pair in
    nothing_takes n nothing

solid_front : (t : ℕ) (more : List ℕ) (n : ℕ) → is_space t ≡ false → t ≢ 47 → t ≢ 40 → white_space (t ∷ more) ≢ piece.Takes n
solid_front t [] n solid slash parenthesis e = solid_alone t n solid e
solid_front t (b ∷ bs) n solid slash parenthesis e = solid_pair t b n bs solid slash parenthesis e

one_is_solid : is_space 49 ≡ false
unfolding is_space
one_is_solid = refl

slash_is_solid : is_space 47 ≡ false
unfolding is_space
slash_is_solid = refl

star_is_solid : is_space 42 ≡ false
unfolding is_space
star_is_solid = refl

-- readings one behind the other

record IsRead {A B : Type 0} (read : Reading A) (next : A → List ℕ → Reading B) (value : B) (rest : List ℕ) : Type 0 where
  first : A
  between : List ℕ
  reads : read ≡ Some (first, between)
  goes : next first between ≡ Some (value, rest)

then_parts : {A B : Type 0} (read : Reading A) (next : A → List ℕ → Reading B) (value : B) (rest : List ℕ) → then_read read next ≡ Some (value, rest) →
    IsRead read next value rest
then_parts None next value rest e = absurd (none_or_read _ e)
then_parts (Some part) next value rest e = record { first = part.0; between = part.1; reads = refl; goes = e }

-- a literal

-- the literal's bytes, in front of the rest; their white space in front has `gap` bytes
pub record IsLiteral (bytes : List ℕ) (value : TimeUnit) (rest : List ℕ) : Type 0 where
  pub front : List ℕ
  pub whole : bytes ≡ front ++ rest
  pub some : 0 < length front
  pub gap : ℕ
  pub gap_is : (more : List ℕ) → length (behind_white (front ++ more)) + gap ≡ length (front ++ more)
  pub again : (more : List ℕ) → literal (front ++ more) ≡ Some (value, more)

literal_from : (bytes between rest : List ℕ) (m : Magnitude) (u : times.Unit) → magnitude (behind_white bytes) ≡ Some (m, between) →
    unit (behind_white between) ≡ Some (u, rest) → literal bytes ≡ Some (record { magnitude = m; unit = u }, rest)
unfolding literal
literal_from bytes between rest m u first second = rw (first, second) refl

magnitude_again : (word : List ℕ) (m : Magnitude) → IsMagnitudeWord word m → (front : List ℕ) (head : ℕ) (rest more : List ℕ) →
    magnitude (word ++ (front ++ head ∷ rest)) ≡ Some (m, front ++ head ∷ rest) → magnitude (word ++ (front ++ head ∷ more)) ≡ Some (m, front ++ head ∷ more)
magnitude_again word m known [] head rest more e = known.again head rest more e
magnitude_again word m known (f ∷ fs) head rest more e = known.again f (fs ++ head ∷ rest) (fs ++ head ∷ more) e

-- the parts of a literal, and what follows them
abbrev parts_then : List ℕ → List ℕ → List ℕ → ℕ → List ℕ → List ℕ → List ℕ
parts_then before tail between head end more = before ++ 49 ∷ (tail ++ (between ++ head ∷ (end ++ more)))

abbrev parts_of : List ℕ → List ℕ → List ℕ → ℕ → List ℕ → List ℕ
parts_of before tail between head end = before ++ 49 ∷ (tail ++ (between ++ head ∷ end))

parts_more : (before tail between : List ℕ) (head : ℕ) (end more : List ℕ) →
    parts_of before tail between head end ++ more ≡ parts_then before tail between head end more
parts_more before tail between head end more = simp append_assoc

parts_some : (before tail between : List ℕ) (head : ℕ) (end : List ℕ) → 0 < length (parts_of before tail between head end)
parts_some before tail between head end = omega (arith, length-append before (49 ∷ (tail ++ (between ++ head ∷ end))))

parts_gap : (before rest : List ℕ) (t : ℕ) → behind_white (before ++ t ∷ rest) ≡ t ∷ rest → length (behind_white (before ++ t ∷ rest)) + length before ≡ length (before ++ t ∷ rest)
parts_gap before rest t e = rw e (omega (arith, length-append before (t ∷ rest)))

-- white space, a magnitude, white space and a unit are a literal, whatever follows
literal_of : (bytes between rest : List ℕ) (m : Magnitude) (u : times.Unit) → magnitude (behind_white bytes) ≡ Some (m, between) →
    unit (behind_white between) ≡ Some (u, rest) → IsLiteral bytes (record { magnitude = m; unit = u }) rest
literal_of bytes between rest m u first second =
    let one = magnitude_read (behind_white bytes) m between first in
    let two = unit_read (behind_white between) u rest second in
    let head = two.known.head in
    let end = two.known.tail in
    let tail = one.known.tail in
    let gap = gap_of 0 bytes 49 (tail ++ between) one_is_solid (one.whole ∙ ap (λ w. w ++ between) one.known.is) in
    let middle = gap_of 0 between head (end ++ rest) two.known.solid (two.whole ∙ ap (λ w. w ++ rest) two.known.is) in
    let reads : magnitude (one.word ++ (middle.front ++ head ∷ (end ++ rest))) ≡ Some (m, middle.front ++ head ∷ (end ++ rest)) =
    ap magnitude (sym (one.whole ∙ ap (λ b. one.word ++ b) middle.whole)) ∙ (first ∙ ap (λ b. Some (m, b)) middle.whole) in
    record {
      front = parts_of gap.front tail middle.front head end;
      whole = gap.whole ∙ (ap (λ b. gap.front ++ 49 ∷ (tail ++ b)) middle.whole ∙ sym (parts_more gap.front tail middle.front head end rest));
      some = parts_some gap.front tail middle.front head end;
      gap = length gap.front;
      gap_is = λ more.
          rw (parts_more gap.front tail middle.front head end more)
          (parts_gap gap.front (tail ++ (middle.front ++ head ∷ (end ++ more))) 49
          (gap.again (tail ++ (middle.front ++ head ∷ (end ++ more)))
          (λ n. solid_front 49 (tail ++ (middle.front ++ head ∷ (end ++ more))) n one_is_solid (omega arith) (omega arith))));
      again = λ more.
          let others = middle.front ++ head ∷ (end ++ more) in
          let front = gap.again (tail ++ others) (λ n. solid_front 49 (tail ++ others) n one_is_solid (omega arith) (omega arith)) in
          let back = middle.again (end ++ more) (λ n. solid_front head (end ++ more) n two.known.solid two.known.no_slash two.known.no_parenthesis) in
          rw (parts_more gap.front tail middle.front head end more)
          (literal_from (gap.front ++ 49 ∷ (tail ++ others)) others more m u
          (ap magnitude (front ∙ sym (ap (λ w. w ++ others) one.known.is))
          ∙ magnitude_again one.word m one.known middle.front head (end ++ rest) (end ++ more) reads)
          (ap unit (back ∙ sym (ap (λ w. w ++ more) two.known.is)) ∙ two.known.again more));
    }

same_literal : (bytes : List ℕ) (a b : TimeUnit) (rest more : List ℕ) → a ≡ b → rest ≡ more → IsLiteral bytes a rest → IsLiteral bytes b more
same_literal bytes a b rest more same end h =
    let P : TimeUnit → Type 0 = λ v. IsLiteral bytes v more in
    let Q : List ℕ → Type 0 = λ l. IsLiteral bytes a l in
    subst P same (subst Q end h)

literal_local : (bytes : List ℕ) (value : TimeUnit) (rest : List ℕ) → literal bytes ≡ Some (value, rest) → IsLiteral bytes value rest
unfolding literal
literal_local bytes value rest e =
    let made : Magnitude → times.Unit → List ℕ → Reading TimeUnit = λ m u more. Some (record { magnitude = m; unit = u }, more) in
    let next : Magnitude → List ℕ → Reading TimeUnit = λ m between. then_read (unit (behind_white between)) (made m) in
    let one = then_parts (magnitude (behind_white bytes)) next value rest e in
    let two = then_parts (unit (behind_white one.between)) (made one.first) value rest one.goes in
    let same = ap (value_or value) two.goes in
    let end = ap (rest_or rest) two.goes in
    same_literal bytes _ value two.between rest same end (literal_of bytes one.between two.between one.first two.first one.reads two.reads)

-- no literal begins with a star
literal_star : (bytes : List ℕ) → literal (42 ∷ bytes) ≡ None
unfolding literal magnitude
literal_star bytes =
    let here : behind_white (42 ∷ bytes) ≡ 42 ∷ bytes =
    none_in_front (42 ∷ bytes) (λ n. solid_front 42 bytes n star_is_solid (omega arith) (omega arith)) in
    rw here refl

-- a slash and a literal

-- the bytes of what is read, in front of the rest, are read whatever follows
pub record IsLocal {A : Type 0} (read : List ℕ → Reading A) (bytes : List ℕ) (value : A) (rest : List ℕ) : Type 0 where
  pub front : List ℕ
  pub whole : bytes ≡ front ++ rest
  pub again : (more : List ℕ) → read (front ++ more) ≡ Some (value, more)

slash_line : (bytes : List ℕ) → (n : ℕ) × (white_space (47 ∷ 47 ∷ bytes) ≡ piece.Takes n)
slash_line bytes = let line = white_pair 47 47 bytes in (_, rw slash_is_solid at line)

slash_again : (y : ℕ) (rest : List ℕ) → y ≡ 47 → ((n : ℕ) → white_space (47 ∷ y ∷ rest) ≢ piece.Takes n) → ⊥
slash_again y rest is h = let line = slash_line rest in h line.0 (ap (λ b. white_space (47 ∷ b ∷ rest)) is ∙ line.1)

star_again : (y : ℕ) (bytes : List ℕ) (value : TimeUnit) (rest : List ℕ) → y ≡ 42 → literal (y ∷ bytes) ≡ Some (value, rest) → ⊥
star_again y bytes value rest is e = none_or_read _ (sym (literal_star bytes) ∙ (ap (λ b. literal (b ∷ bytes)) (sym is) ∙ e))

slash_by : (y : ℕ) (rest more : List ℕ) → ((n : ℕ) → white_space (47 ∷ y ∷ rest) ≢ piece.Takes n) → y ≢ 42 → (n : ℕ) →
    white_space (47 ∷ y ∷ more) ≢ piece.Takes n
slash_by y rest more h star n e =
    let other : y ≢ 47 = λ is. slash_again y rest is h in
    let pair = sym (white_pair 47 y more) ∙ e in
    let nothing = rw (slash_is_solid, not_equal y 47 other, not_equal y 42 star) at pair in
    nothing_takes n nothing

slash_front : (front rest more : List ℕ) (value : TimeUnit) → 0 < length front → ((n : ℕ) → white_space (47 ∷ (front ++ rest)) ≢ piece.Takes n) →
    literal (front ++ rest) ≡ Some (value, rest) → (n : ℕ) → white_space (47 ∷ (front ++ more)) ≢ piece.Takes n
slash_front [] rest more value some h e n = absurd (omega arith)
slash_front (y ∷ front) rest more value some h e n =
    slash_by y (front ++ rest) (front ++ more) h (λ is. star_again y (front ++ rest) value rest is e) n

precision_from : (bytes later : List ℕ) (value : TimeUnit) (rest : List ℕ) → behind_white bytes ≡ 47 ∷ later → literal later ≡ Some (value, rest) →
    precision bytes ≡ Some (value, rest)
unfolding precision
precision_from bytes later value rest e read = rw e read

precision_by : (bytes : List ℕ) (test : Bool) (value : TimeUnit) (rest : List ℕ) → begins_with (codes "/") (behind_white bytes) ≡ test →
    cond test (literal (drop 1 (behind_white bytes))) None ≡ Some (value, rest) → IsLocal precision bytes value rest
precision_by bytes false value rest is e = absurd (none_or_read _ e)
precision_by bytes true value rest is e =
    let slash = whole_word (codes "/") (behind_white bytes) is in
    let found = literal_local (drop 1 (behind_white bytes)) value rest e in
    let here : behind_white bytes ≡ 47 ∷ (found.front ++ rest) = slash ∙ ap (λ l. 47 ∷ l) found.whole in
    let gap = gap_of 0 bytes 47 (found.front ++ rest) slash_is_solid here in
    let h : (n : ℕ) → white_space (47 ∷ (found.front ++ rest)) ≢ piece.Takes n = λ n taken. behind_done 0 bytes n (ap white_space here ∙ taken) in
    record {
      front = gap.front ++ 47 ∷ found.front;
      whole = gap.whole ∙ sym (append_assoc gap.front (47 ∷ found.front) rest);
      again = λ more.
          ap precision (append_assoc gap.front (47 ∷ found.front) more)
          ∙ precision_from (gap.front ++ 47 ∷ (found.front ++ more)) (found.front ++ more) value more
          (gap.again (found.front ++ more) (λ n. slash_front found.front rest more value found.some h (found.again rest) n)) (found.again more);
    }

precision_local : (bytes : List ℕ) (value : TimeUnit) (rest : List ℕ) → precision bytes ≡ Some (value, rest) → IsLocal precision bytes value rest
unfolding precision
precision_local bytes value rest e = precision_by bytes (begins_with (codes "/") (behind_white bytes)) value rest refl e

-- two literals, and the directive

record AreLiterals (bytes : List ℕ) (value : TimeUnit) (rest : List ℕ) : Type 0 where
  front : List ℕ
  whole : bytes ≡ front ++ rest
  gap : ℕ
  gap_is : (more : List ℕ) → length (behind_white (front ++ more)) + gap ≡ length (front ++ more)
  again : (more : List ℕ) → literals (front ++ more) ≡ Some (value, more)

literals_from : (bytes between rest : List ℕ) (value other : TimeUnit) → literal bytes ≡ Some (value, between) → precision between ≡ Some (other, rest) →
    literals bytes ≡ Some (value, rest)
unfolding literals
literals_from bytes between rest value other first second = rw (first, second) refl

literals_of : (bytes between rest : List ℕ) (value other : TimeUnit) → literal bytes ≡ Some (value, between) → precision between ≡ Some (other, rest) →
    AreLiterals bytes value rest
literals_of bytes between rest value other first second =
    let one = literal_local bytes value between first in
    let two = precision_local between other rest second in
    record {
      front = one.front ++ two.front;
      whole = one.whole ∙ (ap (λ l. one.front ++ l) two.whole ∙ sym (append_assoc one.front two.front rest));
      gap = one.gap;
      gap_is = λ more. rw (append_assoc one.front two.front more) (one.gap_is (two.front ++ more));
      again = λ more.
          rw (append_assoc one.front two.front more)
          (literals_from (one.front ++ (two.front ++ more)) (two.front ++ more) more value other (one.again (two.front ++ more)) (two.again more));
    }

same_literals : (bytes : List ℕ) (a b : TimeUnit) (rest more : List ℕ) → a ≡ b → rest ≡ more → AreLiterals bytes a rest → AreLiterals bytes b more
same_literals bytes a b rest more same end h =
    let P : TimeUnit → Type 0 = λ v. AreLiterals bytes v more in
    let Q : List ℕ → Type 0 = λ l. AreLiterals bytes a l in
    subst P same (subst Q end h)

literals_local : (bytes : List ℕ) (value : TimeUnit) (rest : List ℕ) → literals bytes ≡ Some (value, rest) → AreLiterals bytes value rest
unfolding literals
literals_local bytes value rest e =
    let made : TimeUnit → TimeUnit → List ℕ → Reading TimeUnit = λ first second more. Some (first, more) in
    let next : TimeUnit → List ℕ → Reading TimeUnit = λ first between. then_read (precision between) (made first) in
    let one = then_parts (literal bytes) next value rest e in
    let two = then_parts (precision one.between) (made one.first) value rest one.goes in
    let same = ap (value_or value) two.goes in
    let end = ap (rest_or rest) two.goes in
    same_literals bytes _ value two.between rest same end (literals_of bytes one.between two.between one.first two.first one.reads two.reads)

abbrev word : List ℕ
word = codes "`timescale"

directive_from : (bytes rest : List ℕ) (value : TimeUnit) → nat_lt (length (behind_white bytes)) (length bytes) ≡ true → literals bytes ≡ Some (value, rest) →
    directive (word ++ bytes) ≡ Some (value, rest)
unfolding directive
directive_from bytes rest value spaced read = rw (spaced, read) refl

gap_some : (bytes others : List ℕ) (gap : ℕ) → bytes ≡ others → length (behind_white bytes) < length bytes →
    length (behind_white others) + gap ≡ length others → 0 < gap
gap_some bytes others gap same less e =
    let fewer : length (behind_white others) < length others = rw same at less in
    omega (arith, fewer, e)

less_by : (m n gap : ℕ) → 0 < gap → m + gap ≡ n → nat_lt m n ≡ true
less_by m n gap some e = grind (arith, nat_tests)

directive_by : (bytes : List ℕ) (test : Bool) (value : TimeUnit) (rest : List ℕ) →
    (begins_with word bytes && nat_lt (length (behind_white (drop 10 bytes))) (length (drop 10 bytes))) ≡ test →
    cond test (literals (drop 10 bytes)) None ≡ Some (value, rest) → IsLocal directive bytes value rest
directive_by bytes false value rest is e = absurd (none_or_read _ e)
directive_by bytes true value rest is e =
    let tests = and_parts (begins_with word bytes) (nat_lt (length (behind_white (drop 10 bytes))) (length (drop 10 bytes))) is in
    let begins = whole_word word bytes tests.0 in
    let found = literals_local (drop 10 bytes) value rest e in
    let less = ltb-true _ _ tests.1 in
    let gap : length (behind_white (found.front ++ rest)) + found.gap ≡ length (found.front ++ rest) = found.gap_is rest in
    let spaced = gap_some (drop 10 bytes) (found.front ++ rest) found.gap found.whole less gap in
    record {
      front = word ++ found.front;
      whole = begins ∙ (ap (λ l. word ++ l) found.whole ∙ sym (append_assoc word found.front rest));
      again = λ more.
          ap directive (append_assoc word found.front more)
          ∙ directive_from (found.front ++ more) more value (less_by _ _ found.gap spaced (found.gap_is more)) (found.again more);
    }

-- what a directive reads is read of its own bytes, whatever follows
pub directive_local : (bytes : List ℕ) (value : TimeUnit) (rest : List ℕ) → directive bytes ≡ Some (value, rest) → IsLocal directive bytes value rest
unfolding directive
directive_local bytes value rest e = directive_by bytes _ value rest refl e
