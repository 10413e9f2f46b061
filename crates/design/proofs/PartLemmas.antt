-- The parts of a name.
use Rattle.std.proofs.Common.{◌≡◌, ℕ, ◌+◌, ◌<◌, ◌≤◌, Bool, true, false, cond, IsTrue, not, nat_le, ◌==◌, ◌&&◌, List, [], ◌∷◌, ◌++◌, length, codes, All, refl, sym, ap, subst, ◌∙◌, arith}
use Rattle.std.specs.List.{list_all, onto_first}
use Rattle.std.proofs.lemmas.Bool.{and_parts}
use Rattle.std.proofs.lemmas.Bool.Decides.{nat_tests}
use Rattle.std.proofs.lemmas.List.{length-append}
use Rattle.std.proofs.lemmas.List.Elements.{All-nil, All-cons}
use Rattle.std.proofs.lemmas.List.Folds.{list_all-append}
use Rattle.std.proofs.lemmas.List.Splits.{slice_split_none}
use Rattle.design.specs.declared.limits.TheConstants.{MAX_NAME}
use Rattle.design.specs.Names.{is_name, is_name_byte, is_part, parts, same_name}

-- Texts that are joined by a dot.

-- there is a first part
record HasFirst (found : List (List ℕ)) : Type 0 where
  first : List ℕ
  others : List (List ℕ)
  is : found ≡ first ∷ others

first_of : (byte : ℕ) (found : List (List ℕ)) (b : Bool) → HasFirst (cond b ([] ∷ found) (onto_first byte found))
first_of byte found true = record { first = []; others = found; is = refl }
first_of byte [] false = record { first = byte ∷ []; others = []; is = refl }
first_of byte (x ∷ xs) false = record { first = byte ∷ x; others = xs; is = refl }

has_first : (bytes : List ℕ) → HasFirst (parts bytes)
has_first [] = record { first = []; others = []; is = refl }
has_first (byte ∷ bytes) = first_of byte (parts bytes) (byte == 46)

more_parts : (byte : ℕ) (found others : List (List ℕ)) (b : Bool) → HasFirst found
    → cond b ([] ∷ (found ++ others)) (onto_first byte (found ++ others)) ≡ cond b ([] ∷ found) (onto_first byte found) ++ others
more_parts byte found others true has = refl
more_parts byte found others false has =
    let P : List (List ℕ) → Type 0 = λ xs. onto_first byte (xs ++ others) ≡ onto_first byte xs ++ others in
    subst P (sym has.is) refl

pub parts_of_joined : (a b : List ℕ) → parts (a ++ 46 ∷ b) ≡ parts a ++ parts b
parts_of_joined [] b = refl
parts_of_joined (byte ∷ a) b =
    ap (λ found. cond (byte == 46) ([] ∷ found) (onto_first byte found)) (parts_of_joined a b)
    ∙ more_parts byte (parts a) (parts b) (byte == 46) (has_first a)

-- A part by itself.

no_dot : (byte : ℕ) → is_name_byte byte ≡ true → (byte == 46) ≡ false
no_dot byte e = grind (arith, nat_tests)

no_dots : (bytes : List ℕ) → list_all is_name_byte bytes ≡ true → All (λ byte. (byte == 46) ≡ false) bytes
no_dots [] e = All-nil (λ byte. (byte == 46) ≡ false)
no_dots (byte ∷ bytes) e =
    let both = and_parts (is_name_byte byte) (list_all is_name_byte bytes) e in
    All-cons (λ b. (b == 46) ≡ false) byte bytes (no_dot byte both.0) (no_dots bytes both.1)

part_bytes : (bytes : List ℕ) → is_part bytes ≡ true → list_all is_name_byte bytes ≡ true
part_bytes bytes e =
    let front = and_parts (nat_le 1 (length bytes) && list_all is_name_byte bytes) (not (same_name bytes (codes "$end"))) e in
    (and_parts (nat_le 1 (length bytes)) (list_all is_name_byte bytes) front.0).1

pub part_is_whole : (bytes : List ℕ) → IsTrue (is_part bytes) → parts bytes ≡ bytes ∷ []
part_is_whole bytes part = slice_split_none (λ byte. byte == 46) bytes (no_dots bytes (part_bytes bytes part))

pub part_is_name : (bytes : List ℕ) → IsTrue (is_part bytes) → length bytes ≤ MAX_NAME → IsTrue (is_name bytes)
part_is_name bytes part short =
    let fits : nat_le (length bytes) MAX_NAME ≡ true = grind (arith, nat_tests) in
    rw (fits, part_is_whole bytes part, part) refl

-- Names that are joined by a dot.

name_parts : (name : List ℕ) → IsTrue (is_name name) → list_all is_part (parts name) ≡ true
name_parts name named = (and_parts (nat_le (length name) MAX_NAME) (list_all is_part (parts name)) named).1

pub joined_is_name : (a b : List ℕ) → IsTrue (is_name a) → IsTrue (is_name b) → length a + length b < MAX_NAME → IsTrue (is_name (a ++ 46 ∷ b))
joined_is_name a b first second short =
    let fits : nat_le (length (a ++ 46 ∷ b)) MAX_NAME ≡ true = let size = length-append a (46 ∷ b) in grind (arith, nat_tests) in
    rw (fits, parts_of_joined a b, list_all-append is_part (parts a) (parts b), name_parts a first, name_parts b second) refl

-- The bytes of a name.

abbrev pub Prints : ℕ → Type 0
Prints byte = (33 ≤ byte) × (byte ≤ 126)

byte_prints : (byte : ℕ) → is_name_byte byte ≡ true → Prints byte
byte_prints byte e = (grind (arith, nat_tests), grind (arith, nat_tests))

dot_prints : (byte : ℕ) → (byte == 46) ≡ true → Prints byte
dot_prints byte e = (grind (arith, nat_tests), grind (arith, nat_tests))

abbrev plain_parts : List (List ℕ) → Bool
plain_parts found = list_all (λ part. list_all is_name_byte part) found

parts_are_plain : (found : List (List ℕ)) → list_all is_part found ≡ true → plain_parts found ≡ true
parts_are_plain [] e = refl
parts_are_plain (part ∷ found) e =
    let both = and_parts (is_part part) (list_all is_part found) e in
    rw (part_bytes part both.0, parts_are_plain found both.1) refl

bytes_print : (bytes : List ℕ) → plain_parts (parts bytes) ≡ true → All Prints bytes
bytes_print [] e = All-nil Prints
bytes_print (byte ∷ bytes) e = step (byte == 46) refl (parts bytes) (bytes_print bytes) e
  where
    step : (b : Bool) → (byte == 46) ≡ b → (found : List (List ℕ)) → (plain_parts found ≡ true → All Prints bytes)
        → plain_parts (cond b ([] ∷ found) (onto_first byte found)) ≡ true → All Prints (byte ∷ bytes)
    step true is found rest h = All-cons Prints byte bytes (dot_prints byte is) (rest h)
    step false is [] rest h =
        let both = and_parts (is_name_byte byte) true (and_parts (list_all is_name_byte (byte ∷ [])) true h).0 in
        All-cons Prints byte bytes (byte_prints byte both.0) (rest refl)
    step false is (first ∷ others) rest h =
        let both = and_parts (is_name_byte byte && list_all is_name_byte first) (plain_parts others) h in
        let front = and_parts (is_name_byte byte) (list_all is_name_byte first) both.0 in
        All-cons Prints byte bytes (byte_prints byte front.0) (rest (rw (front.1, both.1) refl))

pub name_prints : (name : List ℕ) → IsTrue (is_name name) → All Prints name
name_prints name named = bytes_print name (parts_are_plain (parts name) (name_parts name named))
