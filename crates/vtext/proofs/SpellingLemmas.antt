-- The names of gates are parts of names, but for their number of bytes, which has no limit here.
use Rattle.std.proofs.Common.{◌≡◌, ℕ, zero, suc, ◌/◌, ◌%◌, ◌<◌, ◌≤◌, Bool, true, false, cond, IsTrue, ltb, ◌==◌, ◌&&◌, not, List, [], ◌∷◌, ◌++◌, Option, Some, None, length, nat_eq, nat_le, codes, refl, ◌∙◌, arith}
use Rattle.std.proofs.lemmas.Bool.Decides.{nat_tests}
use Rattle.std.proofs.lemmas.List.Folds.{list_all-append}
use Rattle.std.specs.Fmt.{decimal, digits, digits_onto, digit_glyph}
use Rattle.std.specs.Cmp.Lexicographic.{pointwise}
use Rattle.std.specs.List.{list_all}
use Rattle.std.specs.Option.{option_map_or}
use Rattle.design.specs.Names.{is_name_byte, is_part, same_name}
use Rattle.vtext.specs.declared.gate.InstanceName.{InstanceName}
use Rattle.vtext.specs.declared.gate.InstanceName.TheVariants.{Written, Unnamed}
use Rattle.vtext.specs.GateNames.{instance_bytes, part_bytes}
use Rattle.vtext.specs.kept.Sound.{IsGoodNumber}

and_parts : (a b : Bool) → (a && b) ≡ true → (a ≡ true) × (b ≡ true)
and_parts true b h = (refl, h)
and_parts false b h = absurd cc

and_from : (a b : Bool) → a ≡ true → b ≡ true → (a && b) ≡ true
and_from a b p q = rw (p, q) refl

and_last : (a b : Bool) → b ≡ false → (a && b) ≡ false
and_last true b h = h
and_last false b h = refl

-- Digits.

abbrev IsDigit : ℕ → Type 0
IsDigit d = (48 ≤ d) × (d ≤ 57)

abbrev AreDigits : List ℕ → Type 0
AreDigits [] = Unit {0}
AreDigits (d ∷ ds) = IsDigit d × AreDigits ds

-- digits, one at least
abbrev SomeDigits : List ℕ → Type 0
SomeDigits [] = ⊥
SomeDigits (d ∷ ds) = IsDigit d × AreDigits ds

weaken : (ds : List ℕ) → SomeDigits ds → AreDigits ds
weaken [] h = absurd h
weaken (d ∷ ds) h = h

glyph_digit : (d : ℕ) → d < 10 → IsDigit (digit_glyph false d)
glyph_digit d h = let t : ltb d 10 ≡ true = grind (arith, nat_tests) in rw t (omega arith, omega arith)

last_digit : (n : ℕ) → IsDigit (digit_glyph false (n % 10))
last_digit n = glyph_digit (n % 10) (omega arith)

onto_digits : (k n : ℕ) (acc : List ℕ) → SomeDigits acc → SomeDigits (digits_onto k 10 false n acc)
onto_digits zero n acc h = h
onto_digits (suc k) n acc h =
    let more : List ℕ = digit_glyph false (n % 10) ∷ acc in
    let now : SomeDigits more = (last_digit n, weaken acc h) in
    step (n / 10 == 0) more now (onto_digits k (n / 10) more now)
  where
    step : (b : Bool) (more : List ℕ) → SomeDigits more → SomeDigits (digits_onto k 10 false (n / 10) more)
        → SomeDigits (cond b more (digits_onto k 10 false (n / 10) more))
    step true more now rest = now
    step false more now rest = rest

front_digits : (k n : ℕ) → SomeDigits (digits_onto (suc k) 10 false n [])
front_digits k n =
    let more : List ℕ = digit_glyph false (n % 10) ∷ [] in
    let now : SomeDigits more = (last_digit n, tt) in
    step (n / 10 == 0) more now (onto_digits k (n / 10) more now)
  where
    step : (b : Bool) (more : List ℕ) → SomeDigits more → SomeDigits (digits_onto k 10 false (n / 10) more)
        → SomeDigits (cond b more (digits_onto k 10 false (n / 10) more))
    step true more now rest = now
    step false more now rest = rest

decimal_digits : (n : ℕ) → SomeDigits (decimal n)
unfolding digits
decimal_digits n = front_digits 63 n

-- Parts.

digit_plain : (d : ℕ) → IsDigit d → is_name_byte d ≡ true
digit_plain d (low, high) = grind (arith, nat_tests)

digits_plain : (ds : List ℕ) → AreDigits ds → list_all is_name_byte ds ≡ true
digits_plain [] h = refl
digits_plain (d ∷ ds) h = and_from (is_name_byte d) (list_all is_name_byte ds) (digit_plain d h.0) (digits_plain ds h.1)

dollar_plain : (ds : List ℕ) → AreDigits ds → list_all is_name_byte (36 ∷ ds) ≡ true
dollar_plain ds h = digits_plain ds h

no_e : (d : ℕ) → IsDigit d → nat_eq d 101 ≡ false
no_e d (low, high) = grind (arith, nat_tests)

part_from : (b : ℕ) (bytes : List ℕ) → list_all is_name_byte (b ∷ bytes) ≡ true → same_name (b ∷ bytes) (codes "$end") ≡ false → IsTrue (is_part (b ∷ bytes))
part_from b bytes plain free =
    let some : nat_le 1 (length (b ∷ bytes)) ≡ true = grind (arith, nat_tests) in
    rw (some, plain, free) refl

number_spelled : (ds : List ℕ) → SomeDigits ds → IsTrue (is_part (36 ∷ ds))
number_spelled [] h = absurd h
number_spelled (d ∷ ds) h = part_from 36 (d ∷ ds) (dollar_plain (d ∷ ds) h) (rw (no_e d h.0) refl)

-- a text is none that has no dollar sign, if it has one itself
abbrev IsDollarless : List ℕ → Type 0
IsDollarless [] = Unit {0}
IsDollarless (y ∷ ys) = (nat_eq 36 y ≡ false) × IsDollarless ys

dollar_apart : (before after ys : List ℕ) → IsDollarless ys → pointwise nat_eq (before ++ 36 ∷ after) ys ≡ false
dollar_apart [] after [] h = refl
dollar_apart [] after (y ∷ ys) h = rw (h.0) refl
dollar_apart (b ∷ before) after [] h = refl
dollar_apart (b ∷ before) after (y ∷ ys) h = and_last (nat_eq b y) (pointwise nat_eq (before ++ 36 ∷ after) ys) (dollar_apart before after ys h.1)

part_free : (b : ℕ) (before after : List ℕ) → same_name (b ∷ (before ++ 36 ∷ after)) (codes "$end") ≡ false
part_free b before after =
    and_last (nat_eq b 36) (pointwise nat_eq (before ++ 36 ∷ after) (101 ∷ 110 ∷ 100 ∷ []))
    (dollar_apart before after (101 ∷ 110 ∷ 100 ∷ []) (refl, (refl, (refl, tt))))

part_plain : (bytes : List ℕ) → IsTrue (is_part bytes) → list_all is_name_byte bytes ≡ true
part_plain bytes h =
    let front = and_parts (nat_le 1 (length bytes) && list_all is_name_byte bytes) (not (same_name bytes (codes "$end"))) h in
    (and_parts (nat_le 1 (length bytes)) (list_all is_name_byte bytes) front.0).1

joined_spelled : (base ds : List ℕ) → IsTrue (is_part base) → SomeDigits ds → IsTrue (is_part (base ++ 36 ∷ ds))
joined_spelled [] ds h digits = absurd cc
joined_spelled (b ∷ before) ds h digits =
    let plain : list_all is_name_byte (b ∷ (before ++ 36 ∷ ds)) ≡ true =
    list_all-append is_name_byte (b ∷ before) (36 ∷ ds)
    ∙ and_from (list_all is_name_byte (b ∷ before)) (list_all is_name_byte (36 ∷ ds)) (part_plain (b ∷ before) h) (dollar_plain ds (weaken ds digits)) in
    part_from b (before ++ 36 ∷ ds) plain (part_free b before ds)

-- Gates.

-- where an instance has a name, it is a good one
abbrev pub IsGoodInstance : List (List ℕ) → InstanceName → Type 0
IsGoodInstance names (Written n) = IsGoodNumber names n
IsGoodInstance names (Unnamed n) = Unit {0}

instance_spelled : (names : List (List ℕ)) (i : InstanceName) → IsGoodInstance names i → IsTrue (is_part (instance_bytes names i))
instance_spelled names (Written n) good = good.part
instance_spelled names (Unnamed n) good = number_spelled (decimal n) (decimal_digits n)

-- the name of a gate, with the number of its output or without
pub gate_spelled : (names : List (List ℕ)) (i : InstanceName) (part : Option ℕ) → IsGoodInstance names i
    → IsTrue (is_part (option_map_or (part_bytes (instance_bytes names i)) part (instance_bytes names i)))
gate_spelled names i None good = instance_spelled names i good
gate_spelled names i (Some n) good = joined_spelled (instance_bytes names i) (decimal n) (instance_spelled names i good) (decimal_digits n)
