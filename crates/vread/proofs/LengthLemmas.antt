-- The longest name of a net: of a vector, that of the bit of its greatest index.
use Rattle.std.proofs.Common.{◌≡◌, ℕ, zero, suc, ◌+◌, ◌-◌, ◌/◌, ◌%◌, ◌^◌, ◌<◌, ◌≤◌, Bool, true, false, nat_le, nat_lt, max, map, List, [], ◌∷◌, Option, Some, None, length, refl, sym, ap, ◌∙◌, arith, length-append}
use Rattle.std.specs.Prelude.{MatchOption}
use Rattle.std.specs.Fmt.{decimal}
use Rattle.std.specs.List.{list_any}
use Rattle.std.specs.Option.{option_map_or}
use Rattle.std.proofs.Math.Bool.{or-false}
use Rattle.std.proofs.lemmas.Bool.{or_right}
use Rattle.std.proofs.lemmas.Bool.Decides.{nat_tests}
use Rattle.std.proofs.lemmas.Fmt.{decimal_digit, decimal_nonempty, decimal_step}
use Rattle.design.specs.declared.limits.TheConstants.{MAX_NAME}
use Rattle.vtext.specs.declared.net.Net as nets
use Rattle.vtext.specs.declared.range.Range.{Range}
use Rattle.vtext.specs.declared.range.TheConstants.{MAX_INDEX}
use Rattle.vtext.specs.Bits.{bit_bytes, index_bytes}
use Rattle.vtext.specs.Names.{name_at}
use Rattle.vtext.specs.Ranges.{index_at, indexes, indexes_from, width}
use Rattle.elaboration.specs.Scopes.{flat_names}
use Rattle.vread.specs.kept.Parts as parts

-- Digits.

length_one : (n : ℕ) → n < 10 → length (decimal n) ≡ 1
length_one n h = ap length (decimal_digit n h)

length_more : (n : ℕ) → 10 ≤ n → n < 2 ^ 64 → length (decimal n) ≡ length (decimal (n / 10)) + 1
length_more n ten few = ap length (decimal_step n ten few) ∙ length-append (decimal (n / 10)) ((48 + n % 10) ∷ [])

grow_step : (a b : ℕ) → a ≤ b → b < 2 ^ 64 → length (decimal (a / 10)) ≤ length (decimal (b / 10)) → length (decimal a) ≤ length (decimal b)
grow_step a b le few rest = step (nat_le 10 a) refl
  where
    step : (ten : Bool) → nat_le 10 a ≡ ten → length (decimal a) ≤ length (decimal b)
    step true e =
        let ten : 10 ≤ a = grind (arith, nat_tests) in
        omega (arith, length_more a ten (omega arith), length_more b (omega arith) few)
    step false e =
        let few_digits : a < 10 = grind (arith, nat_tests) in
        omega (arith, length_one a few_digits, decimal_nonempty b few)

-- a greater number has no fewer digits
digits_grow : (fuel a b : ℕ) → b ≤ fuel → a ≤ b → b < 2 ^ 64 → length (decimal a) ≤ length (decimal b)
digits_grow zero a b h le few = let same : a ≡ b = omega arith in omega (arith, ap (λ (n : ℕ). length (decimal n)) same)
digits_grow (suc fuel) a b h le few = grow_step a b le few (digits_grow fuel (a / 10) (b / 10) (omega arith) (omega arith) (omega arith))

bit_length : (base : List ℕ) (i : ℕ) → length (bit_bytes base i) ≡ length base + (2 + length (decimal i))
bit_length base i = omega (arith, length-append base (91 ∷ index_bytes i), length-append (decimal i) (93 ∷ []))

-- Indexes.

index_most : (range : Range) (place : ℕ) → place < width range → index_at range place ≤ max range.left range.right
index_most range place h = step (nat_le range.left range.right) refl
  where
    step : (up : Bool) → nat_le range.left range.right ≡ up → index_at range place ≤ max range.left range.right
    step true e = let le : range.left ≤ range.right = grind (arith, nat_tests) in rw e (omega arith)
    step false e = rw e (omega arith)

-- the greatest one has a place
most_there : (range : Range) → (place : ℕ) × (place < width range) × (index_at range place ≡ max range.left range.right)
most_there range = step (nat_le range.left range.right) refl
  where
    step : (up : Bool) → nat_le range.left range.right ≡ up → (place : ℕ) × (place < width range) × (index_at range place ≡ max range.left range.right)
    step true e = let le : range.left ≤ range.right = grind (arith, nat_tests) in (range.right - range.left, omega arith, rw e (omega arith))
    step false e = let lt : range.right < range.left = grind (arith, nat_tests) in (0, omega arith, rw e (omega arith))

module _ (p : List ℕ → Bool) (f : ℕ → List ℕ) (range : Range) where
  any_at : (place count k i : ℕ) → k < count → index_at range (place + k) ≡ i → p (f i) ≡ true → list_any p (map f (indexes_from range place count)) ≡ true
  any_at place zero k i h is e = absurd (omega arith)
  any_at place (suc count) zero i h is e = let here : p (f (index_at range place)) ≡ true = ap (λ (j : ℕ). p (f (index_at range j))) (omega arith) ∙ ap (λ (j : ℕ). p (f j)) is ∙ e in rw here refl
  any_at place (suc count) (suc k) i h is e =
      or_right (p (f (index_at range place))) (list_any p (map f (indexes_from range (suc place) count)))
      (any_at (suc place) count k i (omega arith) (ap (index_at range) (omega arith) ∙ is) e)

  none_from : ((k : ℕ) → k < width range → p (f (index_at range k)) ≡ false) → (place count : ℕ) → place + count ≤ width range → list_any p (map f (indexes_from range place count)) ≡ false
  none_from none place zero h = refl
  none_from none place (suc count) h = rw (none place (omega arith), none_from none (suc place) count (omega arith)) refl

-- The longest name.

long_more : (path a b : ℕ) → a ≤ b → nat_lt MAX_NAME (path + b) ≡ false → nat_lt MAX_NAME (path + a) ≡ false
long_more path a b le e = grind (arith, nat_tests)

bits_long : (path base : List ℕ) (range : Range) → (range.left ≤ MAX_INDEX) → (range.right ≤ MAX_INDEX)
    → nat_lt MAX_NAME (length path + (length base + parts.bracketed_length range)) ≡ list_any (λ (name : List ℕ). nat_lt MAX_NAME (length path + length name)) (map (bit_bytes base) (indexes range))
bits_long path base range left right = step (p (f top)) refl
  where
    p : List ℕ → Bool
    p name = nat_lt MAX_NAME (length path + length name)

    f : ℕ → List ℕ
    f = bit_bytes base

    top : ℕ
    top = max range.left range.right

    same : nat_lt MAX_NAME (length path + (length base + parts.bracketed_length range)) ≡ p (f top)
    same = ap (λ (n : ℕ). nat_lt MAX_NAME (length path + n)) (sym (bit_length base top))

    shorter : (k : ℕ) → k < width range → length (f (index_at range k)) ≤ length (f top)
    shorter k h = omega (arith, bit_length base (index_at range k), bit_length base top, digits_grow top (index_at range k) top (omega arith) (index_most range k h) (omega arith))

    step : (long : Bool) → p (f top) ≡ long → nat_lt MAX_NAME (length path + (length base + parts.bracketed_length range)) ≡ list_any p (map f (indexes range))
    step true e = let there = most_there range in same ∙ e ∙ sym (any_at p f range 0 (width range) there.0 top there.1 (ap (index_at range) (omega arith) ∙ there.2) e)
    step false e = same ∙ e ∙ sym (none_from p f range (λ k h. long_more (length path) (length (f (index_at range k))) (length (f top)) (shorter k h) e) 0 (width range) (omega arith))

-- one of a net's names is over its limit if the longest is
pub longest_long : (names : List (List ℕ)) (path : List ℕ) (net : ℕ × nets.Net) → MatchOption net.1.range (Unit {0}) (λ range. (range.left ≤ MAX_INDEX) × (range.right ≤ MAX_INDEX))
    → parts.is_long (length path) (parts.longest names net) ≡ list_any (λ (name : List ℕ). nat_lt MAX_NAME (length path + length name)) (flat_names names net)
longest_long names path net bounded = step net.1.range bounded
  where
    base : List ℕ
    base = name_at names net.0

    p : List ℕ → Bool
    p name = nat_lt MAX_NAME (length path + length name)

    step : (range : Option Range) → MatchOption range (Unit {0}) (λ range. (range.left ≤ MAX_INDEX) × (range.right ≤ MAX_INDEX))
        → nat_lt MAX_NAME (length path + (length base + option_map_or parts.bracketed_length range 0)) ≡ list_any p (option_map_or (λ range. map (bit_bytes base) (indexes range)) range (base ∷ []))
    step None h = ap (λ (n : ℕ). nat_lt MAX_NAME (length path + n)) (omega arith) ∙ sym (or-false (p base))
    step (Some range) h = bits_long path base range h.0 h.1
