-- Names of the nets of a sound module in the design: they are parts of names, and differ.
use Rattle.std.proofs.Common.{◌≡◌, ◌≢◌, ℕ, zero, suc, ◌+◌, ◌-◌, ◌/◌, ◌%◌, ◌^◌, ◌<◌, ◌≤◌, ◌⊎◌, inl, inr, Bool, true, false, cond, nat_le, ◌&&◌, ◌||◌, not, IsTrue, codes, nat_eq, List, [], ◌∷◌, ◌++◌, decimal, length, Option, Some, None, MatchOption, All, AllPairs, refl, sym, ap, subst, ◌∙◌, arith}
use Rattle.std.specs.Cmp.Lexicographic.{pointwise}
use Rattle.std.specs.List.{list_all}
use Rattle.std.proofs.lemmas.Bool.{false≢true, or_left, or_right}
use Rattle.std.proofs.lemmas.Bool.Decides.{nat_tests}
use Rattle.std.proofs.lemmas.Fmt.{decimal_by_steps}
use Rattle.std.proofs.lemmas.List.Elements.{All-cons, All-map, All-nil, All-weaker}
use Rattle.std.proofs.lemmas.List.Folds.{list_all-append}
use Rattle.std.proofs.lemmas.List.Kept.{AllPairs-cons}
use Rattle.design.specs.Names.{is_name_byte, is_part, same_name}
use Rattle.vtext.specs.declared.bits.BitName.{BitName}
use Rattle.vtext.specs.declared.net.Net as nets
use Rattle.vtext.specs.declared.range.Range.{Range}
use Rattle.vtext.specs.declared.range.TheConstants.{MAX_INDEX}
use Rattle.vtext.specs.Bits.{bit_bytes, bit_of, index_bytes}
use Rattle.vtext.specs.Names.{name_at, number_of}
use Rattle.vtext.specs.Ranges.{has_bit, index_at, indexes, indexes_from, is_within, width}
use Rattle.vtext.specs.kept.Sound.{AreApart, IsGoodNumber, IsSoundNet}
use Rattle.elaboration.specs.Scopes.{flat_names}
use Rattle.elaboration.proofs.PairLemmas.{all_across, no_pairs, pairs_map}

-- Indexes of a range.

module _ (range : Range) where
  is_between : (a b i : ℕ) → a ≤ i → i ≤ b → (nat_le a i && nat_le i b) ≡ true
  is_between a b i low high =
      let first : nat_le a i ≡ true = grind (arith, nat_tests) in
      let second : nat_le i b ≡ true = grind (arith, nat_tests) in
      rw (first, second) refl

  index_within : (place : ℕ) → place < width range → is_within range (index_at range place) ≡ true
  index_within place inside = step (nat_le range.left range.right) refl
    where
      step : (up : Bool) → nat_le range.left range.right ≡ up → is_within range (cond up (range.left + place) (range.left - place)) ≡ true
      step true up =
          let order : range.left ≤ range.right = grind (arith, nat_tests) in
          or_left (nat_le range.left (range.left + place) && nat_le (range.left + place) range.right) (nat_le range.right (range.left + place) && nat_le (range.left + place) range.left)
          (is_between range.left range.right (range.left + place) (omega arith) (omega (arith, order, inside)))
      step false up =
          let order : range.right < range.left = grind (arith, nat_tests) in
          or_right (nat_le range.left (range.left - place) && nat_le (range.left - place) range.right) (nat_le range.right (range.left - place) && nat_le (range.left - place) range.left)
          (is_between range.right range.left (range.left - place) (omega (arith, order, inside)) (omega arith))

  index_differs : (p q : ℕ) → p < q → q < width range → index_at range p ≢ index_at range q
  index_differs p q before inside = step (nat_le range.left range.right) refl
    where
      step : (up : Bool) → nat_le range.left range.right ≡ up → cond up (range.left + p) (range.left - p) ≢ cond up (range.left + q) (range.left - q)
      step true up same = absurd (omega (arith, same, before))
      step false up same =
          let order : range.right < range.left = grind (arith, nat_tests) in
          absurd (omega (arith, same, before, order, inside))

  all_within : (place count : ℕ) → place + count ≤ width range → All (λ i. is_within range i ≡ true) (indexes_from range place count)
  all_within place zero inside = All-nil (λ i. is_within range i ≡ true)
  all_within place (suc count) inside =
      All-cons (λ i. is_within range i ≡ true) (index_at range place) (indexes_from range (suc place) count)
      (index_within place (omega (arith, inside))) (all_within (suc place) count (omega (arith, inside)))

  none_again : (p place count : ℕ) → p < place → place + count ≤ width range → All (λ i. index_at range p ≢ i) (indexes_from range place count)
  none_again p place zero before inside = All-nil (λ i. index_at range p ≢ i)
  none_again p place (suc count) before inside =
      All-cons (λ i. index_at range p ≢ i) (index_at range place) (indexes_from range (suc place) count)
      (index_differs p place before (omega (arith, inside))) (none_again p (suc place) count (omega (arith, before)) (omega (arith, inside)))

  all_differ : (place count : ℕ) → place + count ≤ width range → AllPairs (λ i j. i ≢ j) (indexes_from range place count)
  all_differ place zero inside = no_pairs (λ i j. i ≢ j)
  all_differ place (suc count) inside =
      AllPairs-cons (λ i j. i ≢ j) (index_at range place) (indexes_from range (suc place) count)
      (none_again place (suc place) count (omega arith) (omega (arith, inside))) (all_differ (suc place) count (omega (arith, inside)))

  -- a bound that both bounds keep
  low_index : (i most : ℕ) → is_within range i ≡ true → range.left ≤ most → range.right ≤ most → i ≤ most
  low_index i most within left right = step (nat_le i range.right) (nat_le i range.left) refl refl
    where
      step : (a b : Bool) → nat_le i range.right ≡ a → nat_le i range.left ≡ b → i ≤ most
      step true b e f = let low : i ≤ range.right = grind (arith, nat_tests) in omega (arith, low, right)
      step false true e f = let low : i ≤ range.left = grind (arith, nat_tests) in omega (arith, low, left)
      step false false e f = absurd (false≢true (sym (both_no (nat_le range.left i) (nat_le i range.right) (nat_le range.right i) (nat_le i range.left) e f) ∙ within))
        where
          both_no : (a b c d : Bool) → b ≡ false → d ≡ false → ((a && b) || (c && d)) ≡ false
          both_no true b true d e f = rw (e, f) refl
          both_no true b false d e f = rw (e) refl
          both_no false b true d e f = f
          both_no false b false d e f = refl

-- Names of bits are parts of names.

and_from : (a b : Bool) → a ≡ true → b ≡ true → (a && b) ≡ true
and_from a b p q = rw (p, q) refl

and_parts : (a b : Bool) → (a && b) ≡ true → (a ≡ true) × (b ≡ true)
and_parts true b h = (refl, h)
and_parts false b h = absurd cc

and_last : (a b : Bool) → b ≡ false → (a && b) ≡ false
and_last true b h = h
and_last false b h = refl

abbrev ArePlain : ℕ → List ℕ → Type 0
ArePlain n bytes = list_all is_name_byte bytes ≡ true

one_digit : (n : ℕ) → n < 10 → ArePlain n ((48 + n) ∷ [])
one_digit n small = let plain : is_name_byte (48 + n) ≡ true = digit_plain n small in and_from (is_name_byte (48 + n)) true plain refl
  where
    digit_plain : (d : ℕ) → d < 10 → is_name_byte (48 + d) ≡ true
    digit_plain d h = grind (arith, nat_tests)

last_digit : (n : ℕ) (ds : List ℕ) → 10 ≤ n → ArePlain (n / 10) ds → ArePlain n (ds ++ ((48 + n % 10) ∷ []))
last_digit n ds ten plain =
    list_all-append is_name_byte ds ((48 + n % 10) ∷ []) ∙ and_from (list_all is_name_byte ds) (list_all is_name_byte ((48 + n % 10) ∷ [])) plain (one_digit (n % 10) (omega arith))

decimal_plain : (n : ℕ) → n < 2 ^ 64 → list_all is_name_byte (decimal n) ≡ true
decimal_plain = decimal_by_steps ArePlain one_digit last_digit

index_plain : (i : ℕ) → i ≤ MAX_INDEX → list_all is_name_byte (91 ∷ index_bytes i) ≡ true
index_plain i low =
    and_from (is_name_byte 91) (list_all is_name_byte (index_bytes i)) refl
    (list_all-append is_name_byte (decimal i) (93 ∷ []) ∙ and_from (list_all is_name_byte (decimal i)) (list_all is_name_byte (93 ∷ [])) (decimal_plain i (omega (arith, low))) refl)

-- a text is none that has no opening bracket, if it has one itself
abbrev IsBracketless : List ℕ → Type 0
IsBracketless [] = Unit {0}
IsBracketless (y ∷ ys) = (nat_eq 91 y ≡ false) × IsBracketless ys

bracket_apart : (before after ys : List ℕ) → IsBracketless ys → pointwise nat_eq (before ++ 91 ∷ after) ys ≡ false
bracket_apart [] after [] h = refl
bracket_apart [] after (y ∷ ys) h = rw (h.0) refl
bracket_apart (b ∷ before) after [] h = refl
bracket_apart (b ∷ before) after (y ∷ ys) h = and_last (nat_eq b y) (pointwise nat_eq (before ++ 91 ∷ after) ys) (bracket_apart before after ys h.1)

part_plain : (bytes : List ℕ) → IsTrue (is_part bytes) → list_all is_name_byte bytes ≡ true
part_plain bytes h =
    let front = and_parts (nat_le 1 (length bytes) && list_all is_name_byte bytes) (not (same_name bytes (codes "$end"))) h in
    (and_parts (nat_le 1 (length bytes)) (list_all is_name_byte bytes) front.0).1

bit_part : (base : List ℕ) (i : ℕ) → IsTrue (is_part base) → i ≤ MAX_INDEX → IsTrue (is_part (bit_bytes base i))
bit_part [] i part low = absurd cc
bit_part (b ∷ base) i part low =
    let bytes : List ℕ = b ∷ (base ++ 91 ∷ index_bytes i) in
    let some : nat_le 1 (length bytes) ≡ true = grind (arith, nat_tests) in
    let plain : list_all is_name_byte bytes ≡ true =
    list_all-append is_name_byte (b ∷ base) (91 ∷ index_bytes i)
    ∙ and_from (list_all is_name_byte (b ∷ base)) (list_all is_name_byte (91 ∷ index_bytes i)) (part_plain (b ∷ base) part) (index_plain i low) in
    let free : same_name bytes (codes "$end") ≡ false = bracket_apart (b ∷ base) (index_bytes i) (codes "$end") (refl, (refl, (refl, (refl, tt)))) in
    rw (some, plain, free) refl

-- Names of a net: its own, or those of its bits.

module _ (names : List (List ℕ)) where
  -- the name of a scalar, or of a bit of a vector
  record IsNameOf (net : ℕ × nets.Net) (name : List ℕ) : Type 0 where
    kinds : ((net.1.range ≡ None) × (name ≡ name_at names net.0)) ⊎ ((i : ℕ) × (has_bit net.1.range i ≡ true) × (i ≤ MAX_INDEX) × (name ≡ bit_bytes (name_at names net.0) i))

  names_of : (net : ℕ × nets.Net) → IsSoundNet names net → All (IsNameOf net) (flat_names names net)
  names_of net sound = step net.1.range refl
    where
      step : (range : Option Range) → net.1.range ≡ range → All (IsNameOf net) (flat_names names (net.0, record net.1 { range = range }))
      step None e = All-cons (IsNameOf net) (name_at names net.0) [] (record { kinds = inl (e, refl) }) (All-nil (IsNameOf net))
      step (Some range) e =
          let bounds : (range.left ≤ MAX_INDEX) × (range.right ≤ MAX_INDEX) = subst (λ (r : Option Range). MatchOption r (Unit {0}) (λ r. (r.left ≤ MAX_INDEX) × (r.right ≤ MAX_INDEX))) e sound.bounds in
          All-map (IsNameOf net) (bit_bytes (name_at names net.0)) (indexes range)
          (All-weaker (λ i. is_within range i ≡ true) (λ i. IsNameOf net (bit_bytes (name_at names net.0) i))
          (λ i within. record { kinds = inr (i, ap (λ (r : Option Range). has_bit r i) e ∙ within, low_index range i MAX_INDEX within bounds.0 bounds.1, refl) })
          (indexes range) (all_within range 0 (width range) (omega arith)))

  name_part : (net : ℕ × nets.Net) → IsSoundNet names net → (name : List ℕ) → IsNameOf net name → IsTrue (is_part name)
  name_part net sound name is = step is.kinds
    where
      step : ((net.1.range ≡ None) × (name ≡ name_at names net.0)) ⊎ ((i : ℕ) × (has_bit net.1.range i ≡ true) × (i ≤ MAX_INDEX) × (name ≡ bit_bytes (name_at names net.0) i)) → IsTrue (is_part name)
      step (inl h) = subst (λ (n : List ℕ). IsTrue (is_part n)) (sym h.1) sound.name.part
      step (inr h) = subst (λ (n : List ℕ). IsTrue (is_part n)) (sym h.3) (bit_part (name_at names net.0) h.0 sound.name.part h.2)

  pub net_name_parts : (net : ℕ × nets.Net) → IsSoundNet names net → All (λ name. IsTrue (is_part name)) (flat_names names net)
  net_name_parts net sound = All-weaker (IsNameOf net) (λ name. IsTrue (is_part name)) (name_part net sound) (flat_names names net) (names_of net sound)

  -- `bits` is a law of names of bits.
  module _ (bits : (n vector index : ℕ) (base : List ℕ) → number_of names base ≡ Some vector → index ≤ MAX_INDEX → bit_of names n (bit_bytes base index) ≡ Some (record { name = n; vector = vector; index = index })) where
    one_bit : (a b : ℕ) (i j : ℕ) → IsGoodNumber names a → IsGoodNumber names b → i ≤ MAX_INDEX → j ≤ MAX_INDEX → bit_bytes (name_at names a) i ≡ bit_bytes (name_at names b) j → (a ≡ b) × (i ≡ j)
    one_bit a b i j good other low small same =
        let first : BitName = record { name = 0; vector = a; index = i } in
        let second : BitName = record { name = 0; vector = b; index = j } in
        let e : Some first ≡ Some second = sym (bits 0 a i (name_at names a) good.known low) ∙ ap (bit_of names 0) same ∙ bits 0 b j (name_at names b) other.known small in
        let equal : first ≡ second = cc in
        (ap (λ (bit : BitName). bit.vector) equal, ap (λ (bit : BitName). bit.index) equal)

    pub net_names_differ : (net : ℕ × nets.Net) → IsSoundNet names net → AllPairs (λ a b. a ≢ b) (flat_names names net)
    net_names_differ net sound = step net.1.range refl
      where
        step : (range : Option Range) → net.1.range ≡ range → AllPairs (λ a b. a ≢ b) (flat_names names (net.0, record net.1 { range = range }))
        step None e = AllPairs-cons (λ a b. a ≢ b) (name_at names net.0) [] (All-nil (λ b. name_at names net.0 ≢ b)) (no_pairs (λ a b. a ≢ b))
        step (Some range) e =
            let bounds : (range.left ≤ MAX_INDEX) × (range.right ≤ MAX_INDEX) = subst (λ (r : Option Range). MatchOption r (Unit {0}) (λ r. (r.left ≤ MAX_INDEX) × (r.right ≤ MAX_INDEX))) e sound.bounds in
            pairs_map (bit_bytes (name_at names net.0)) (λ i. i ≤ MAX_INDEX) (λ i j. i ≢ j) (λ a b. a ≢ b)
            (λ i j low small apart same. apart (one_bit net.0 net.0 i j sound.name sound.name low small same).1)
            (indexes range)
            (All-weaker (λ i. is_within range i ≡ true) (λ i. i ≤ MAX_INDEX) (λ i within. low_index range i MAX_INDEX within bounds.0 bounds.1) (indexes range) (all_within range 0 (width range) (omega arith)))
            (all_differ range 0 (width range) (omega arith))

    name_apart : (a b : ℕ × nets.Net) → IsSoundNet names a → IsSoundNet names b → a.0 ≢ b.0 → AreApart names a b → (m n : List ℕ) → IsNameOf a m → IsNameOf b n → m ≢ n
    name_apart a b sound other differ apart m n is_m is_n same = step is_m.kinds is_n.kinds
      where
        step : ((a.1.range ≡ None) × (m ≡ name_at names a.0)) ⊎ ((i : ℕ) × (has_bit a.1.range i ≡ true) × (i ≤ MAX_INDEX) × (m ≡ bit_bytes (name_at names a.0) i))
            → ((b.1.range ≡ None) × (n ≡ name_at names b.0)) ⊎ ((i : ℕ) × (has_bit b.1.range i ≡ true) × (i ≤ MAX_INDEX) × (n ≡ bit_bytes (name_at names b.0) i)) → ⊥
        step (inl h) (inl k) =
            let e : Some a.0 ≡ Some b.0 = sym sound.name.known ∙ ap (number_of names) (sym h.1 ∙ same ∙ k.1) ∙ other.name.known in
            let equal : a.0 ≡ b.0 = cc in
            differ equal
        step (inl h) (inr k) = apart.first h.0 k.0 k.1 (sym h.1 ∙ same ∙ k.3)
        step (inr h) (inl k) = apart.second k.0 h.0 h.1 (sym k.1 ∙ sym same ∙ h.3)
        step (inr h) (inr k) = differ (one_bit a.0 b.0 h.0 k.0 sound.name other.name h.2 k.2 (sym h.3 ∙ same ∙ k.3)).0

    pub nets_apart : (a b : ℕ × nets.Net) → IsSoundNet names a → IsSoundNet names b → (a.0 ≢ b.0) × AreApart names a b → All (λ m. All (λ n. m ≢ n) (flat_names names b)) (flat_names names a)
    nets_apart a b sound other apart =
        all_across (IsNameOf a) (IsNameOf b) (λ m n. m ≢ n) (name_apart a b sound other apart.0 apart.1) (flat_names names a) (flat_names names b) (names_of a sound) (names_of b other)
