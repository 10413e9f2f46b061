-- Names of bits: the last opening bracket splits them in one way.
use Rattle.std.proofs.Common.{◌≡◌, ℕ, zero, suc, ◌+◌, ◌*◌, ◌/◌, ◌%◌, ◌^◌, ◌<◌, ◌≤◌, ◌==◌, ◌&&◌, ◌⊎◌, inl, inr, Bool, true, false, cond, nat_le, min, fold, List, [], ◌∷◌, ◌++◌, Option, Some, None, length, take, drop, decimal, get_or, option_map, option_and_then, refl, sym, ap, subst, ◌∙◌, arith}
use Rattle.std.proofs.Math.Seq.{drop-append-add, take-append_seam}
use Rattle.std.proofs.lemmas.Bool.{or_left, or_right}
use Rattle.std.proofs.lemmas.Bool.Decides.{nat_tests}
use Rattle.std.proofs.lemmas.Fmt.{decimal_by_steps}
use Rattle.std.proofs.lemmas.List.Folds.{list_any-append}
use Rattle.std.proofs.lemmas.List.Sums.{fold-append}
use Rattle.std.proofs.lemmas.Slice.Eq.{bytes_eq-Decides}
use Rattle.std.specs.List.{list_any}
use Rattle.std.specs.Option.{option_to_list}
use Rattle.std.specs.Str.{bytes_eq}
use Rattle.lexing.specs.Classes.{is_digit}
use Rattle.lexing.specs.Numbers as numbers
use Rattle.lexing.specs.Numbers.{with_byte}
use Rattle.vtext.specs.declared.bits.BitName.{BitName}
use Rattle.vtext.specs.declared.range.TheConstants.{MAX_INDEX}
use Rattle.vtext.specs.Bits.{bit_at, bit_bytes, bit_names, bit_of, bits_from, index_bytes, is_index, last_open, last_open_from}
use Rattle.vtext.specs.Names.{number_of}

-- Digits.

-- there is no opening bracket
abbrev IsOpenless : List ℕ → Type 0
IsOpenless [] = Unit {0}
IsOpenless (b ∷ bytes) = ((b == 91) ≡ false) × IsOpenless bytes

openless_more : (ds : List ℕ) (b : ℕ) → IsOpenless ds → (b == 91) ≡ false → IsOpenless (ds ++ b ∷ [])
openless_more [] b h e = (e, tt)
openless_more (d ∷ ds) b h e = (h.0, openless_more ds b h.1 e)

-- bytes that write the number, with no opening bracket among them
abbrev Writes : ℕ → List ℕ → Type 0
Writes n ds = (fold with_byte 0 ds ≡ n) × IsOpenless ds

digit_more : (n d : ℕ) → d < 10 → with_byte n (48 + d) ≡ 10 * n + d
unfolding is_digit
digit_more n d h =
    let low : nat_le 48 (48 + d) ≡ true = grind (arith, nat_tests) in
    let high : nat_le (48 + d) 57 ≡ true = grind (arith, nat_tests) in
    rw (low, high) (omega arith)

no_open : (d : ℕ) → d < 10 → (48 + d == 91) ≡ false
no_open d h = grind (arith, nat_tests)

one_digit : (n : ℕ) → n < 10 → Writes n ((48 + n) ∷ [])
one_digit n h = (digit_more 0 n h ∙ omega arith, (no_open n h, tt))

last_digit : (n : ℕ) (ds : List ℕ) → 10 ≤ n → Writes (n / 10) ds → Writes n (ds ++ ((48 + n % 10) ∷ []))
last_digit n ds ten h =
    let small : n % 10 < 10 = omega arith in (
      fold-append with_byte 0 ds ((48 + n % 10) ∷ []) ∙ ap (λ (m : ℕ). with_byte m (48 + n % 10)) h.0 ∙ digit_more (n / 10) (n % 10) small ∙ omega arith,
      openless_more ds (48 + n % 10) h.1 (no_open (n % 10) small),
    )

decimal_writes : (n : ℕ) → n < 2 ^ 64 → Writes n (decimal n)
decimal_writes = decimal_by_steps Writes one_digit last_digit

-- Behind the bracket.

no_digit : (n : ℕ) → with_byte n 93 ≡ n
unfolding is_digit
no_digit n = refl

index_openless : (i : ℕ) → i ≤ MAX_INDEX → IsOpenless (index_bytes i)
index_openless i h = openless_more (decimal i) 93 (decimal_writes i (omega arith)).1 refl

index_value : (i : ℕ) → i ≤ MAX_INDEX → numbers.number_of (index_bytes i) ≡ i
index_value i h =
    let whole : fold with_byte 0 (index_bytes i) ≡ i = fold-append with_byte 0 (decimal i) (93 ∷ []) ∙ no_digit _ ∙ (decimal_writes i (omega arith)).0 in
    ap (min 4294967295) whole ∙ omega arith

and_true : (a b : Bool) → a ≡ true → b ≡ true → (a && b) ≡ true
and_true a b p q = rw (p, q) refl

index_said : (i : ℕ) → i ≤ MAX_INDEX → is_index (index_bytes i) ≡ true
index_said i h =
    let tail : List ℕ = index_bytes i in
    let value : numbers.number_of tail ≡ i = index_value i h in
    let low : nat_le i MAX_INDEX ≡ true = grind (arith, nat_tests) in
    and_true (nat_le (numbers.number_of tail) MAX_INDEX) (bytes_eq tail (index_bytes (numbers.number_of tail)))
    (ap (λ (n : ℕ). nat_le n MAX_INDEX) value ∙ low)
    ((bytes_eq-Decides tail (index_bytes (numbers.number_of tail))).1 (ap index_bytes (sym value)))

-- The last bracket.

none_later : (bytes : List ℕ) (at : ℕ) (found : Option ℕ) → IsOpenless bytes → last_open_from bytes at found ≡ found
none_later [] at found h = refl
none_later (b ∷ bytes) at found h = rw (h.0) (none_later bytes (suc at) found h.1)

open_from : (base tail : List ℕ) (at : ℕ) (found : Option ℕ) → IsOpenless tail → last_open_from (base ++ 91 ∷ tail) at found ≡ Some (at + length base)
open_from [] tail at found h = none_later tail (suc at) (Some at) h ∙ ap Some (omega arith)
open_from (b ∷ base) tail at found h = open_from base tail (suc at) (cond (b == 91) (Some at) found) h ∙ ap Some (omega arith)

-- the bracket is the first byte behind the vector's name
bracket_first : (base : List ℕ) (i : ℕ) → bit_bytes base i ≡ base ++ 91 ∷ index_bytes i
bracket_first base i = refl

open_there : (base : List ℕ) (i : ℕ) → i ≤ MAX_INDEX → last_open (bit_bytes base i) ≡ Some (length base)
open_there base i h = ap last_open (bracket_first base i) ∙ open_from base (index_bytes i) 0 None (index_openless i h) ∙ ap Some (omega arith)

-- The name of a bit is read as one.
module _ (names : List (List ℕ)) (n : ℕ) where
  split_at : (base : List ℕ) (v i : ℕ) → number_of names base ≡ Some v → i ≤ MAX_INDEX
      → bit_at names n (bit_bytes base i) (length base) ≡ Some (record { name = n; vector = v; index = i })
  split_at base v i named h =
      let tail : drop (length base + 1) (bit_bytes base i) ≡ index_bytes i = ap (drop (length base + 1)) (bracket_first base i) ∙ drop-append-add base (91 ∷ index_bytes i) 1 in
      let front : take (length base) (bit_bytes base i) ≡ base = ap (take (length base)) (bracket_first base i) ∙ take-append_seam base (91 ∷ index_bytes i) in
      let said : is_index (index_bytes i) ≡ true = index_said i h in
      let value : numbers.number_of (index_bytes i) ≡ i = index_value i h in
      let B : List ℕ → List ℕ → Option BitName = λ rest before.
      cond (is_index rest) (option_map (λ (vector : ℕ). record { name = n; vector = vector; index = numbers.number_of rest }) (number_of names before)) None in
      let C : ℕ → Option ℕ → Option BitName = λ index found. option_map (λ (vector : ℕ). record { name = n; vector = vector; index = index }) found in
      ap (λ (rest : List ℕ). B rest (take (length base) (bit_bytes base i))) tail ∙ ap (B (index_bytes i)) front
      ∙ ap (λ (b : Bool). cond b (C (numbers.number_of (index_bytes i)) (number_of names base)) None) said
      ∙ ap (λ (index : ℕ). C index (number_of names base)) value ∙ ap (C i) named

  pub bit_there : (base : List ℕ) (v i : ℕ) → number_of names base ≡ Some v → i ≤ MAX_INDEX → bit_of names n (bit_bytes base i) ≡ Some (record { name = n; vector = v; index = i })
  bit_there base v i named h =
      ap (λ (place : Option ℕ). option_and_then (bit_at names n (bit_bytes base i)) place) (open_there base i h) ∙ split_at base v i named h

-- And it is among the bits of the names.

any_from : (names : List (List ℕ)) (p : BitName → Bool) (bit : BitName) → p bit ≡ true → (start : ℕ) (more : List (List ℕ)) (k : ℕ) → k < length more
    → bit_of names (start + k) (get_or more k []) ≡ Some bit → list_any p (bits_from names start more) ≡ true
any_from names p bit good start [] k within e = absurd (omega arith)
any_from names p bit good start (bytes ∷ more) zero within e =
    let here : bit_of names start bytes ≡ Some bit = subst (λ (n : ℕ). bit_of names n bytes ≡ Some bit) (omega arith) e in
    list_any-append p (option_to_list (bit_of names start bytes)) (bits_from names (start + 1) more)
    ∙ or_left (list_any p (option_to_list (bit_of names start bytes))) (list_any p (bits_from names (start + 1) more))
    (ap (λ (found : Option BitName). list_any p (option_to_list found)) here ∙ or_left (p bit) false good)
any_from names p bit good start (bytes ∷ more) (suc k) within e =
    let rest : bit_of names (start + 1 + k) (get_or more k []) ≡ Some bit = subst (λ (n : ℕ). bit_of names n (get_or more k []) ≡ Some bit) (omega arith) e in
    list_any-append p (option_to_list (bit_of names start bytes)) (bits_from names (start + 1) more)
    ∙ or_right (list_any p (option_to_list (bit_of names start bytes))) (list_any p (bits_from names (start + 1) more))
    (any_from names p bit good (start + 1) more k (omega arith) rest)

pub any_bit : (names : List (List ℕ)) (p : BitName → Bool) (bit : BitName) (m : ℕ) → m < length names → bit_of names m (get_or names m []) ≡ Some bit → p bit ≡ true
    → list_any p (bit_names names) ≡ true
any_bit names p bit m within e good = any_from names p bit good 0 names m within (subst (λ (n : ℕ). bit_of names n (get_or names m []) ≡ Some bit) (omega arith) e)

-- What is read as the name of a bit is one.

last_split : (bytes : List ℕ) (at place : ℕ) (found : Option ℕ) → last_open_from bytes at found ≡ Some place
    → (found ≡ Some place) ⊎ ((k : ℕ) × (place ≡ at + k) × (bytes ≡ take k bytes ++ 91 ∷ drop (suc k) bytes))
last_split [] at place found e = inl e
last_split (b ∷ bytes) at place found e = step (b == 91) refl (last_split bytes (suc at) place (cond (b == 91) (Some at) found) e)
  where
    step : (is : Bool) → (b == 91) ≡ is → (cond is (Some at) found ≡ Some place) ⊎ ((k : ℕ) × (place ≡ suc at + k) × (bytes ≡ take k bytes ++ 91 ∷ drop (suc k) bytes))
        → (found ≡ Some place) ⊎ ((k : ℕ) × (place ≡ at + k) × (b ∷ bytes ≡ take k (b ∷ bytes) ++ 91 ∷ drop (suc k) (b ∷ bytes)))
    step true is (inl h) =
        let same : at ≡ place = cc in
        let bracket : b ≡ 91 = grind (arith, nat_tests) in
        inr (0, omega (arith, same), ap (λ (x : ℕ). x ∷ bytes) bracket)
    step false is (inl h) = inl h
    step is same (inr h) = inr (suc h.0, omega (arith, h.1), ap (λ (rest : List ℕ). b ∷ rest) h.2)

and_parts : (a b : Bool) → (a && b) ≡ true → (a ≡ true) × (b ≡ true)
and_parts true b h = (refl, h)
and_parts false b h = absurd cc

-- the bit is of this number, and its name that of a vector with a number, and an index
pub record IsBitName (names : List (List ℕ)) (n : ℕ) (name_bytes : List ℕ) (bit : BitName) : Type 0 where
  pub name : bit.name ≡ n
  pub base : List ℕ
  pub vector : number_of names base ≡ Some bit.vector
  pub index : bit.index ≤ MAX_INDEX
  pub bytes : name_bytes ≡ bit_bytes base bit.index

only_at : (names : List (List ℕ)) (n : ℕ) (bytes : List ℕ) (bit : BitName) (place : ℕ) → bytes ≡ take place bytes ++ 91 ∷ drop (place + 1) bytes
    → bit_at names n bytes place ≡ Some bit → IsBitName names n bytes bit
only_at names n bytes bit place split e = step (is_index tail) (number_of names front) refl refl e
  where
    tail : List ℕ
    tail = drop (place + 1) bytes

    front : List ℕ
    front = take place bytes

    step : (index : Bool) (found : Option ℕ) → is_index tail ≡ index → number_of names front ≡ found
        → cond index (option_map (λ (vector : ℕ). record { name = n; vector = vector; index = numbers.number_of tail }) found) None ≡ Some bit → IsBitName names n bytes bit
    step false found is named h = absurd cc
    step true None is named h = absurd cc
    step true (Some vector) is named h =
        let made : BitName = record { name = n; vector = vector; index = numbers.number_of tail } in
        let same : made ≡ bit = cc in
        let parts = and_parts (nat_le (numbers.number_of tail) MAX_INDEX) (bytes_eq tail (index_bytes (numbers.number_of tail))) is in
        let low : numbers.number_of tail ≤ MAX_INDEX = let test = parts.0 in grind (arith, nat_tests) in
        let behind : tail ≡ index_bytes (numbers.number_of tail) = (bytes_eq-Decides tail (index_bytes (numbers.number_of tail))).0 parts.1 in
        let there : IsBitName names n bytes made = record {
          name = refl;
          base = front;
          vector = named;
          index = low;
          bytes = split ∙ ap (λ (rest : List ℕ). front ++ 91 ∷ rest) behind ∙ sym (bracket_first front (numbers.number_of tail));
        } in
        subst (IsBitName names n bytes) same there

pub only_bits : (names : List (List ℕ)) (n : ℕ) (bytes : List ℕ) (bit : BitName) → bit_of names n bytes ≡ Some bit → IsBitName names n bytes bit
only_bits names n bytes bit e = step (last_open bytes) refl e
  where
    place_split : (place : ℕ) → last_open bytes ≡ Some place → bytes ≡ take place bytes ++ 91 ∷ drop (place + 1) bytes
    place_split place last = found (last_split bytes 0 place None last)
      where
        found : (◌≡◌ {A = Option ℕ} None (Some place)) ⊎ ((k : ℕ) × (place ≡ 0 + k) × (bytes ≡ take k bytes ++ 91 ∷ drop (suc k) bytes)) → bytes ≡ take place bytes ++ 91 ∷ drop (place + 1) bytes
        found (inl h) = absurd cc
        found (inr h) =
            let here : h.0 ≡ place = omega (arith, h.1) in
            let next : suc h.0 ≡ place + 1 = omega (arith, h.1) in
            h.2 ∙ ap (λ (k : ℕ). take k bytes ++ 91 ∷ drop (suc h.0) bytes) here ∙ ap (λ (k : ℕ). take place bytes ++ 91 ∷ drop k bytes) next

    step : (found : Option ℕ) → last_open bytes ≡ found → option_and_then (bit_at names n bytes) found ≡ Some bit → IsBitName names n bytes bit
    step None last h = absurd cc
    step (Some place) last h = only_at names n bytes bit place (place_split place last) h
