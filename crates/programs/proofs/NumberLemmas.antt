-- What std's `parse` reads, against the numbers of the command line.
use Rattle.std.proofs.Common.{◌≡◌, ◌==◌, ◌<◌, ◌^◌, ℕ, Bool, true, false, List, [], ◌∷◌, None, ◌&&◌, slice_index, nat_le, nat_lt, refl, arith}
use Rattle.std.specs.List.{list_all}
use Rattle.std.specs.Char.{digit_value}
use Rattle.std.specs.Str.Parse.{AllDigits, IsNumeral, digits_value, without_leading_plus}
use Rattle.std.proofs.lemmas.Grind.{common_steps}
use Rattle.programs.specs.Numbers.{is_digit, is_number, number_of_text, within}

all_digits : (ds : List ℕ) → AllDigits 10 ds → list_all is_digit ds ≡ true
all_digits [] h = refl
all_digits (d ∷ ds) h =
    let rest = all_digits ds h.1 in
    let here : digit_value d < 10 = h.0 in
    let test : nat_lt (digit_value d) 10 ≡ true = grind (arith, common_steps) in rw (test, rest) refl

digits_all : (ds : List ℕ) → list_all is_digit ds ≡ true → AllDigits 10 ds
digits_all [] h = tt
digits_all (d ∷ ds) h = go (is_digit d) refl (λ rest. digits_all ds rest)
  where
    go : (b : Bool) → is_digit d ≡ b → (list_all is_digit ds ≡ true → AllDigits 10 ds) → AllDigits 10 (d ∷ ds)
    go true e more =
        let rest : list_all is_digit ds ≡ true = rw e at h in
        let here : digit_value d < 10 = grind (arith, common_steps) in (here, more rest)
    go false e more = let bad : false ≡ true = rw e at h in cc

numeral_is : (ds : List ℕ) → IsNumeral 10 ds → is_number ds ≡ true
numeral_is [] h = absurd (omega arith)
numeral_is (d ∷ ds) h = all_digits (d ∷ ds) h.1

is_numeral : (ds : List ℕ) → is_number ds ≡ true → IsNumeral 10 ds
is_numeral [] h = cc
is_numeral (d ∷ ds) h = (omega arith, digits_all (d ∷ ds) h)

without_plus : (bs : List ℕ) → (slice_index bs 0 == 43) ≡ false → without_leading_plus bs ≡ bs
without_plus bs e = rw e refl

-- a text that begins with a plus
pub plus_number : (least most : ℕ) (bs : List ℕ) → (slice_index bs 0 == 43) ≡ true → None ≡ number_of_text least most bs
unfolding number_of_text
plus_number least most [] e = refl
plus_number least most (d ∷ ds) e = let same : d ≡ 43 = grind arith in rw same refl

-- a text that `parse` reads, without a plus
pub read_number : (least most : ℕ) (bs : List ℕ) (n : ℕ) → (slice_index bs 0 == 43) ≡ false → IsNumeral 10 (without_leading_plus bs)
    → n ≡ digits_value 10 (without_leading_plus bs) → within least most n ≡ number_of_text least most bs
unfolding number_of_text
read_number least most bs n e numeral value =
    let same = without_plus bs e in
    let test : is_number bs ≡ true = numeral_is bs (rw same at numeral) in
    let number : n ≡ digits_value 10 bs = rw same at value in rw (test, number) refl

-- a text that `parse` refuses, without a plus
pub unread_number : (least most : ℕ) (bs : List ℕ) → most < 2 ^ 64 → (slice_index bs 0 == 43) ≡ false
    → ¬ (IsNumeral 10 (without_leading_plus bs) × (digits_value 10 (without_leading_plus bs) < 2 ^ 64)) → None ≡ number_of_text least most bs
unfolding number_of_text
unread_number least most bs fits e unread = go (is_number bs) refl
  where
    go : (b : Bool) → is_number bs ≡ b → None ≡ number_of_text least most bs
    go false test = rw test refl
    go true test = go2 (nat_le least (digits_value 10 bs) && nat_le (digits_value 10 bs) most) refl
      where
        go2 : (b : Bool) → (nat_le least (digits_value 10 bs) && nat_le (digits_value 10 bs) most) ≡ b → None ≡ number_of_text least most bs
        go2 false over = rw (test, over) refl
        go2 true inside =
            let small : digits_value 10 bs < 2 ^ 64 = grind (arith, common_steps) in
            let read : IsNumeral 10 (without_leading_plus bs) × (digits_value 10 (without_leading_plus bs) < 2 ^ 64) =
            rw (without_plus bs e) (is_numeral bs test, small) in absurd (unread read)
