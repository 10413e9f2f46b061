-- The numbers of the values of inputs.
use Rattle.std.proofs.Common.{◌≡◌, ◌<◌, ◌≤◌, ◌+◌, ◌/◌, ◌%◌, ◌++◌, ◌∙◌, ◌⊎◌, inl, inr, ap, sym, refl, ℕ, zero, suc, List, [], ◌∷◌, Some, length, slice_get, arith}
use Rattle.std.proofs.lemmas.Bool.{cases_lt}
use Rattle.std.proofs.lemmas.List.{length_push}
use Rattle.std.proofs.lemmas.Option.{slice_get_within}
use Rattle.fourstate.specs.declared.value.Value.{Value}
use Rattle.fourstate.specs.declared.value.Value.TheVariants.{Zero, One, Unknown, HighZ}
use Rattle.gateline.specs.kept.Codes.{code_of, digit_of, value_of_digit}
use Rattle.waveform.specs.kept.Digits.{digit_low}

-- a number is that of its value, and a value that of its number
pub value_kept : (v : Value) → value_of_digit (digit_of v) ≡ v
value_kept Zero = refl
value_kept One = refl
value_kept Unknown = refl
value_kept HighZ = refl

pub code_begun : (values : List Value) → 0 < code_of values
code_begun [] = omega arith
code_begun (v ∷ values) = let rest = code_begun values in omega arith

-- the numbers of a few values are low
pub code_low : (values : List Value) → length values ≤ 4 → code_of values < 512
code_low [] few = omega arith
code_low (a ∷ []) few = let la = digit_low a in omega arith
code_low (a ∷ b ∷ []) few = let la = digit_low a in let lb = digit_low b in omega arith
code_low (a ∷ b ∷ c ∷ []) few = let la = digit_low a in let lb = digit_low b in let lc = digit_low c in omega arith
code_low (a ∷ b ∷ c ∷ d ∷ []) few = let la = digit_low a in let lb = digit_low b in let lc = digit_low c in let ld = digit_low d in omega arith
code_low (a ∷ b ∷ c ∷ d ∷ e ∷ values) few = absurd (omega arith)

-- the number of the values behind the first, and that of the first
pub code_behind : (v : Value) (values : List Value) (n : ℕ) → code_of (v ∷ values) ≡ n → n / 4 ≡ code_of values
code_behind v values n is = let low = digit_low v in omega arith

pub code_first : (v : Value) (values : List Value) (n : ℕ) → code_of (v ∷ values) ≡ n → value_of_digit (n % 4) ≡ v
code_first v values n is = let low = digit_low v in let same : n % 4 ≡ digit_of v = omega arith in ap value_of_digit same ∙ value_kept v

-- an element of a list that one is added to
kept_before : {A : Type 0} (xs : List A) (x : A) (i : ℕ) → i < length xs → slice_get (xs ++ x ∷ []) i ≡ slice_get xs i
kept_before [] x i low = absurd (omega arith)
kept_before (z ∷ xs) x zero low = refl
kept_before (z ∷ xs) x (suc i) low = kept_before xs x i (omega arith)

the_last : {A : Type 0} (xs : List A) (x : A) → slice_get (xs ++ x ∷ []) (length xs) ≡ Some x
the_last [] x = refl
the_last (z ∷ xs) x = the_last xs x

-- entries that stand for all values whose numbers are below their count
pub record AreEntries (entries : List (List Value)) : Type 0 where
  pub all : (values : List Value) → code_of values < length entries → slice_get entries (code_of values) ≡ Some values
  pub short : (i : ℕ) (values : List Value) → slice_get entries i ≡ Some values → length values + length values ≤ i

-- the entries of the first two numbers
pub two_entries : AreEntries ([] ∷ [] ∷ [])
two_entries =
    record {
      all = begun;
      short = none;
    }
  where
    begun : (values : List Value) → code_of values < 2 → slice_get ([] ∷ [] ∷ []) (code_of values) ≡ Some values
    begun [] low = refl
    begun (v ∷ values) low = let rest = code_begun values in absurd (omega arith)

    none : (i : ℕ) (values : List Value) → slice_get ([] ∷ [] ∷ []) i ≡ Some values → length values + length values ≤ i
    none i [] is = omega arith
    none zero (v ∷ values) is = absurd (cc)
    none (suc zero) (v ∷ values) is = absurd (cc)
    none (suc (suc i)) (v ∷ values) is = absurd (cc)

-- one entry more: a value before those of an earlier entry
module _ (entries : List (List Value)) (behind : List Value) (are : AreEntries entries) (begun : 2 ≤ length entries) (there : slice_get entries (length entries / 4) ≡ Some behind) where
  abbrev pub added : List Value
  added = value_of_digit (length entries % 4) ∷ behind

  all_of : (values : List Value) → code_of values < suc (length entries) → (code_of values < length entries) ⊎ (length entries ≤ code_of values) →
      slice_get (entries ++ added ∷ []) (code_of values) ≡ Some values
  all_of values within (inl low) = kept_before entries added (code_of values) low ∙ are.all values low
  all_of [] within (inr past) = absurd (omega arith)
  all_of (v ∷ values) within (inr past) =
      let at : code_of (v ∷ values) ≡ length entries = omega arith in
      let first = code_first v values (length entries) at in let place = code_behind v values (length entries) at in
      let least = code_begun values in let low : code_of values < length entries = omega arith in
      let same : Some behind ≡ Some values = sym there ∙ ap (slice_get entries) place ∙ are.all values low in
      let rest : behind ≡ values = cc in
      ap (slice_get (entries ++ added ∷ [])) at ∙ the_last entries added ∙ (λ i. Some (first i ∷ rest i))

  short_of : (i : ℕ) (values : List Value) → i < suc (length entries) → (i < length entries) ⊎ (length entries ≤ i) → slice_get (entries ++ added ∷ []) i ≡ Some values → length values + length values ≤ i
  short_of i values within (inl low) is = are.short i values (sym (kept_before entries added i low) ∙ is)
  short_of i values within (inr past) is =
      let at : i ≡ length entries = omega arith in
      let same : Some added ≡ Some values = sym (the_last entries added) ∙ sym (ap (slice_get (entries ++ added ∷ [])) at) ∙ is in
      let whole : added ≡ values = cc in
      let long : suc (length behind) ≡ length values = ap length whole in
      let short = are.short (length entries / 4) behind there in omega arith

  pub one_entry_more : AreEntries (entries ++ added ∷ [])
  one_entry_more =
      let more = length_push entries added in
      record {
        all = λ values low. all_of values (omega arith) (cases_lt (code_of values) (length entries));
        short = λ i values is. let low = slice_get_within (entries ++ added ∷ []) i values is in short_of i values (omega arith) (cases_lt i (length entries)) is;
      }

-- an earlier entry has room for one value more
pub has_room : (entries : List (List Value)) (behind : List Value) → AreEntries entries → length entries < 512
    → slice_get entries (length entries / 4) ≡ Some behind → length behind < 64
has_room entries behind are within there = let short = are.short (length entries / 4) behind there in omega arith
