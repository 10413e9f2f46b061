-- What stands behind the opening bracket of an index, and the bits that names are of.
use Rattle.std.proofs.Common.{◌≡◌, ◌≢◌, ℕ, ◌+◌, ◌<◌, Bool, true, false, ◌&&◌, List, [], ◌++◌, Option, Some, None, cond, option_map, option_and_then, take, drop, length, refl, sym, ap, ◌∙◌}
use Rattle.std.proofs.lemmas.Bool.{false≢true}
use Rattle.std.proofs.lemmas.List.{append_assoc, append_cancel_right, at_drop_more, take-append-drop}
use Rattle.std.proofs.lemmas.Slice.Eq.{bytes_eq-Decides}
use Rattle.std.specs.Fmt.{decimal}
use Rattle.std.specs.Option.{option_to_list}
use Rattle.std.specs.Prelude.{codes, nat_le}
use Rattle.std.specs.Str.{bytes_eq}
use Rattle.lexing.specs.Numbers as numbers
use Rattle.vtext.specs.declared.range.TheConstants.{MAX_INDEX}
use Rattle.vtext.specs.Bits.{bit_at, bit_between, bit_of, bits_from, index_bytes, is_index, last_open}
use Rattle.vtext.specs.Names.{name_at, number_of}

both_false : (a : Bool) → false ≡ (a && false)
both_false true = refl
both_false false = refl

-- without the closing bracket they are no index
pub not_index : (tail : List ℕ) → ((front : List ℕ) → tail ≢ front ++ codes "]") → false ≡ is_index tail
not_index tail unclosed = by (bytes_eq tail (index_bytes (numbers.number_of tail))) refl
  where
    by : (b : Bool) → bytes_eq tail (index_bytes (numbers.number_of tail)) ≡ b → false ≡ is_index tail
    by true same = absurd (unclosed (decimal (numbers.number_of tail)) ((bytes_eq-Decides tail (index_bytes (numbers.number_of tail))).0 same))
    by false same = both_false (nat_le (numbers.number_of tail) MAX_INDEX) ∙ sym (ap (λ b. nat_le (numbers.number_of tail) MAX_INDEX && b) same)

none_by : (names : List (List ℕ)) (n : ℕ) (base tail : List ℕ) (b : Bool) → is_index tail ≡ b → false ≡ is_index tail → bit_between names n base tail ≡ None
none_by names n base tail true is not = absurd (false≢true (not ∙ is))
none_by names n base tail false is not = ap (λ b. cond b (option_map (λ (vector : ℕ). record { name = n; vector = vector; index = numbers.number_of tail }) (number_of names base)) None) is

-- without a closing bracket at their end bytes are the name of no bit
pub unclosed_no_bit : (names : List (List ℕ)) (n : ℕ) (bytes : List ℕ) → ((front : List ℕ) → bytes ≢ front ++ codes "]") → bit_of names n bytes ≡ None
unclosed_no_bit names n bytes unclosed = by (last_open bytes) refl
  where
    by : (found : Option ℕ) → last_open bytes ≡ found → bit_of names n bytes ≡ None
    by None e = ap (λ found. option_and_then (bit_at names n bytes) found) e
    by (Some place) e =
        let tail : List ℕ = drop (place + 1) bytes in
        let open_tail : (front : List ℕ) → tail ≢ front ++ codes "]" =
        λ front h. unclosed (take (place + 1) bytes ++ front) (sym (take-append-drop (place + 1) bytes) ∙ ap (λ t. take (place + 1) bytes ++ t) h ∙ sym (append_assoc (take (place + 1) bytes) front (codes "]"))) in
        ap (λ found. option_and_then (bit_at names n bytes) found) e ∙ none_by names n (take place bytes) tail (is_index tail) refl (not_index tail open_tail)

-- two texts are the same where they are with the same end
same_with_end : (a b end : List ℕ) → bytes_eq a b ≡ bytes_eq (a ++ end) (b ++ end)
same_with_end a b end = by (bytes_eq a b) (bytes_eq (a ++ end) (b ++ end)) refl refl
  where
    by : (x y : Bool) → bytes_eq a b ≡ x → bytes_eq (a ++ end) (b ++ end) ≡ y → bytes_eq a b ≡ bytes_eq (a ++ end) (b ++ end)
    by true true x y = x ∙ sym y
    by false false x y = x ∙ sym y
    by true false x y = absurd (false≢true (sym y ∙ (bytes_eq-Decides (a ++ end) (b ++ end)).1 (ap (λ t. t ++ end) ((bytes_eq-Decides a b).0 x))))
    by false true x y = absurd (false≢true (sym x ∙ (bytes_eq-Decides a b).1 (append_cancel_right a b end ((bytes_eq-Decides (a ++ end) (b ++ end)).0 y))))

-- with it they are one where the digits are those of a number within the limit
pub is_index_by : (tail digits : List ℕ) (within same : Bool) → tail ≡ digits ++ codes "]" → nat_le (numbers.number_of tail) MAX_INDEX ≡ within
    → same ≡ bytes_eq digits (decimal (numbers.number_of tail)) → (within && same) ≡ is_index tail
is_index_by tail digits within same is le eq =
    ap (λ b. b && same) (sym le)
    ∙ ap (λ b. nat_le (numbers.number_of tail) MAX_INDEX && b)
    (eq ∙ same_with_end digits (decimal (numbers.number_of tail)) (codes "]") ∙ ap (λ t. bytes_eq t (index_bytes (numbers.number_of tail))) (sym is))

-- the bits of names from a place on begin with that of the name there, if it is of one
pub bits_more : (names : List (List ℕ)) (n : ℕ) → n < length names
    → bits_from names n (drop n names) ≡ option_to_list (bit_of names n (name_at names n)) ++ bits_from names (n + 1) (drop (n + 1) names)
bits_more names n within = at_drop_more (bits_from names n) names n [] within
