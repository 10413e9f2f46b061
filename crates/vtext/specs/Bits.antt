-- Names of bits of vectors (IEEE 1364-2005, 4.2.1): the vector's name, and the index in brackets.
use Rattle.std.specs.Prelude.{Bool, false, ℕ, suc, ◌+◌, ◌==◌, ◌&&◌, nat_eq, nat_le, if◌then◌else◌, List, [], ◌∷◌, ◌++◌, take, drop, Option, None, Some, option_and_then, option_map}
use Rattle.std.specs.Fmt.{decimal}
use Rattle.std.specs.List.{list_any}
use Rattle.std.specs.Option.{option_map_or, option_to_list}
use Rattle.std.specs.Str.{bytes_eq}
use Rattle.lexing.specs.Numbers as numbers
use Rattle.vtext.specs.declared.bits.BitName.{BitName}
use Rattle.vtext.specs.declared.net.Net.{Net}
use Rattle.vtext.specs.declared.range.Range.{Range}
use Rattle.vtext.specs.declared.range.TheConstants.{MAX_INDEX}
use Rattle.vtext.specs.Names.{name_at, number_of}
use Rattle.vtext.specs.Nets.{is_scalar, net_of}
use Rattle.vtext.specs.Ranges.{has_bit, is_within}

-- behind the opening bracket: the index, and the closing one
abbrev pub index_bytes : ℕ → List ℕ
index_bytes i = decimal i ++ 93 ∷ []

-- the name of the bit of an index, of a vector of this name
abbrev pub bit_bytes : List ℕ → ℕ → List ℕ
bit_bytes base i = base ++ 91 ∷ index_bytes i

-- Names of a text that are those of bits, if the text has the vector: some escaped names are.

-- where the last opening bracket is, of bytes from a place on, or of those before
abbrev pub last_open_from : List ℕ → ℕ → Option ℕ → Option ℕ
last_open_from [] at found = found
last_open_from (byte ∷ bytes) at found = last_open_from bytes (suc at) (if byte == 91 then Some at else found)

abbrev pub last_open : List ℕ → Option ℕ
last_open bytes = last_open_from bytes 0 None

-- bytes are what stands behind the opening bracket of an index: it has no leading zero
abbrev pub is_index : List ℕ → Bool
is_index tail = nat_le (numbers.number_of tail) MAX_INDEX && bytes_eq tail (index_bytes (numbers.number_of tail))

module _ (names : List (List ℕ)) where
  -- the bit that the name of number n is of, with what stands before and behind its last opening bracket
  abbrev pub bit_between : ℕ → List ℕ → List ℕ → Option BitName
  bit_between n base tail =
      if is_index tail then option_map (λ vector. record { name = n; vector = vector; index = numbers.number_of tail }) (number_of names base)
      else None

  -- the same, that bracket being at this place
  abbrev pub bit_at : ℕ → List ℕ → ℕ → Option BitName
  bit_at n bytes place = bit_between n (take place bytes) (drop (place + 1) bytes)

  -- the bit that the name of number n is of, and these bytes
  abbrev pub bit_of : ℕ → List ℕ → Option BitName
  bit_of n bytes = option_and_then (bit_at n bytes) (last_open bytes)

  -- the bits that names are of, the first of number n
  abbrev pub bits_from : ℕ → List (List ℕ) → List BitName
  bits_from n [] = []
  bits_from n (bytes ∷ more) = option_to_list (bit_of n bytes) ++ bits_from (n + 1) more

  abbrev pub bit_names : List BitName
  bit_names = bits_from 0 names

-- The nets of a module have different names, and so have the bits of its vectors.

-- one of the nets is a vector that has this bit
abbrev pub is_bit_of : List (ℕ × Net) → BitName → Bool
is_bit_of nets bit = option_map_or (λ net. has_bit net.range bit.index) (net_of nets bit.vector) false

-- the name of a scalar is that of a bit of one of the nets
abbrev pub is_named_bit : List (List ℕ) → List (ℕ × Net) → ℕ → Bool
is_named_bit names nets n = option_map_or (is_bit_of nets) (bit_of names n (name_at names n)) false

-- a scalar among the nets has the name of a bit of a vector of this name and range
abbrev pub names_bit_of : List (ℕ × Net) → ℕ → Range → BitName → Bool
names_bit_of nets n range bit = nat_eq n bit.vector && is_within range bit.index && option_map_or is_scalar (net_of nets bit.name) false

abbrev pub has_named_bit : List (List ℕ) → List (ℕ × Net) → ℕ → Range → Bool
has_named_bit names nets n range = list_any (names_bit_of nets n range) (bit_names names)

-- the flat name of a net that comes to be, or of one of its bits, is that of another net of the module
abbrev pub is_clash : List (List ℕ) → List (ℕ × Net) → ℕ → Option Range → Bool
is_clash names nets n None = is_named_bit names nets n
is_clash names nets n (Some range) = has_named_bit names nets n range
