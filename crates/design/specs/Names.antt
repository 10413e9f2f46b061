-- Names, as bytes (own).
use Rattle.std.specs.Prelude.{Bool, ℕ, ◌==◌, ◌&&◌, not, nat_le, List, length, codes}
use Rattle.std.specs.List.{list_all, slice_split}
pub use Rattle.catalog.specs.Catalog.{same_name}
use Rattle.design.specs.declared.limits.TheConstants.{MAX_NAME}

-- a byte that a part of a name may have: printable and no blank, apostrophe or dot
abbrev pub is_name_byte : ℕ → Bool
is_name_byte byte = nat_le 33 byte && nat_le byte 126 && not (byte == 39) && not (byte == 46)

-- a part of a name is one such byte or more, and not the word that ends a part of a file
abbrev pub is_part : List ℕ → Bool
is_part bytes = nat_le 1 (length bytes) && list_all is_name_byte bytes && not (same_name bytes (codes "$end"))

-- what stands between the dots
abbrev pub parts : List ℕ → List (List ℕ)
parts bytes = slice_split (λ byte. byte == 46) bytes

-- a name has at most 1,024 bytes, and what stands between its dots are parts
abbrev pub is_name : List ℕ → Bool
is_name bytes = nat_le (length bytes) MAX_NAME && list_all is_part (parts bytes)
