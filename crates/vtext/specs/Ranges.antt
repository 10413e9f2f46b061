-- Ranges of vectors (IEEE 1364-2005, 4.3): the bits of a vector, from its left bound to its right one.
use Rattle.std.specs.Prelude.{Bool, false, ℕ, zero, suc, ◌+◌, ◌-◌, ◌&&◌, ◌||◌, nat_le, if◌then◌else◌, List, [], ◌∷◌, Option}
use Rattle.std.specs.Option.{option_map_or}
use Rattle.vtext.specs.declared.range.Range.{Range}

-- how far apart two indexes are
abbrev pub distance : ℕ → ℕ → ℕ
distance a b = (a - b) + (b - a)

-- how many bits there are
abbrev pub width : Range → ℕ
width range = distance range.left range.right + 1

-- there is a bit of this index
abbrev pub is_within : Range → ℕ → Bool
is_within range i = (nat_le range.left i && nat_le i range.right) || (nat_le range.right i && nat_le i range.left)

-- the place of the bit of an index, from the left
abbrev pub place_of_bit : Range → ℕ → ℕ
place_of_bit range i = distance range.left i

-- the index of the bit at a place, from the left
abbrev pub index_at : Range → ℕ → ℕ
index_at range place = if nat_le range.left range.right then range.left + place else range.left - place

-- the indexes from a place on, so many
abbrev pub indexes_from : Range → ℕ → ℕ → List ℕ
indexes_from range place zero = []
indexes_from range place (suc count) = index_at range place ∷ indexes_from range (suc place) count

-- the indexes of all bits, from the left
abbrev pub indexes : Range → List ℕ
indexes range = indexes_from range 0 (width range)

-- What may have a range: without one it is a scalar, of one bit.

abbrev pub width_of : Option Range → ℕ
width_of range = option_map_or width range 1

-- it is a vector that has a bit of this index
abbrev pub has_bit : Option Range → ℕ → Bool
has_bit range i = option_map_or (λ r. is_within r i) range false
