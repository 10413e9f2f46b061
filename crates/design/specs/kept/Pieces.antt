-- Stimulus points in pieces that copies share.
use Rattle.std.specs.Prelude.{◌≡◌, Bool, true, false, ℕ, zero, suc, ◌<◌, nat_le, List, [], ◌∷◌, length, All, Option, None, slice_get}
use Rattle.std.specs.Global.{Global}
use Rattle.std.specs.Arc.{arc_value}
use Rattle.std.specs.List.{flat_map, slice_index_or}
use Rattle.std.specs.Option.{option_map_or}
use Rattle.std.specs.declared.vec.Vec.{Vec}
use Rattle.std.specs.declared.sync.Arc.{Arc}
use Rattle.fourstate.specs.declared.value.Value.{Value}

-- the points of a piece
abbrev pub points_in : Arc (Vec (ℕ × Value) Global) Global → List (ℕ × Value)
points_in piece = (arc_value piece).items

-- the points of all pieces
abbrev pub points_of : List (Arc (Vec (ℕ × Value) Global) Global) → List (ℕ × Value)
points_of pieces = flat_map points_in pieces

-- each piece has a point
abbrev pub AreFilled : {C X : Type 0} → (C → List X) → List C → Type 0
AreFilled items [] = Unit {0}
AreFilled items (c ∷ cs) = (0 < length (items c)) × AreFilled items cs

-- the first point of a piece, if there is a piece
abbrev pub first_in : {C : Type 0} → (C → List (ℕ × Value)) → Option C → Option (ℕ × Value)
first_in items piece = option_map_or (λ c. slice_get (items c) 0) piece None

-- the first point is at or before t
abbrev pub begins_by : ℕ → List (ℕ × Value) → Bool
begins_by t [] = false
begins_by t (p ∷ ps) = nat_le p.0 t

-- the piece of this index begins at or before t, unless it is the first one
abbrev pub HasBegun : {C : Type 0} → (C → List (ℕ × Value)) → ℕ → List C → ℕ → Type 0
HasBegun {C} items t cs home = (d : C) → 0 < home → begins_by t (items (slice_index_or cs home d)) ≡ true

-- the piece of this index has more points than so many
abbrev pub IsLonger : {C X : Type 0} → (C → List X) → ℕ → List C → ℕ → Type 0
IsLonger {C} items n cs at = (d : C) → n < length (items (slice_index_or cs at d))

-- the piece of this index is where a point at t is or belongs: points of the pieces before are before t, those of the
-- pieces behind are after t
abbrev pub IsHome : {C : Type 0} → (C → List (ℕ × Value)) → ℕ → List C → ℕ → Type 0
IsHome items t [] home = ⊥
IsHome items t (c ∷ cs) zero = All (λ p. t < p.0) (flat_map items cs)
IsHome items t (c ∷ cs) (suc home) = All (λ p. p.0 < t) (items c) × IsHome items t cs home
