-- Slabs of indices, and their clones.
use Rattle.std.proofs.Common.{◌≡◌, ◌⊎◌, ℕ, Option, Some, None, get_or, ap, inl, inr}
use Rattle.std.proofs.lemmas.List.Elements.{same_from_all_zip}
use Rattle.slab.specs.Slab.{Slab, get, IsSlabClone, IsSlotClone}

slot_same : (old new : Option ℕ) → IsSlotClone (λ a b. b ≡ a) old new → new ≡ old
slot_same None new h = h
slot_same (Some index) None h = absurd h
slot_same (Some index) (Some copy) h = ap Some h

-- a slab, and a clone of it, have the same index for each key
pub same_slab : (old new : Slab ℕ) → (new ≡ old) ⊎ IsSlabClone (λ a b. b ≡ a) old new → (key : ℕ) → get new key ≡ get old key
same_slab old new h key = elim h [
  | inl same ↦ ap (λ s. get s key) same
  | inr clone ↦ ap (λ slots. get_or slots key None) (same_from_all_zip _ _ _ clone.slots slot_same)
]
