-- Terminals of edits whose nets are there.
use Rattle.std.proofs.Common.{◌≡◌, ℕ, zero, suc, ◌<◌, ◌&&◌, List, [], ◌∷◌, length, get_or, Bool, true, false, refl, ap, ◌∙◌, arith}
use Rattle.std.specs.List.{list_all}
use Rattle.design.specs.Netlist.{Netlist}
use Rattle.edits.specs.declared.pin.Pin.{Pin}
use Rattle.edits.specs.Checks.{is_known}

and_true : (a b : Bool) → (a && b) ≡ true → (a ≡ true) × (b ≡ true)
and_true true b e = (refl, e)
and_true false b e = cc

all_passes : {X : Type 0} (p : X → Bool) (xs : List X) (i : ℕ) (d : X) → list_all p xs ≡ true → i < length xs → p (get_or xs i d) ≡ true
all_passes p [] i d all within = absurd (omega arith)
all_passes p (x ∷ xs) zero d all within = (and_true (p x) (list_all p xs) all).0
all_passes p (x ∷ xs) (suc i) d all within = all_passes p xs i d (and_true (p x) (list_all p xs) all).1 (omega arith)

pub known_at : (d : Netlist) (inputs : List Pin) (i : ℕ) (pin : Pin) → i < length inputs → pin ≡ get_or inputs i pin → list_all (is_known d) inputs ≡ true → is_known d pin ≡ true
known_at d inputs i pin within is known = ap (is_known d) is ∙ all_passes (is_known d) inputs i pin known within
