-- Checks, one after another.
use Rattle.std.proofs.Common.{◌≡◌, List, [], ◌∷◌, ◌++◌, Bool, true, false, Some, None, refl, sym, ◌∙◌}
use Rattle.edits.specs.declared.fault.EditFault.{EditFault}
use Rattle.edits.specs.Checks.{first_fault}

pub head_holds : (check : Bool × EditFault) (checks : List (Bool × EditFault)) → check.0 ≡ true → first_fault (check ∷ checks) ≡ Some check.1
head_holds check checks e = rw e refl

pub head_fails : (check : Bool × EditFault) (checks : List (Bool × EditFault)) → check.0 ≡ false → first_fault (check ∷ checks) ≡ first_fault checks
head_fails check checks e = rw e refl

back_by : (check : Bool × EditFault) (xs ys : List (Bool × EditFault)) (b : Bool) → check.0 ≡ b → (None ≡ first_fault xs → first_fault (xs ++ ys) ≡ first_fault ys)
    → None ≡ first_fault (check ∷ xs) → first_fault (check ∷ (xs ++ ys)) ≡ first_fault ys
back_by check xs ys true e rest none = cc (head_holds check xs e)
back_by check xs ys false e rest none = head_fails check (xs ++ ys) e ∙ rest (none ∙ head_fails check xs e)

-- no check of the first ones holds
pub first_of_back : (xs ys : List (Bool × EditFault)) → None ≡ first_fault xs → first_fault (xs ++ ys) ≡ first_fault ys
first_of_back [] ys none = refl
first_of_back (check ∷ xs) ys none = back_by check xs ys check.0 refl (first_of_back xs ys) none

front_by : (check : Bool × EditFault) (xs ys : List (Bool × EditFault)) (fault : EditFault) (b : Bool) → check.0 ≡ b
    → (Some fault ≡ first_fault xs → first_fault (xs ++ ys) ≡ Some fault) → Some fault ≡ first_fault (check ∷ xs) → first_fault (check ∷ (xs ++ ys)) ≡ Some fault
front_by check xs ys fault true e rest some = head_holds check (xs ++ ys) e ∙ sym (some ∙ head_holds check xs e)
front_by check xs ys fault false e rest some = head_fails check (xs ++ ys) e ∙ rest (some ∙ head_fails check xs e)

-- one of the first ones holds
pub first_of_front : (xs ys : List (Bool × EditFault)) (fault : EditFault) → Some fault ≡ first_fault xs → first_fault (xs ++ ys) ≡ Some fault
first_of_front [] ys fault some = cc
first_of_front (check ∷ xs) ys fault some = front_by check xs ys fault check.0 refl (first_of_front xs ys fault) some
