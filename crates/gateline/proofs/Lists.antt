-- Lists of values, elements that are looked up, and what holds of a value that is answered.
use Rattle.std.proofs.Common.{◌≡◌, ◌<◌, ◌≤◌, ◌∙◌, ap, sym, refl, Bool, true, false, ltb, ℕ, zero, suc, List, [], ◌∷◌, length, get_or, Some, None, slice_get, arith}
use Rattle.std.specs.Prelude.{◌&&◌, Result, Ok, Err, IfOk, OnErr, OnOk}
use Rattle.std.proofs.lemmas.Bool.{and_parts, ltb-false, ltb-true}
use Rattle.std.proofs.lemmas.Bool.Decides.{nat_tests}
use Rattle.std.proofs.lemmas.Option.{slice_get_past, slice_get_read}
use Rattle.std.proofs.lemmas.Result.{on_err_weaker, on_ok_weaker}
use Rattle.fourstate.specs.Gates.{takes_inputs}
use Rattle.fourstate.specs.Values.{same_value}
use Rattle.fourstate.specs.declared.gate.GateKind.{GateKind}
use Rattle.fourstate.specs.declared.gate.GateKind.TheVariants.{Buf}
use Rattle.fourstate.specs.declared.limits.TheConstants.{MAX_INPUTS}
use Rattle.fourstate.specs.declared.value.Value.{Value}
use Rattle.fourstate.specs.kept.ValueLaws.{is_same, same_self}
use Rattle.scratch.specs.Work.{same_values}

pub same_values_equal : (vs ws : List Value) → same_values vs ws ≡ true → vs ≡ ws
same_values_equal [] [] h = refl
same_values_equal [] (w ∷ ws) h = cc
same_values_equal (v ∷ vs) [] h = cc
same_values_equal (v ∷ vs) (w ∷ ws) h =
    let parts = and_parts (same_value v w) (same_values vs ws) h in
    let one = is_same v w parts.0 in let rest = same_values_equal vs ws parts.1 in cc

pub same_values_itself : (vs : List Value) → same_values vs vs ≡ true
same_values_itself [] = refl
same_values_itself (v ∷ vs) = ap (λ (b : Bool). b && same_values vs vs) (same_self v) ∙ same_values_itself vs

-- an element that is there
pub some_at : {A : Type 0} (xs : List A) (i : ℕ) → i < length xs → (x : A) × (slice_get xs i ≡ Some x)
some_at [] i below = absurd (omega arith)
some_at (x ∷ xs) zero below = (x, refl)
some_at (x ∷ xs) (suc i) below = some_at xs i (omega arith)

-- an element that is looked up, and a place at which there is none
pub found_at : {A : Type 0} (xs : List A) (i : ℕ) (x : A) → true ≡ ltb i (length xs) → x ≡ get_or xs i x → slice_get xs i ≡ Some x
found_at xs i x within = slice_get_read xs (length xs) i x refl (ltb-true i (length xs) (sym within))

pub none_at : {A : Type 0} (xs : List A) (i : ℕ) → false ≡ ltb i (length xs) → slice_get xs i ≡ None
none_at xs i past = slice_get_past xs i (ltb-false i (length xs) (sym past))

-- a gate has few inputs
pub few_inputs : (kind : GateKind) (n : ℕ) → takes_inputs kind n ≡ true → n ≤ MAX_INPUTS
few_inputs Buf n h = grind (arith, nat_tests)
few_inputs kind n h = grind (arith, nat_tests)

-- what follows for a value
pub on_ok : {T E : Type 0} (r : Result T E) {P : Type 0} → P → OnOk r P
on_ok (Ok x) p = p
on_ok (Err e) p = tt

pub if_ok_then : {T E : Type 0} (r : Result T E) {P Q : T → Type 0} → ((x : T) → P x → Q x) → IfOk r P → IfOk r Q
if_ok_then (Ok x) then p = then x p
if_ok_then (Err e) then p = tt

-- what follows from what holds of an error, and of a value
pub on_err_so : {T E P Q : Type 0} (r : Result T E) → OnErr r P → (P → Q) → OnErr r Q
on_err_so r p follows = on_err_weaker r follows p

pub on_ok_so : {T E P Q : Type 0} (r : Result T E) → OnOk r P → (P → Q) → OnOk r Q
on_ok_so r p follows = on_ok_weaker r follows p
