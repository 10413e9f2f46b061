-- Nets as gates with a due event drive them.
use Rattle.std.proofs.Common.{◌≡◌, ◌∙◌, sym, ap, refl, Bool, true, false, ℕ, List, [], ◌∷◌, ◌++◌, Some, slice_get, nat_eq}
use Rattle.std.specs.Prelude.{◌||◌, ◌&&◌}
use Rattle.std.specs.Option.{option_map_or}
use Rattle.std.proofs.lemmas.Bool.{eqb-true}
use Rattle.std.proofs.Math.Bool.{or-true, or-false}
use Rattle.scratch.specs.kept.Kept.{output_at}
use Rattle.scratch.specs.kept.Places.{has}
use Rattle.scratch.proofs.Among.{has_more, nat_itself}

-- the net that is listed as a gate's is its output
pub is_output : (outputs : List ℕ) (gate net m : ℕ) → slice_get outputs gate ≡ Some net → has m (output_at outputs gate) ≡ true → m ≡ net
is_output outputs gate net m at on =
    eqb-true m net (sym (or-false (nat_eq m net)) ∙ ap (λ o. has m (option_map_or (λ (k : ℕ). k ∷ []) o [])) (sym at) ∙ on)

-- it is not missing where it was added
pub added : (xs : List ℕ) (net m : ℕ) → m ≡ net → has m (xs ++ net ∷ []) ≡ true
added xs net m same = has_more m net xs ∙ ap (λ (b : Bool). has m xs || b) (ap (λ z. nat_eq z net) same ∙ nat_itself net) ∙ or-true (has m xs)

-- tests of one gate more, which is due or not
pub due_too : (a b c : Bool) → (b ≡ true → c ≡ true) → ((a && c) || b) ≡ ((a || b) && c)
due_too true b true h = refl
due_too true true false h = let never = h refl in cc
due_too true false false h = refl
due_too false true true h = refl
due_too false true false h = let never = h refl in cc
due_too false false true h = refl
due_too false false false h = refl

pub not_due : (a b c : Bool) → (b ≡ true → c ≡ false) → (a && c) ≡ ((a || b) && c)
not_due true b c h = refl
not_due false true true h = let never = h refl in cc
not_due false true false h = refl
not_due false false c h = refl

pub or_moved : (a b c : Bool) → ((a || b) || c) ≡ ((a || c) || b)
or_moved true b c = refl
or_moved false true true = refl
or_moved false true false = refl
or_moved false false true = refl
or_moved false false false = refl

-- what is so of one of two, and not of the second one
pub earlier : (a b : Bool) → (a || b) ≡ true → b ≡ false → a ≡ true
earlier true b h off = refl
earlier false b h off = let never : false ≡ true = sym off ∙ h in cc

-- a test holds or fails
pub either : {P : Type 0} → (b : Bool) → (b ≡ true → P) → (b ≡ false → P) → P
either true on off = on refl
either false on off = off refl
