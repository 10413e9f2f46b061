-- Two waves of one net, by two answers.
use Rattle.std.proofs.Common.{◌≡◌, ◌∙◌, ℕ, Bool, true, false, not, List, Some, option_map, slice_get, ap, subst, sym, refl}
use Rattle.std.specs.Bool.{Decides}
use Rattle.std.specs.Cmp.Lexicographic.{pointwise}
use Rattle.std.proofs.lemmas.Slice.Eq.{slice_eq-Decides}
use Rattle.gatestep.specs.Step.{Evaluation, State, advance}
use Rattle.fourstate.specs.declared.value.Value.{Value}
use Rattle.design.specs.Netlist.{Netlist}
use Rattle.scratch.specs.Run.{wave_of}

some_is : {A : Type 0} (x y : A) → Some x ≡ Some y → x ≡ y
some_is x y e = cc

moved : (d e : Netlist) (place : ℕ) (a : List (ℕ × Value)) → d ≡ e → option_map (wave_of advance e) (slice_get e.nets place) ≡ Some a
    → option_map (wave_of advance d) (slice_get d.nets place) ≡ Some a
moved d e place a design here = subst (λ (n : Netlist). option_map (wave_of advance n) (slice_get n.nets place) ≡ Some a) (sym design) here

pub same_wave : (d e : Netlist) (answer : Evaluation → ℕ → State) (place : ℕ) (a b : List (ℕ × Value)) → d ≡ e
    → option_map (wave_of advance e) (slice_get e.nets place) ≡ Some a → option_map (wave_of answer d) (slice_get d.nets place) ≡ Some b → a ≡ b
    → option_map (wave_of advance d) (slice_get d.nets place) ≡ option_map (wave_of answer d) (slice_get d.nets place)
same_wave d e answer place a b design here there same = moved d e place a design here ∙ (ap (λ w. Some w) same ∙ sym there)

pub other_wave : (d e : Netlist) (answer : Evaluation → ℕ → State) (place : ℕ) (a b : List (ℕ × Value)) → d ≡ e
    → option_map (wave_of advance e) (slice_get e.nets place) ≡ Some a → option_map (wave_of answer d) (slice_get d.nets place) ≡ Some b → ¬ (a ≡ b)
    → ¬ (option_map (wave_of advance d) (slice_get d.nets place) ≡ option_map (wave_of answer d) (slice_get d.nets place))
other_wave d e answer place a b design here there other same = other (some_is a b (sym (moved d e place a design here) ∙ (same ∙ there)))

-- what `!=` says of two lists, where `==` decides whether their elements are equal

not_false : (b : Bool) → not b ≡ false → b ≡ true
not_false true e = refl
not_false false e = cc

not_true : (b : Bool) → not b ≡ true → b ≡ false
not_true true e = cc
not_true false e = refl

pub same_lists : {A : Type 0} {E : A → A → Bool} (xs ys : List A) (r : Bool) → ((a b : A) → Decides (E a b) (a ≡ b)) → r ≡ not (pointwise E xs ys) → r ≡ false → xs ≡ ys
same_lists xs ys r decides is same = (slice_eq-Decides decides xs ys _ refl).0 (not_false _ (sym is ∙ same))

pub other_lists : {A : Type 0} {E : A → A → Bool} (xs ys : List A) (r : Bool) → ((a b : A) → Decides (E a b) (a ≡ b)) → r ≡ not (pointwise E xs ys) → r ≡ true → ¬ (xs ≡ ys)
other_lists xs ys r decides is other same =
    let no = not_true _ (sym is ∙ other) in
    let yes = (slice_eq-Decides decides xs ys _ refl).1 same in
    let bad : false ≡ true = sym no ∙ yes in cc
