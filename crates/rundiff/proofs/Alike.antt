-- Names that are live, where more places are.
use Rattle.std.proofs.Common.{◌≡◌, ℕ, Bool, true, false, List, inl, inr, refl, ◌||◌, ◌&&◌}
use Rattle.std.proofs.lemmas.Bool.{or_left}
use Rattle.gatestep.specs.Step.{State, Evaluation}
use Rattle.design.specs.Netlist.{Netlist}
use Rattle.rundiff.specs.kept.Fronts.{IsAlike}
use Rattle.rundiff.specs.kept.Places.{gate_at, is_live}
use Rattle.rundiff.proofs.Among.{live_both}
use Rattle.rundiff.proofs.Lists.{not_so}

pub live_grows : (d : Netlist) (f g : ℕ → Bool) → ((p : ℕ) → f p ≡ true → g p ≡ true) → (name : List ℕ) → is_live d f name ≡ true → is_live d g name ≡ true
live_grows d f g more name on = live_both d f f g (λ p on again. more p on) name on on

pub off_shrinks : (d : Netlist) (f g : ℕ → Bool) → ((p : ℕ) → f p ≡ true → g p ≡ true) → (name : List ℕ) → is_live d g name ≡ false → is_live d f name ≡ false
off_shrinks d f g more name off = not_so (is_live d f name) (is_live d g name) (live_grows d f g more name) off

pub alike_grows : (answer : Evaluation → ℕ → State) (old new : Netlist) (f g : ℕ → Bool) (t p : ℕ) → ((p : ℕ) → f p ≡ true → g p ≡ true) → IsAlike answer old new f t p → IsAlike answer old new g t p
alike_grows answer old new f g t p more (inl same) = inl same
alike_grows answer old new f g t p more (inr readers) = inr (λ q low reading. live_grows new f g more (gate_at new q).output (readers q low reading))

-- one of two tests passes still where the first one passes more
pub either_more : (a b c : Bool) → (a ≡ true → b ≡ true) → (a || c) ≡ true → (b || c) ≡ true
either_more true b c more on = or_left b c (more refl)
either_more false true c more on = refl
either_more false false c more on = on

-- both pass still
pub both_more : (a b c : Bool) → (a ≡ true → b ≡ true) → (a && c) ≡ true → (b && c) ≡ true
both_more true b c more on = rw (more refl) on
both_more false b c more on = absurd (cc)
