-- What is noted once the nets of a moment are done.
use Rattle.std.proofs.Common.{◌≡◌, ℕ, suc, ◌<◌, ◌≤◌, ◌∙◌, ap, sym, refl, Bool, true, false, not, cond, List, [], arith, nat_eq, ◌&&◌, ◌||◌, ◌==◌}
use Rattle.std.proofs.lemmas.Bool.Decides.{nat_tests}
use Rattle.std.proofs.lemmas.Bool.{not-true, or_right, and_from, eqb-true, and_parts}
use Rattle.gatestep.specs.Step.{State, Evaluation}
use Rattle.event_queue.specs.kept.Noted.{IsTaken, noted}
use Rattle.design.specs.Connections.{Connection, to_net, to_constant}
use Rattle.design.specs.Netlist.{Netlist}
use Rattle.scratch.specs.kept.Places.{IsNotedWithin, Keeps, has}
use Rattle.scratch.specs.Run.{state_before}
use Rattle.scratch.proofs.Among.{nat_apart}
use Rattle.scratch.proofs.Notes.{none_early}
use Rattle.scratch.proofs.Driven.{either}
use Rattle.rundiff.specs.kept.Noting.{IsNoted, input_moves, is_at_live, net_moves, old_moves, pends}
use Rattle.rundiff.specs.kept.Places.{gate_at, is_live}
use Rattle.rundiff.proofs.Alike.{both_more, off_shrinks}
use Rattle.rundiff.proofs.Noted.{not_first}
use Rattle.rundiff.proofs.Lists.{any_so}

abbrev Queue : Type 0
Queue = List (ℕ × List ℕ)

after_this : (t u : ℕ) → nat_eq t u ≡ false → t ≤ u → suc t ≤ u
after_this t u apart low = grind (arith, nat_tests)

module _ (t : ℕ) (old new : Queue) (taken : IsTaken t old new) where
  -- what is noted for later moments stays
  later_same : (u : ℕ) → t < u → noted new u ≡ noted old u
  later_same u low = taken u ∙ ap (λ (b : Bool). cond b [] (noted old u)) (nat_apart t u low)

  -- what is noted for a moment from t on is noted still, or it was noted for t
  later_within : (after : ℕ → List ℕ) → Keeps (noted new) after → (k u : ℕ) → (has k (noted old t) ≡ true → IsNotedWithin after k (suc t) u) → IsNotedWithin (noted old) k t u → IsNotedWithin after k (suc t) u
  later_within after stay k u here at = by (nat_eq t at.0) refl
    where
      by : (b : Bool) → nat_eq t at.0 ≡ b → IsNotedWithin after k (suc t) u
      by true same = here (ap (λ (v : ℕ). has k (noted old v)) (eqb-true t at.0 same) ∙ at.3)
      by false apart =
          let from : t ≤ at.0 = at.1 in
          let later : suc t ≤ at.0 = after_this t at.0 apart from in
          let low : t < at.0 = omega arith in
          (at.0, later, at.2, stay k at.0 (ap (has k) (later_same at.0 low) ∙ at.3))

module _ (answer : Evaluation → ℕ → State) (old new : Netlist) (live later held passed : ℕ → Bool) (t : ℕ) (grows : (p : ℕ) → live p ≡ true → later p ≡ true)
    (held_before : (q : ℕ) → passed q ≡ true → held q ≡ true)
    (events events_now inputs inputs_now nets nets_left nets_now : Queue)
    (awaits : IsNoted answer old new live held held t (noted events) (noted inputs) (noted nets) t)
    (events_taken : IsTaken t events events_now) (inputs_taken : IsTaken t inputs inputs_now) (nets_taken : IsTaken t nets nets_left)
    (not_noted : (q : ℕ) → passed q ≡ true → has q (noted inputs t) ≡ true → false ≡ true)
    (kept : Keeps (noted nets_left) (noted nets_now)) (early : (u : ℕ) → u ≤ t → noted nets_now u ≡ noted nets_left u)
    (next : (p u : ℕ) → later p ≡ true → (live p ≡ true → has p (noted nets t) ≡ true) → t < u → net_moves answer old new p u ≡ true → IsNotedWithin (noted nets_now) p (suc t) u) where
  -- where more nets are live, fewer inputs are at no live net
  fewer_moves : (c : Connection) (u : ℕ) → (not (is_at_live new later c) && old_moves answer old new c u) ≡ true → (not (is_at_live new live c) && old_moves answer old new c u) ≡ true
  fewer_moves (to_constant v) u moves = moves
  fewer_moves (to_net name) u moves =
      both_more (not (is_live new later name)) (not (is_live new live name)) (old_moves answer old new (to_net name) u)
      (λ off. ap not (off_shrinks new live later grows name (not-true (is_live new later name) off))) moves

  nets_noted : (p u : ℕ) → suc t ≤ u → later p ≡ true → net_moves answer old new p u ≡ true → IsNotedWithin (noted nets_now) p (suc t) u
  nets_noted p u from on moves =
      either (live p)
      (λ lives.
      later_within t nets nets_left nets_taken (noted nets_now) kept p u (λ here. next p u on (λ again. here) (omega arith) moves)
      (awaits.nets p u (omega arith) (and_from (live p) (u == 0 || net_moves answer old new p u) lives (or_right (u == 0) (net_moves answer old new p u) moves))))
      (λ free. next p u on (λ lives. let no : false ≡ true = sym free ∙ lives in absurd (cc)) (omega arith) moves)

  inputs_noted : (q u : ℕ) → suc t ≤ u → passed q ≡ true → input_moves answer old new later q u ≡ true → IsNotedWithin (noted inputs_now) q (suc t) u
  inputs_noted q u from on moves =
      let before = any_so (λ c. not (is_at_live new later c) && old_moves answer old new c u) (λ c. not (is_at_live new live c) && old_moves answer old new c u) (λ c. fewer_moves c u) (gate_at new q).inputs moves in
      later_within t inputs inputs_now inputs_taken (noted inputs_now) (λ k v at. at) q u (λ here. let no : false ≡ true = not_noted q on here in absurd (cc))
      (awaits.inputs q u (omega arith) (and_from (held q) (u == 0 || input_moves answer old new live q u) (held_before q on) (or_right (u == 0) (input_moves answer old new live q u) before)))

  -- what is noted then
  pub noted_now : IsNoted answer old new later passed passed t (noted events_now) (noted inputs_now) (noted nets_now) (suc t)
  noted_now =
      record {
        events = λ k u from wants.
            ap (has k) (later_same t events events_now events_taken u (omega arith))
            ∙ awaits.events k u (omega arith) (both_more (passed k) (held k) (pends (state_before answer new t (gate_at new k)) u) (held_before k) wants);
        inputs = λ k u from wants.
            let parts = and_parts (passed k) (u == 0 || input_moves answer old new later k u) wants in
            inputs_noted k u from parts.0 (not_first t u (input_moves answer old new later k u) from parts.1);
        nets = λ k u from wants.
            let parts = and_parts (later k) (u == 0 || net_moves answer old new k u) wants in
            nets_noted k u from parts.0 (not_first t u (net_moves answer old new k u) from parts.1);
        no_early_event = λ u low. none_early t events events_now events_taken awaits.no_early_event u (omega arith);
        no_early_input = λ u low. none_early t inputs inputs_now inputs_taken awaits.no_early_input u (omega arith);
        no_early_net = λ u low. early u (omega arith) ∙ none_early t nets nets_left nets_taken awaits.no_early_net u (omega arith);
      }
