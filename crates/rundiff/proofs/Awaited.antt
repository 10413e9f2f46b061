-- What is noted once the gates of a moment are looked at, and once their answers are taken.
use Rattle.std.proofs.Common.{◌≡◌, ℕ, suc, ◌<◌, ◌≤◌, ◌∙◌, ap, List, Bool, true, false, not, arith, ◌&&◌, ◌||◌, ◌==◌}
use Rattle.std.proofs.lemmas.Bool.{and_from, and_parts}
use Rattle.gatestep.specs.Step.{State, Evaluation}
use Rattle.design.specs.Netlist.{Netlist}
use Rattle.scratch.specs.kept.Places.{Announces, Covers, IsNotedWithin, Keeps, has}
use Rattle.scratch.specs.Run.{state_after, state_before}
use Rattle.scratch.proofs.Notes.{within_on}
use Rattle.scratch.proofs.Driven.{either}
use Rattle.rundiff.specs.kept.Fronts.{is_working}
use Rattle.rundiff.specs.kept.Noting.{IsNoted, input_moves, net_moves, pends, wants_event, wants_gate}
use Rattle.rundiff.specs.kept.Places.{gate_at, is_among}
use Rattle.rundiff.proofs.Resting.{rests_on}
use Rattle.rundiff.proofs.Noted.{not_first}

-- before moment 0, where each live net and each held gate is noted for it
pub opened_noted : (answer : Evaluation → ℕ → State) (old new : Netlist) (live held : ℕ → Bool) (events inputs nets : ℕ → List ℕ) →
    ((p : ℕ) → held p ≡ true → has p (inputs 0) ≡ true) → ((p : ℕ) → live p ≡ true → has p (nets 0) ≡ true) → IsNoted answer old new live held held 0 events inputs nets 0
opened_noted answer old new live held events inputs nets of_gates of_nets =
    record {
      events = λ p u late h. let none = (and_parts (held p) false h).1 in absurd (cc);
      inputs = λ p u late h. (0, omega arith, omega arith, of_gates p (and_parts (held p) (u == 0 || input_moves answer old new live p u) h).0);
      nets = λ p u late h. (0, omega arith, omega arith, of_nets p (and_parts (live p) (u == 0 || net_moves answer old new p u) h).0);
      no_early_event = λ u low. absurd (omega arith);
      no_early_input = λ u low. absurd (omega arith);
      no_early_net = λ u low. absurd (omega arith);
    }

module _ (answer : Evaluation → ℕ → State) (old new : Netlist) (t : ℕ) (live held : ℕ → Bool) (events inputs nets after : ℕ → List ℕ)
    (keeps : Keeps events after) (early : (u : ℕ) → u ≤ t → after u ≡ events u) where
  module _ (chosen resting : List ℕ) (later : ℕ → List ℕ)
      (are : (p : ℕ) → is_among resting p ≡ (is_among chosen p && not (is_working answer old new t p)))
      (stays : (p : ℕ) → held p ≡ true → is_among chosen p ≡ false → state_before answer new t (gate_at new p) ≡ state_after answer new (gate_at new p) t)
      (before : IsNoted answer old new live (λ p. held p && not (is_among chosen p)) (λ p. held p && not (is_among chosen p)) t events inputs nets (suc t))
      (those : (p u : ℕ) → is_among resting p ≡ true → pends (state_after answer new (gate_at new p) t) u ≡ true → has p (after u) ≡ true)
      (kept : Keeps inputs later) (early_too : (u : ℕ) → u ≤ t → later u ≡ inputs u)
      (next : (p u : ℕ) → is_among chosen p ≡ true → t < u → input_moves answer old new live p u ≡ true → IsNotedWithin later p (suc t) u) where
    looked_events : Covers (wants_event answer old new (λ p. held p && not (is_working answer old new t p)) (suc t)) after (suc t)
    looked_events p u late h =
        let working = is_working answer old new t p in
        let parts = and_parts (held p && not working) (pends (state_after answer new (gate_at new p) t) u) h in
        let rest = and_parts (held p) (not working) parts.0 in
        either (is_among chosen p)
        (λ among. those p u (are p ∙ and_from (is_among chosen p) (not working) among rest.1) parts.1)
        (λ off.
        let was : pends (state_before answer new t (gate_at new p)) u ≡ true = ap (λ (s : State). pends s u) (stays p rest.0 off) ∙ parts.1 in
        keeps p u (before.events p u late (and_from (held p && not (is_among chosen p)) (pends (state_before answer new t (gate_at new p)) u) (rests_on (held p) (is_among chosen p) rest.0 off) was)))

    looked_inputs : Announces (wants_gate answer old new live held) later (suc t)
    looked_inputs p u late h =
        let moves = input_moves answer old new live p u in
        let parts = and_parts (held p) (u == 0 || moves) h in
        either (is_among chosen p)
        (λ among. next p u among late (not_first t u moves late parts.1))
        (λ off.
        within_on inputs later p (suc t) u kept
        (before.inputs p u late (and_from (held p && not (is_among chosen p)) (u == 0 || moves) (rests_on (held p) (is_among chosen p) parts.0 off) parts.1)))

    -- once the gates are looked at that are chosen
    pub looked_noted : IsNoted answer old new live (λ p. held p && not (is_working answer old new t p)) held (suc t) after later nets (suc t)
    looked_noted =
        record {
          events = looked_events;
          inputs = looked_inputs;
          nets = before.nets;
          no_early_event = λ u low. early u (omega arith) ∙ before.no_early_event u low;
          no_early_input = λ u low. early_too u (omega arith) ∙ before.no_early_input u low;
          no_early_net = before.no_early_net;
        }

  module _ (working : List ℕ) (are : (p : ℕ) → is_among working p ≡ (held p && is_working answer old new t p))
      (before : IsNoted answer old new live (λ p. held p && not (is_working answer old new t p)) held (suc t) events inputs nets (suc t))
      (those : (p u : ℕ) → is_among working p ≡ true → pends (state_after answer new (gate_at new p) t) u ≡ true → has p (after u) ≡ true) where
    settled_events : Covers (wants_event answer old new held (suc t)) after (suc t)
    settled_events p u late h =
        let test = is_working answer old new t p in
        let pending = pends (state_after answer new (gate_at new p) t) u in
        let parts = and_parts (held p) pending h in
        either test
        (λ on. those p u (are p ∙ and_from (held p) test parts.0 on) parts.1)
        (λ off. keeps p u (before.events p u late (and_from (held p && not test) pending (rests_on (held p) test parts.0 off) parts.1)))

    -- once the answers are taken
    pub settled_noted : IsNoted answer old new live held held (suc t) after inputs nets (suc t)
    settled_noted =
        record {
          events = settled_events;
          inputs = before.inputs;
          nets = before.nets;
          no_early_event = λ u low. early u (omega arith) ∙ before.no_early_event u low;
          no_early_input = before.no_early_input;
          no_early_net = before.no_early_net;
        }
