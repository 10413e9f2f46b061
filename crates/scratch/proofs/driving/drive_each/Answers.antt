use Rattle.std.proofs.Common.{◌≡◌, ◌+◌, ◌∙◌, sym, ap, refl, ℕ, Bool, List, take, slice_index_or, true, false}
use Rattle.std.specs.Prelude.{nat_eq, ◌||◌, ◌&&◌}
use Rattle.std.specs.List.{list_any}
use Rattle.std.proofs.lemmas.Bool.{eqb-true}
use Rattle.design.specs.Keys.{netlist}
use Rattle.design.specs.kept.Places.{driver_places}
use Rattle.scratch.specs.kept.Kept.{currents_of, output_at, places_at}
use Rattle.scratch.specs.kept.Places.{has, is_due_at}
use Rattle.scratch.proofs.Among.{has_next}
use Rattle.scratch.proofs.Driven.{due_too, earlier, either, not_due, or_moved}
use Rattle.scratch.proofs.NetSteps.{lone_gives, resolved_is}
use Rattle.scratch.proofs.driving.drive_each.Goals as goal
use Rattle.scratch.proofs.driving.drive_each.Goals.{in-Some+in_ok-insert+in_ok-drive_net, in_default}

pub drive_net-requires-clause-gives : goal.drive_net-requires-clause-gives
drive_net-requires-clause-gives g c = λ n alone.
    (let answer = g.S.Stepper.answer in let d = netlist c.args.setting.now.design.now in let t = c.args.setting.now.t in let states = c.args.states.now in
    let gate = slice_index_or c.args.noted.now c.loop-gate.gate-index 0 in
    resolved_is answer d t states n (driver_places d.gates n.name) c.in-Some.value c.requires.states refl (c.in-Some.ensures.some.1 ∙ lone_gives d (currents_of states t) t n gate alone))

pub loop-gate-preserved : goal.loop-gate-preserved
loop-gate-preserved g c =
    let answer = g.S.Stepper.answer in let d = netlist c.args.setting.now.design.now in let t = c.args.setting.now.t in let states = c.args.states.now in
    let noted = c.args.noted.now in let i = c.loop-gate.gate-index in let gate = slice_index_or noted i 0 in let done = take i noted in let so_far = c.loop-gate.invariant in
    let readers = c.args.setting.now.wiring.now.readers.items in let outputs = c.args.setting.now.wiring.now.outputs.items in
    let more : (k : ℕ) → has k (take (i + 1) noted) ≡ (has k done || nat_eq k gate) = λ k. has_next k noted i c.loop-gate-test.true in
    record {
      part = elim c.match-due_value.branch [
        | in-Some+in_ok-insert+in_ok-drive_net w ↦ rw (w.changed-is, w.values-is) w.in_ok-drive_net.ensures.part
        | in_default w ↦ rw (w.changed-is, w.values-is) so_far.part
      ];
      gates = λ k. (elim c.match-due_value.branch [
        | in-Some+in_ok-insert+in_ok-drive_net w ↦
            let read : List ℕ → Bool = λ nets. list_any (λ m. has k (places_at readers m)) nets in
            let due : ℕ → Bool = λ j. (has j done && is_due_at states j t) || nat_eq j gate in
            let middle : (j : ℕ) → has j w.insert.new.self ≡ (due j || list_any (λ m. has j (places_at readers m)) c.loop-gate.changed.items) = λ j. w.in_ok-insert.ensures.ok j ∙ ap (λ (b : Bool). b || nat_eq j gate) (so_far.gates j)
            ∙ or_moved (has j done && is_due_at states j t) (list_any (λ m. has j (places_at readers m)) c.loop-gate.changed.items) (nat_eq j gate) in
            let is_due : nat_eq k gate ≡ true → is_due_at states k t ≡ true = λ e. ap (λ z. is_due_at states z t) (eqb-true k gate e) ∙ w.in-Some.ensures.some.0 in
            rw (w.gates-is, w.changed-is)
            (w.in_ok-drive_net.ensures.gates due middle k
            ∙ ap (λ (b : Bool). b || read w.drive_net.new.changed.items)
            (due_too (has k done) (nat_eq k gate) (is_due_at states k t) is_due ∙ ap (λ (b : Bool). b && is_due_at states k t) (sym (more k))))
        | in_default w ↦
            let read : List ℕ → Bool = λ nets. list_any (λ m. has k (places_at readers m)) nets in
            let none : nat_eq k gate ≡ true → is_due_at states k t ≡ false = λ e. ap (λ z. is_due_at states z t) (eqb-true k gate e) ∙ w.in_default.ensures.none in
            rw (w.gates-is, w.changed-is)
            (so_far.gates k
            ∙ ap (λ (b : Bool). b || read c.loop-gate.changed.items)
            (not_due (has k done) (nat_eq k gate) (is_due_at states k t) none ∙ ap (λ (b : Bool). b && is_due_at states k t) (sym (more k))))
      ]);
      driven = λ k m on due out off listed. (elim c.match-due_value.branch [
        | in-Some+in_ok-insert+in_ok-drive_net w ↦
            let apart = sym (ap (λ v. has m v.items) w.nets-is) ∙ off in let unlisted = sym (ap (λ v. has m v.items) w.changed-is) ∙ listed in
            either (nat_eq k gate) (λ e. w.in_ok-drive_net.ensures.driven m (ap (λ z. has m (output_at outputs z)) (sym (eqb-true k gate e)) ∙ out) apart unlisted)
            (λ e. so_far.driven k m (earlier (has k done) (nat_eq k gate) (sym (more k) ∙ on) e) due out (w.in_ok-drive_net.ensures.kept m apart) (w.in_ok-drive_net.ensures.listed m unlisted))
        | in_default w ↦
            let apart = sym (ap (λ v. has m v.items) w.nets-is) ∙ off in let unlisted = sym (ap (λ v. has m v.items) w.changed-is) ∙ listed in
            either (nat_eq k gate)
            (λ e. absurd (let never : false ≡ true = sym w.in_default.ensures.none ∙ ap (λ z. is_due_at states z t) (sym (eqb-true k gate e)) ∙ due in cc))
            (λ e. so_far.driven k m (earlier (has k done) (nat_eq k gate) (sym (more k) ∙ on) e) due out apart unlisted)
      ]);
      kept = λ m off. (elim c.match-due_value.branch [
        | in-Some+in_ok-insert+in_ok-drive_net w ↦ so_far.kept m (w.in_ok-drive_net.ensures.kept m (sym (ap (λ v. has m v.items) w.nets-is) ∙ off))
        | in_default w ↦ so_far.kept m (sym (ap (λ v. has m v.items) w.nets-is) ∙ off)
      ]);
    }
