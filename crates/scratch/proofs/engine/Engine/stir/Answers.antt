use Rattle.std.proofs.Common.{◌≡◌, ◌∙◌, ◌++◌, ap, sym, subst, refl, length, take, drop, Bool, false, ℕ, arith}
use Rattle.std.specs.Prelude.{◌-◌, nat_eq, not, ◌&&◌, ◌||◌}
use Rattle.std.specs.List.{filter, list_any}
use Rattle.std.proofs.lemmas.Grind.{common_steps}
use Rattle.std.proofs.lemmas.List.{take_rest}
use Rattle.std.proofs.lemmas.List.Folds.{list_any-append}
use Rattle.std.proofs.Math.Seq.{drop-append_seam}
use Rattle.std.proofs.Math.Bool.{or_assoc}
use Rattle.std.proofs.lemmas.Map.Keys.{any_passes_from_place}
use Rattle.std.proofs.lemmas.Bool.{and_parts}
use Rattle.event_queue.specs.kept.Noted.{noted}
use Rattle.design.specs.Keys.{netlist}
use Rattle.scratch.specs.kept.Kept.{currents_of, output_at, places_at}
use Rattle.scratch.specs.kept.Places.{has, is_due_at, passing, pends_at}
use Rattle.scratch.specs.kept.Tallies.{Counts}
use Rattle.scratch.specs.Work.{is_stirred}
use Rattle.scratch.proofs.Among.{any_from, has_filter, nat_itself}
use Rattle.scratch.proofs.Driven.{either}
use Rattle.scratch.proofs.Notes.{later_covered, none_early}
use Rattle.scratch.proofs.Runs.{ready_all}
use Rattle.scratch.proofs.Stirred.{due_is, looked, others}
use Rattle.scratch.proofs.engine.Engine.stir.Goals as goal

pub follow-requires-clause-others : goal.follow-requires-clause-others
follow-requires-clause-others g c =
    let law = g.met.S.Stepper in let answer = g.S.Stepper.answer in let d = netlist c.args.design.now in let stands = c.requires.stands in let t = c.args.t in
    let states = c.args.self.now.states.items in let here = noted c.args.self.now.events t in
    let ready = ready_all answer d law.answer_pending c.lawful.ensures.design.gates t states stands.states in
    let due = due_is answer d t stands.begun states stands.states (noted c.args.self.now.events) ready stands.events (filter (λ k. is_due_at states k t) here) refl in
    let listed : c.as_slice-4.result.now ≡ here = c.as_slice-4.ensures.value ∙ c.in_ok-take.ensures.taken ∙ ap (λ l. l ++ here) c.clear.ensures.items in
    λ k off.
    ap (λ ss. is_due_at ss k t) c.as_slice-3.ensures.value ∙ sym (due k) ∙ has_filter (λ k. is_due_at states k t) k here
    ∙ ap (λ (b : Bool). b && is_due_at states k t) (ap (has k) (sym listed) ∙ off)

pub resolve_nets-requires-clause-others : goal.resolve_nets-requires-clause-others
resolve_nets-requires-clause-others g c =
    let law = g.met.S.Stepper in let answer = g.S.Stepper.answer in let d = netlist c.args.design.now in let stands = c.requires.stands in let t = c.args.t in
    let states = c.args.self.now.states.items in let here = noted c.args.self.now.events t in let outputs = c.args.wiring.now.outputs.items in
    let ready = ready_all answer d law.answer_pending c.lawful.ensures.design.gates t states stands.states in
    let due_gates = filter (λ k. is_due_at states k t) here in
    let due = due_is answer d t stands.begun states stands.states (noted c.args.self.now.events) ready stands.events due_gates refl in
    let listed : c.as_slice-2.result.now ≡ here = c.as_slice-2.ensures.value ∙ c.in_ok-take.ensures.taken ∙ ap (λ l. l ++ here) c.clear.ensures.items in
    λ m off unlisted.
    let apart : has m c.drive_each.new.nets.items ≡ false = sym (c.put_in_order.ensures m) ∙ ap (has m) (sym c.as_slice-6.ensures.value) ∙ off in
    let undriven : has m (noted c.args.self.now.points t) ≡ false = ap (has m) (sym c.in_ok-find_points.ensures.nets) ∙ c.in_ok-drive_each.ensures.kept m apart in
    either (list_any (λ k. has m (output_at outputs k)) due_gates)
    (λ some.
    let f = any_from (λ k. has m (output_at outputs k)) due_gates some in let k = f.1 in
    let both = sym (has_filter (λ k. is_due_at states k t) k here) ∙ any_passes_from_place (nat_eq k) due_gates f.0 k f.2 (nat_itself k) in
    c.in_ok-drive_each.ensures.driven k m (ap (has k) listed ∙ (and_parts (has k here) (is_due_at states k t) both).0)
    (ap (λ ss. is_due_at ss k t) c.as_slice.ensures.value ∙ (and_parts (has k here) (is_due_at states k t) both).1) f.3 apart unlisted)
    (others answer d t stands.begun states stands.states law.answer_current (noted c.args.self.now.points) stands.points (λ k m. has m (output_at outputs k)) c.requires.wired.outputs due_gates due m undriven)

pub returns : goal.returns
returns g c =
    let law = g.met.S.Stepper in let answer = g.S.Stepper.answer in let d = netlist c.args.design.now in let stands = c.requires.stands in let t = c.args.t in
    let states = c.args.self.now.states.items in let here = noted c.args.self.now.events t in let readers = c.args.wiring.now.readers.items in
    let ready = ready_all answer d law.answer_pending c.lawful.ensures.design.gates t states stands.states in
    let due_gates = filter (λ k. is_due_at states k t) here in
    let due = due_is answer d t stands.begun states stands.states (noted c.args.self.now.events) ready stands.events due_gates refl in
    let listed : c.as_slice-2.result.now ≡ here = c.as_slice-2.ensures.value ∙ c.in_ok-take.ensures.taken ∙ ap (λ l. l ++ here) c.clear.ensures.items in
    let known = c.drive_each.new.changed.items in let grows = c.in_ok-resolve_nets.ensures.grows in
    let many : c.len-driven.result ≡ length known = let len = c.len-driven.ensures in grind (arith, common_steps) in
    let all = c.as_slice-7.result.now in
    let rest : take (length all - c.len-driven.result) (drop c.len-driven.result all) ≡ grows.0 =
    take_rest all c.len-driven.result ∙ ap (λ n. drop n all) many ∙ ap (drop (length known)) (c.as_slice-7.ensures.value ∙ grows.1) ∙ drop-append_seam known grows.0 in
    let stirred : (k : ℕ) → has k c.insert_all_readers.new.gates ≡ has k (passing (λ gate. is_stirred answer d gate t) 0 d.gates) =
    looked answer d t stands.begun states stands.states c.lawful.ensures.design.distinct_nets (λ m. places_at readers m) c.requires.wired.readers
    c.resolve_nets.new.changed.items c.in_ok-resolve_nets.ensures.changed due_gates c.insert_all_readers.new.gates due
    (λ k.
    let read : ℕ → Bool = λ m. has k (places_at readers m) in
    let found : has k c.drive_each.new.gates ≡ (has k due_gates || list_any read known) =
    c.in_ok-drive_each.ensures.gates k
    ∙ ap (λ (b : Bool). b || list_any read known)
    (ap (λ l. has k l && is_due_at c.as_slice.result.now k t) listed ∙ ap (λ ss. has k here && is_due_at ss k t) c.as_slice.ensures.value ∙ sym (has_filter (λ k. is_due_at states k t) k here)) in
    c.in_ok-insert_all_readers.ensures k ∙ ap (λ l. has k c.drive_each.new.gates || list_any read l) rest ∙ ap (λ (b : Bool). b || list_any read grows.0) found
    ∙ or_assoc (has k due_gates) (list_any read known) (list_any read grows.0)
    ∙ ap (λ (b : Bool). has k due_gates || b) (sym (list_any-append read known grows.0) ∙ ap (list_any read) (sym grows.1))) in
    record {
      begun = stands.begun;
      states = stands.states;
      ready = ready;
      values = c.in_ok-resolve_nets.ensures.values;
      waves = c.in_ok-resolve_nets.ensures.waves;
      traces = stands.traces;
      gates = stirred;
      events = λ k u from h.
          later_covered (pends_at states) t c.args.self.now.events c.take.new.self c.in_ok-take.ensures.rest stands.events k u from
          ((and_parts (not (has k c.insert_all_readers.new.gates)) (pends_at states k u) h).1);
      points = c.in_ok-find_points.ensures.announces;
      no_early_event = none_early t c.args.self.now.events c.take.new.self c.in_ok-take.ensures.rest stands.no_early_event;
      no_early_point = c.in_ok-find_points.ensures.early;
      counts = subst (λ ss. Counts d c.resolve_nets.new.tallies (currents_of ss t)) c.as_slice-5.ensures.value c.in_ok-resolve_nets.ensures.counts;
    }
