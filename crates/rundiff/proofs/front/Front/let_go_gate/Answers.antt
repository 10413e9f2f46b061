use Rattle.std.proofs.Common.{◌≡◌, ◌∙◌, ◌+◌, ◌≤◌, ap, sym, subst, suc, ℕ, Bool, true, false, cond, Option, ◌⊎◌, arith, ◌==◌, nat_cmp}
use Rattle.std.specs.BTreeSet.{contains}
use Rattle.std.specs.Option.{ForSome}
use Rattle.fourstate.specs.declared.value.Value.{Value}
use Rattle.fourstate.specs.Values.{same_value}
use Rattle.gatestep.specs.Step.{State, due}
use Rattle.event_queue.specs.kept.Noted.{noted}
use Rattle.design.specs.Connections.{to_net}
use Rattle.design.specs.Keys.{netlist}
use Rattle.waveform.specs.Entries.{same_state, standing}
use Rattle.waveform.specs.kept.Patches.{Keeps, PatchRecord}
use Rattle.waveform.specs.kept.Timelines.{end_of}
use Rattle.scratch.specs.Run.{state_after, value}
use Rattle.rundiff.specs.kept.Fronts.{GoesAlong, IsFree, IsOwn, named_state}
use Rattle.rundiff.specs.kept.Kept.{read_at}
use Rattle.rundiff.specs.kept.PlaceMaps.{kept_at}
use Rattle.rundiff.specs.kept.Places.{gate_at, net_at}
use Rattle.rundiff.proofs.Leaving.{left_now, noted_less, stays_off, taken_off}
use Rattle.rundiff.proofs.Sets.{test_is}
use Rattle.rundiff.proofs.Steps.{at_one}
use Rattle.rundiff.proofs.front.Front.let_go_gate.Goals as goal

pub returns-clause-front : goal.returns-clause-front
returns-clause-front g c =
    let answer = g.S.Stepper.answer in
    let old = netlist c.args.former.now.old.now in let new = netlist c.args.former.now.new.now in let t = c.args.t in
    let front = c.args.self.now in
    let right = c.requires.front in
    let is = c.lawful-2.ensures.design in
    let p : ℕ = c.in-Some.net in let q : ℕ = c.args.gate in
    let one : t + 1 ≡ suc t = omega arith in
    let low = c.in-Some.ensures.net in
    let there = c.requires.gate.0 in
    let clean = c.requires.gate.1 in
    let output = c.in-Some.ensures.output in
    let alone = c.in-Some.ensures.alone in
    let live : ℕ → Bool = contains nat_cmp front.live in
    let held : ℕ → Bool = contains nat_cmp front.held in
    let fixed : ℕ → Bool = contains nat_cmp front.fixed in
    let later : ℕ → Bool = contains nat_cmp c.remove.new.self in
    let kept : ℕ → Bool = contains nat_cmp c.remove-2.new.self in
    let gone : (r : ℕ) → later r ≡ cond (r == p) false (live r) = λ r. c.remove.ensures.updates.0 r ∙ ap (λ (b : Bool). cond b false (live r)) (sym (test_is p r)) in
    let freed : (r : ℕ) → kept r ≡ cond (r == q) false (held r) = λ r. c.remove-2.ensures.updates.0 r ∙ ap (λ (b : Bool). cond b false (held r)) (sym (test_is q r)) in
    let unfixed : fixed p ≡ false = sym c.contains.ensures ∙ c.if-contains.false in
    let lives : live p ≡ true = sym c.contains-2.ensures ∙ c.if-not-contains.false in
    let after = left_now answer old new is t p q low there clean output alone live later held kept fixed gone freed lives unfixed front.waves right.live in
    let left = c.in_ok-leave.ensures in
    let quit = c.in_ok-leave-2.ensures in
    let was : ℕ → Option (PatchRecord Value) = kept_at front.waves in
    let now : ℕ → Option (PatchRecord Value) = kept_at c.leave.new.patches in
    let had : ℕ → Option (PatchRecord State) = kept_at front.traces in
    let has_now : ℕ → Option (PatchRecord State) = kept_at c.leave-2.new.patches in
    let f : ℕ → ℕ → Value = λ r. value answer new (net_at new r) in
    let f_old : ℕ → ℕ → Value = λ r. read_at answer old (to_net (net_at new r).name) in
    let s : ℕ → ℕ → State = λ r. state_after answer new (gate_at new r) in
    let s_old : ℕ → ℕ → State = λ r. named_state answer old (gate_at new r).name in
    let Wave : ℕ → Option (PatchRecord Value) → ℕ → Type 0 = λ r o n. Keeps same_value standing (f_old r) (f r) o n in
    let Trace : ℕ → Option (PatchRecord State) → ℕ → Type 0 = λ r o n. Keeps same_state due (s_old r) (s r) o n in
    record {
      live = record {
        drivers = after.drivers;
        base = right.live.base;
        fixed_live = after.fixed_live;
        closed = after.closed;
        agrees = after.agrees;
        waves = λ r within.
            at_one (λ k o. Wave k o (suc t)) was now p r left.others
            (λ same. subst (Wave p (now p)) one (left.made (f p) (f_old p) (subst (Wave p (was p)) (sym one) (right.live.waves p low))))
            (λ apart. right.live.waves r within);
        wave_ends = λ r.
            at_one (λ k o. ForSome o (λ patch. end_of patch.line ≤ suc t)) was now p r left.others
            (λ same. subst (λ (n : ℕ). ForSome (now p) (λ patch. end_of patch.line ≤ n)) one left.end)
            (λ apart. right.live.wave_ends r);
        kept_waves = λ r on.
            at_one (λ k o. GoesAlong o (suc t) ⊎ IsOwn o) was now p r left.others
            (λ same. let no : true ≡ false = sym on ∙ taken_off p live later gone r same in absurd (cc))
            (λ apart. right.live.kept_waves r (after.was_live r on));
        other_waves = λ r off. at_one (λ k o. IsFree o) was now p r left.others (λ same. left.free) (λ apart. right.live.other_waves r (stays_off p live later gone r apart off));
      };
      traces = λ r within.
          at_one (λ k o. Trace k o (suc t)) had has_now q r quit.others
          (λ same. subst (Trace q (has_now q)) one (quit.made (s q) (s_old q) (subst (Trace q (had q)) (sym one) (right.traces q there))))
          (λ apart. right.traces r within);
      trace_ends = λ r.
          at_one (λ k o. ForSome o (λ patch. end_of patch.line ≤ suc t)) had has_now q r quit.others
          (λ same. subst (λ (n : ℕ). ForSome (has_now q) (λ patch. end_of patch.line ≤ n)) one quit.end)
          (λ apart. right.trace_ends r);
      own_traces = λ r on.
          at_one (λ k o. (suc t ≡ 0) ⊎ IsOwn o) had has_now q r quit.others
          (λ same. let no : true ≡ false = sym on ∙ taken_off q held kept freed r same in absurd (cc))
          (λ apart. right.own_traces r (after.was_held r on));
      other_traces = λ r off. at_one (λ k o. IsFree o) had has_now q r quit.others (λ same. quit.free) (λ apart. right.other_traces r (stays_off q held kept freed r apart off));
      awaits =
          noted_less answer old new is t p q low there clean output alone live later held kept fixed gone freed lives unfixed front.waves right.live
          (noted front.events) (noted front.inputs) (noted front.nets) (noted c.note_readers.new.queue) c.in_ok-note_readers.ensures.kept c.in_ok-note_readers.ensures.early c.in_ok-note_readers.ensures.next right.awaits;
    }
