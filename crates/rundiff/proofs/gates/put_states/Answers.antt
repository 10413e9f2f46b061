use Rattle.std.proofs.Common.{◌≡◌, ◌∙◌, ◌<◌, ◌≤◌, ap, sym, subst, suc, arith, ℕ, List, length, Option, slice_get, slice_index_or}
use Rattle.std.specs.Option.{ForSome, option_map}
use Rattle.rundiff.specs.kept.PlaceMaps.{kept_at}
use Rattle.std.proofs.lemmas.List.{length-map}
use Rattle.std.proofs.lemmas.Option.{same_Some, slice_get-get_or, slice_get-map, get_or_from_slice_get}
use Rattle.gatestep.specs.Step.{State, due}
use Rattle.design.specs.Keys.{netlist}
use Rattle.waveform.specs.Entries.{same_state}
use Rattle.waveform.specs.kept.Entries.{CanStore}
use Rattle.waveform.specs.kept.Patches.{Keeps, PatchRecord}
use Rattle.waveform.specs.kept.Timelines.{end_of}
use Rattle.scratch.specs.Run.{state_after}
use Rattle.rundiff.specs.kept.Fronts.{IsOwn, named_state}
use Rattle.rundiff.specs.kept.Places.{gate_at}
use Rattle.rundiff.proofs.Driven.{read_get}
use Rattle.rundiff.proofs.Steps.{is_one, not_yet, others_more, put_more}
use Rattle.rundiff.proofs.gates.put_states.Goals as goal

pub put_state-requires : goal.put_state-requires
put_state-requires g c =
    let xs = c.args.places.now in let i = c.loop-i.i in let x = slice_index_or xs i 0 in
    let at = slice_get-get_or xs i 0 c.loop-i-test.true in
    let there = is_one xs i x at in
    let new = netlist c.args.former.now.new.now in
    let same = c.loop-i.invariant.others x (not_yet xs i x c.requires.rising at) in
    let after : ℕ → State = λ p. state_after g.S.Stepper.answer new (gate_at new p) c.args.t in
    let many : length c.args.states.now ≡ length xs = ap (λ (l : List State). length l) c.requires.states ∙ length-map xs after in
    let low : i < length c.args.states.now = let h = c.loop-i-test.true in omega arith in
    let y = c.index-states-i.result in
    let read = read_get c.args.states.now i y low c.index-states-i.is in
    record {
      there = c.requires.there x there;
      within = c.requires.within;
      run = c.requires.run;
      trace = rw same (c.requires.traces x there);
      end = rw same (c.requires.ends x there);
      state = same_Some y (after x) (sym read ∙ ap (λ (l : List State). slice_get l i) c.requires.states ∙ slice_get-map after xs i ∙ ap (option_map after) at);
      can = subst (CanStore c.args.t) (get_or_from_slice_get c.args.states.now i y y read) (c.requires.can i y low);
    }

pub loop-i-preserved : goal.loop-i-preserved
loop-i-preserved g c =
    let xs = c.args.places.now in let i = c.loop-i.i in
    let old = netlist c.args.former.now.old.now in let new = netlist c.args.former.now.new.now in
    let P : ℕ → Option (PatchRecord State) → Type 0 = λ q o. Keeps same_state due (named_state g.S.Stepper.answer old (gate_at new q).name) (state_after g.S.Stepper.answer new (gate_at new q)) o (suc c.args.t) × IsOwn o × ForSome o (λ patch. end_of patch.line ≤ suc c.args.t) in
    let done = c.in_ok-put_state.ensures in
    record {
      put = put_more (kept_at c.args.traces.now) (kept_at c.loop-i.traces) (kept_at c.put_state.new.traces) xs i c.loop-i-test.true done.others P c.loop-i.invariant.put (done.put, done.own, done.end);
      others = others_more (kept_at c.args.traces.now) (kept_at c.loop-i.traces) (kept_at c.put_state.new.traces) xs i c.loop-i-test.true done.others c.loop-i.invariant.others;
    }
