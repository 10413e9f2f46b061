use Rattle.std.proofs.Common.{◌≡◌, ◌<◌, ◌≤◌, ◌+◌, ◌-◌, ◌++◌, ◌∷◌, ◌∙◌, sym, ap, refl, [], map, not, append_assoc, append-nil, subst, take, length, slice_index_or, arith, true, false}
use Rattle.std.proofs.lemmas.Grind.{common_steps}
use Rattle.std.specs.Option.{option_map_or}
use Rattle.std.proofs.lemmas.List.{take_all}
use Rattle.std.proofs.lemmas.Option.{slice_get-get_or, slice_get_read, slice_get_past}
use Rattle.fourstate.specs.Values.{same_value}
use Rattle.catalog.proofs.ListLemmas.{slice_get_some}
use Rattle.design.specs.Keys.{netlist}
use Rattle.design.specs.kept.Places.{driver_places}
use Rattle.scratch.specs.kept.Places.{changes_at, has}
use Rattle.scratch.specs.kept.Recorded.{recorded_below}
use Rattle.scratch.specs.Run.{value}
use Rattle.scratch.specs.kept.Nets.{Part}
use Rattle.scratch.proofs.Among.{in_neither}
use Rattle.scratch.proofs.Between.{end, finish}
use Rattle.scratch.proofs.Lists.{take_next}
use Rattle.scratch.proofs.NetSteps.{again, alone_there, resolved_is, same_value_at, same_wave_at, stayed, wave_early, wave_reached, went, went_alone, whole_there}
use Rattle.scratch.proofs.resolving.resolve_nets.Goals as goal
use Rattle.scratch.proofs.resolving.resolve_nets.Goals.{then-place-len+in_ok-value+then-is_other+in_ok-push, then-place-len+in_ok-value+else-is_other, else-place-len, then-is_none+in_ok-push_known, else-is_none}

pub push_known-requires : goal.push_known-requires
push_known-requires g c =
    let answer = g.S.Stepper.answer in let d = netlist c.args.setting.now.design.now in let t = c.args.setting.now.t in
    let part = c.loop-place.invariant.part in let done = c.args.changed.now.items ++ take c.loop-place.place-index c.args.nets.now in
    let place = slice_index_or c.args.nets.now c.loop-place.place-index 0 in
    let in_nets : place < length d.nets = let low = c.if-place-len.true in let many = part.as_many in grind (arith, common_steps) in
    let it = slice_get_some d.nets place in_nets in let n = it.0 in
    let v = c.in_ok-value.value in
    let is : v ≡ value answer d n t = resolved_is answer d t c.args.states.now n (driver_places d.gates n.name) v c.requires.states refl (rw it.1 at c.in_ok-value.ensures.value) in
    let in_values : place < length c.loop-place.values.items = rw part.as_many in_nets in
    let old = slice_get_read c.loop-place.values.items (length c.loop-place.values.items) place c.index-former.result.now refl in_values c.index-former.ensures in
    let other : not (same_value v c.index-former.result.now) ≡ true = sym c.is_other.ensures ∙ c.if-is_other.true in
    let in_waves : place < length c.loop-place.waves = rw part.as_many_waves in_nets in
    let wave = slice_get-get_or c.loop-place.waves place [] in_waves in
    let lone = c.args.setting.now.wiring.now.lone_drivers.items in
    let whole = whole_there d lone place n c.index.result.now c.requires.wired.lone_drivers it.1 in_nets c.index.ensures (c.is_none.ensures ∙ ap not c.if-is_none.true) in
    record {
      there = in_waves;
      later =
          wave_early answer d t c.requires.begun c.no_change.ensures place done c.loop-place.values.items c.loop-place.waves c.loop-place.changed.items part n it.1 v c.index-former.result.now is old other
          whole (slice_index_or c.loop-place.waves place []) wave c.changes_lie_before.ensures;
      can = omega arith;
      known =
          wave_reached answer d t c.requires.begun c.no_change.ensures place done c.loop-place.values.items c.loop-place.waves c.loop-place.changed.items part n it.1 v c.index-former.result.now is old other
          whole (slice_index_or c.loop-place.waves place []) wave c.reached_by_changes.ensures;
    }

pub loop-place-preserved : goal.loop-place-preserved
loop-place-preserved g c =
    let answer = g.S.Stepper.answer in let d = netlist c.args.setting.now.design.now in let t = c.args.setting.now.t in
    let part = c.loop-place.invariant.part in let nets = c.args.nets.now in let i = c.loop-place.place-index in let first = c.args.changed.now.items in let done = first ++ take i nets in
    let place = slice_index_or nets i 0 in
    let more : first ++ take (i + 1) nets ≡ done ++ place ∷ [] =
    ap (λ l. first ++ l) (take_next nets i place (slice_get-get_or nets i 0 c.loop-place-test.true)) ∙ sym (append_assoc first (take i nets) (place ∷ [])) in
    let vs = c.loop-place.values.items in let ws = c.loop-place.waves in let cs = c.loop-place.changed.items in
    let still = c.no_change.ensures in
    record {
      part =
          elim c.if-place-len.branch [
            | then-place-len+in_ok-value+then-is_other+in_ok-push w ↦
                let in_nets : place < length d.nets = let low = w.if-place-len.true in let many = part.as_many in grind (arith, common_steps) in
                let it = slice_get_some d.nets place in_nets in let n = it.0 in
                let v = w.in_ok-value.value in
                let is : v ≡ value answer d n t = resolved_is answer d t c.args.states.now n (driver_places d.gates n.name) v c.requires.states refl (rw it.1 at w.in_ok-value.ensures.value) in
                let in_values : place < length vs = rw part.as_many in_nets in
                let old = slice_get_read vs (length vs) place w.index-former.result.now refl in_values w.index-former.ensures in
                let other : not (same_value v w.index-former.result.now) ≡ true = sym w.is_other.ensures ∙ w.if-is_other.true in
                let lone = c.args.setting.now.wiring.now.lone_drivers.items in
                elim w.if-is_none.branch [
                  | then-is_none+in_ok-push_known u ↦
                      let in_waves : place < length ws = rw part.as_many_waves in_nets in
                      let wave = slice_get-get_or ws place [] in_waves in
                      let whole = whole_there d lone place n w.index.result.now c.requires.wired.lone_drivers it.1 in_nets w.index.ensures (w.is_none.ensures ∙ ap not u.if-is_none.true) in
                      rw (more, w.values-is, w.waves-is, u.waves-is, w.changed-is, u.in_ok-push_known.ensures, w.in_ok-push.ensures.items)
                      (went answer d t c.requires.begun still place done vs ws cs part n it.1 v w.index-former.result.now is old other whole (slice_index_or ws place []) wave c.push_to_changes.ensures)
                  | else-is_none u ↦
                      let alone = alone_there d lone place n w.index.result.now c.requires.wired.lone_drivers it.1 in_nets w.index.ensures (w.is_none.ensures ∙ ap not u.if-is_none.false) in
                      rw (more, w.values-is, w.waves-is, u.waves-is, w.changed-is, w.in_ok-push.ensures.items)
                      (went_alone answer d t c.requires.begun still place done vs ws cs part n it.1 v w.index-former.result.now is old other alone.0 alone.1)
                ]
            | then-place-len+in_ok-value+else-is_other w ↦
                let in_nets : place < length d.nets = let low = w.if-place-len.true in let many = part.as_many in grind (arith, common_steps) in
                let it = slice_get_some d.nets place in_nets in let n = it.0 in
                let v = w.in_ok-value.value in
                let is : v ≡ value answer d n t = resolved_is answer d t c.args.states.now n (driver_places d.gates n.name) v c.requires.states refl (rw it.1 at w.in_ok-value.ensures.value) in
                let in_values : place < length vs = rw part.as_many in_nets in
                let old = slice_get_read vs (length vs) place w.index-former.result.now refl in_values w.index-former.ensures in
                let same : not (same_value v w.index-former.result.now) ≡ false = sym w.is_other.ensures ∙ w.if-is_other.false in
                rw (more, w.values-is, w.waves-is, w.changed-is) (again answer d t c.requires.begun still place done vs ws cs part n it.1 v w.index-former.result.now is old same)
            | else-place-len w ↦
                let past : length d.nets ≤ place = let high = w.if-place-len.false in let many = part.as_many in grind (arith, common_steps) in
                let off : changes_at answer d place t ≡ false =
                ap (λ o. option_map_or (λ n. not (same_value (value answer d n t) (value answer d n (t - 1)))) o false) (slice_get_past d.nets place past) in
                rw (more, w.values-is, w.waves-is, w.changed-is) (stayed answer d t c.requires.begun still place done vs ws cs part off)
          ];
      grows =
          let so_far = c.loop-place.invariant.grows in
          elim c.if-place-len.branch [
            | then-place-len+in_ok-value+then-is_other+in_ok-push w ↦
                (so_far.0 ++ place ∷ [], ap (λ v. v.items) w.changed-is ∙ w.in_ok-push.ensures.items ∙ ap (λ l. l ++ place ∷ []) so_far.1 ∙ append_assoc first so_far.0 (place ∷ []))
            | then-place-len+in_ok-value+else-is_other w ↦ (so_far.0, ap (λ v. v.items) w.changed-is ∙ so_far.1)
            | else-place-len w ↦ (so_far.0, ap (λ v. v.items) w.changed-is ∙ so_far.1)
          ];
      counts = elim c.if-place-len.branch [
        | then-place-len+in_ok-value+then-is_other+in_ok-push w ↦ rw w.tallies-is w.in_ok-value.ensures.counts
        | then-place-len+in_ok-value+else-is_other w ↦ rw w.tallies-is w.in_ok-value.ensures.counts
        | else-place-len w ↦ rw w.tallies-is c.loop-place.invariant.counts
      ];
    }

pub loop-place-init : goal.loop-place-init
loop-place-init g c =
    let first = c.args.changed.now.items in
    record {
      part = subst (λ l. Part g.S.Stepper.answer (netlist c.args.setting.now.design.now) c.args.setting.now.t l c.args.values.now.items c.args.waves.now first) (sym (append-nil first)) c.requires.part;
      counts = c.requires.counts;
      grows = ([], sym (append-nil first));
    }

pub returns-clause-values : goal.returns-clause-values
returns-clause-values g c =
    let answer = g.S.Stepper.answer in let d = netlist c.args.setting.now.design.now in let t = c.args.setting.now.t in let nets = c.args.nets.now in let first = c.args.changed.now.items in
    let whole : first ++ take c.loop-place.place-index nets ≡ first ++ nets = ap (λ l. first ++ l) (take_all c.loop-place.place-index nets (let past = c.loop-place-test.false in omega arith)) in
    finish (first ++ take c.loop-place.place-index nets) (map (λ n. value answer d n (t - 1)) d.nets) (map (λ n. value answer d n t) d.nets) c.loop-place.values.items c.loop-place.invariant.part.values
    (λ k off. let apart = in_neither k first nets (sym (ap (has k) whole) ∙ off) in same_value_at answer d t c.requires.begun c.no_change.ensures k (c.requires.others k apart.1 apart.0))

pub returns-clause-waves : goal.returns-clause-waves
returns-clause-waves g c =
    let answer = g.S.Stepper.answer in let d = netlist c.args.setting.now.design.now in let t = c.args.setting.now.t in let nets = c.args.nets.now in let first = c.args.changed.now.items in
    let whole : first ++ take c.loop-place.place-index nets ≡ first ++ nets = ap (λ l. first ++ l) (take_all c.loop-place.place-index nets (let past = c.loop-place-test.false in omega arith)) in
    finish (first ++ take c.loop-place.place-index nets) (map (λ n. recorded_below answer d n t) d.nets) (map (λ n. recorded_below answer d n (t + 1)) d.nets) c.loop-place.waves c.loop-place.invariant.part.waves
    (λ k off. let apart = in_neither k first nets (sym (ap (has k) whole) ∙ off) in same_wave_at answer d t c.requires.begun c.no_change.ensures k (c.requires.others k apart.1 apart.0))

pub returns-clause-changed : goal.returns-clause-changed
returns-clause-changed g c =
    let answer = g.S.Stepper.answer in let d = netlist c.args.setting.now.design.now in let t = c.args.setting.now.t in let nets = c.args.nets.now in let first = c.args.changed.now.items in
    let whole : first ++ take c.loop-place.place-index nets ≡ first ++ nets = ap (λ l. first ++ l) (take_all c.loop-place.place-index nets (let past = c.loop-place-test.false in omega arith)) in
    end (first ++ take c.loop-place.place-index nets) (λ k. false) (λ k. changes_at answer d k t) (λ k. has k c.loop-place.changed.items) c.loop-place.invariant.part.changed
    (λ k off. let apart = in_neither k first nets (sym (ap (has k) whole) ∙ off) in sym (c.requires.others k apart.1 apart.0))
