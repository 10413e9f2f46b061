-- Moments at which nothing happens to what is live change none of it, and nothing is evaluated there.
use Rattle.std.proofs.Common.{◌≡◌, Bool, ℕ, zero, suc, ◌+◌, ◌-◌, ◌<◌, ◌≤◌, List, [], ◌++◌, true, false, subst, Some, map, refl, ap, sym, ◌∙◌, arith, All, ◌⊎◌, append-nil, ⊎_elim, slice_index_or, ◌&&◌}
use Rattle.std.proofs.lemmas.Bool.{cases_lt}
use Rattle.std.proofs.Math.Bool.{and-false}
use Rattle.std.proofs.lemmas.Option.{slice_get-get_or}
use Rattle.fourstate.specs.declared.value.Value.{Value}
use Rattle.gatestep.specs.Record.{at_moment}
use Rattle.gatestep.specs.Step.{State, Evaluation, due}
use Rattle.gatestep.specs.kept.Tasks.{NothingDue, again}
use Rattle.design.specs.Connections.{Connection, to_net, to_constant}
use Rattle.design.specs.kept.Lawful.{IsDesign}
use Rattle.design.specs.Names.{same_name}
use Rattle.design.specs.Netlist.{GateEntry, NetEntry, Netlist, net_named, reads}
use Rattle.design.proofs.NameLemmas.{name_is}
use Rattle.waveform.proofs.Lists.{filter-none}
use Rattle.scratch.specs.Run.{state_before, value}
use Rattle.scratch.specs.Work.{is_due, is_stirred, task_at}
use Rattle.scratch.proofs.Driven.{either}
use Rattle.scratch.proofs.Runs.{map_where}
use Rattle.scratch.proofs.Still.{still_net, is_still, still_after}
use Rattle.scratch.proofs.Stirred.{find_there}
use Rattle.rundiff.specs.Dirty.{is_dirty, rework_below, working_at}
use Rattle.rundiff.specs.kept.Kept.{Agrees, Between, IsClear, IsClosed, read_at}
use Rattle.rundiff.proofs.Lists.{filter_where}
use Rattle.rundiff.proofs.Settling.{not_dirty, settled, still_alike}
use Rattle.rundiff.proofs.Wired.{IsThere, inputs_there, named_in, reads_net}

module _ (answer : Evaluation → ℕ → State) (old new : Netlist)
    (current : (e : Evaluation) (t : ℕ) → (answer e t).current ≡ (due e.state t).current)
    (stays : (e : Evaluation) (t u : ℕ) → t < u → NothingDue u (answer e t) → answer (again e (answer e t)) u ≡ answer e t)
    (is : IsDesign new) (live : List ℕ → Bool) (closed : IsClosed old new live) (r u : ℕ) (clear : IsClear answer old new live r u) where
  -- what is known after the moment l, where since r nothing happened to what is live
  pub record Jumped (l : ℕ) : Type 0 where
    pub agrees : Agrees answer old new live (suc l)
    pub states : All (λ g. live g.output ≡ true → state_before answer new (suc l) g ≡ state_before answer new (suc r) g) new.gates
    pub values : All (λ x. live x.name ≡ true → value answer new x l ≡ value answer new x r) new.nets
    pub idle : rework_below answer old new (suc l) ≡ rework_below answer old new (suc r)

  -- a moment more
  module _ (l : ℕ) (order : r ≤ l) (low : suc l < u) (before : Jumped l) where
    abbrev next : ℕ
    next = suc l

    within : (name : List ℕ) → live name ≡ false → next ≤ old.horizon
    within name off = let all = clear.within name off in omega arith

    stood : (f : ℕ → Value) → Between r u (λ m. m ≤ old.horizon → f m ≡ f r) → next ≤ old.horizon → f next ≡ f l
    stood f same until =
        same next (omega arith) low until
        ∙ sym (⊎_elim (λ later. same l later (omega arith) (omega arith)) (λ here. let e : l ≡ r = omega arith in ap f e) (cases_lt r l))

    undue : All (λ g. live g.output ≡ true → is_due (state_before answer new next g) next ≡ false) new.gates
    undue = λ k d there on. ap (λ (s : State). is_due s next) (before.states k d there on) ∙ clear.due k d there on next (omega arith) low

    live_net : All (λ n. live n.name ≡ true → value answer new n next ≡ value answer new n l) new.nets
    live_net = λ k d there on.
        let n = slice_index_or new.nets k d in
        still_net answer new current n l (clear.points k d there on next (omega arith) low)
        (filter_where (λ g. same_name g.output n.name) (λ g. is_due (state_before answer new next g) next ≡ false) new.gates
        (λ i e inside at. undue i e inside (ap live (name_is (slice_index_or new.gates i e).output n.name at) ∙ on)))

    alike : All (λ n. live n.name ≡ true → (read_at answer old (to_net n.name) next ≡ value answer new n next) ⊎ All (λ g. reads g n.name ≡ true → live g.output ≡ true) new.gates) new.nets
    alike = λ k d there on.
        let n = slice_index_or new.nets k d in
        still_alike answer old new live l within before.agrees n (find_there new.nets k n is.distinct_nets (slice_get-get_or new.nets k d there)) (live_net k d there on)
        (stood (read_at answer old (to_net n.name)) (clear.waves k d there on))

    after : Agrees answer old new live (suc next)
    after = settled answer old new (inputs_there new is) next live live before.agrees.states closed (λ name off. off) within alike

    -- a net keeps its value, if it does so in the old run
    abbrev IsKept : NetEntry → Type 0
    IsKept n = (next ≤ old.horizon → read_at answer old (to_net n.name) next ≡ read_at answer old (to_net n.name) l) → value answer new n next ≡ value answer new n l

    nets_kept : All IsKept new.nets
    nets_kept = λ k d there seen.
        let n = slice_index_or new.nets k d in
        either (live n.name) (live_net k d there) (λ off. sym (after.nets k d there off) ∙ seen (within n.name off) ∙ before.agrees.nets k d there off)

    kept_input : (connection : Connection) → IsThere new connection × (next ≤ old.horizon → read_at answer old connection next ≡ read_at answer old connection l) →
        read_at answer new connection next ≡ read_at answer new connection l
    kept_input (to_constant v) facts = refl
    kept_input (to_net name) facts =
        let n : NetEntry = facts.0.0 in
        let found : net_named new name ≡ Some n = facts.0.1 in
        let net = named_in new IsKept name n nets_kept found in
        let seen = subst (λ (m : List ℕ). next ≤ old.horizon → read_at answer old (to_net m) next ≡ read_at answer old (to_net m) l) (sym net.1) facts.1 in
        reads_net answer new name n next found ∙ net.0 seen ∙ sym (reads_net answer new name n l found)

    -- a driver of a live net is not stirred
    calm : All (λ g. live g.output ≡ true → is_stirred answer new g next ≡ false) new.gates
    calm = λ k d there on.
        let g = slice_index_or new.gates k d in
        is_still answer new g l (undue k d there on)
        (map_where (λ c. IsThere new c × (next ≤ old.horizon → read_at answer old c next ≡ read_at answer old c l)) (λ c. read_at answer new c next) (λ c. read_at answer new c l) kept_input g.inputs
        (λ i e inside. (inputs_there new is k d there i e inside, stood (read_at answer old (slice_index_or g.inputs i e)) (clear.reads k d there on i e inside))))

    idle : working_at answer old new next ≡ []
    idle =
        filter-none (λ g. is_dirty answer old new g next && is_stirred answer new g next) new.gates
        (λ k d there.
        let g = slice_index_or new.gates k d in
        either (live g.output)
        (λ on. rw (calm k d there on) (and-false (is_dirty answer old new g next)))
        (λ off. rw (not_dirty answer old new (inputs_there new is) next live live before.agrees.states closed (λ name out. out) within alike k d there off) refl))

    jump_more : Jumped next
    jump_more =
        record {
          agrees = after;
          states = λ k d there on. still_after answer new stays (slice_index_or new.gates k d) l (calm k d there on) ∙ before.states k d there on;
          values = λ k d there on. live_net k d there on ∙ before.values k d there on;
          idle =
              ap (λ (gs : List GateEntry). rework_below answer old new next ++ at_moment next (map (λ g. task_at answer new g next) gs)) idle
              ∙ append-nil (rework_below answer old new next) ∙ before.idle;
        }

  jump_by : (n l : ℕ) → l ≡ r + n → l < u → Agrees answer old new live (suc r) → Jumped l
  jump_by zero l at low agrees =
      let e : l ≡ r = omega arith in subst Jumped (sym e) (record { agrees = agrees; states = λ k d there on. refl; values = λ k d there on. refl; idle = refl })
  jump_by (suc n) zero at low agrees = absurd (omega arith)
  jump_by (suc n) (suc l) at low agrees = jump_more l (omega arith) low (jump_by n l (omega arith) (omega arith) agrees)

  -- the moments before the next one at which something happens may be skipped
  pub jump : (l : ℕ) → r ≤ l → l < u → Agrees answer old new live (suc r) → Jumped l
  jump l order low agrees = jump_by (l - r) l (omega arith) low agrees
