-- What a moment changes of what is live.
use Rattle.std.proofs.Common.{◌≡◌, ℕ, suc, ◌<◌, ◌≤◌, List, Bool, true, false, Some, length, refl, ap, sym, ◌∙◌, All, ◌⊎◌, inl, inr, arith, nat_le, slice_index_or, ◌&&◌}
use Rattle.std.proofs.lemmas.Bool.{and_parts, le-leb}
use Rattle.std.proofs.lemmas.Bool.Decides.{nat_tests}
use Rattle.std.proofs.lemmas.List.Folds.{list_any_at}
use Rattle.fourstate.specs.kept.ValueLaws.{is_same, same_self}
use Rattle.fourstate.specs.Values.{same_value}
use Rattle.gatestep.specs.Step.{State, Evaluation}
use Rattle.design.specs.Connections.{Connection, to_net, to_constant}
use Rattle.design.specs.Names.{same_name}
use Rattle.design.specs.Netlist.{GateEntry, NetEntry, Netlist, is_at_net, net_named, reads}
use Rattle.design.proofs.NameLemmas.{name_is}
use Rattle.scratch.specs.Run.{state_before, value}
use Rattle.scratch.proofs.Driven.{either}
use Rattle.scratch.proofs.Stirred.{same_self_name}
use Rattle.scratch.proofs.Runs.{map_where}
use Rattle.rundiff.specs.Dirty.{is_dirty}
use Rattle.rundiff.specs.kept.Kept.{Agrees, IsClosed, IsSameNet, read_at}
use Rattle.rundiff.proofs.Clean.{clean_after, is_clean, same_net}
use Rattle.rundiff.proofs.Lists.{filter_where}
use Rattle.rundiff.proofs.Wired.{IsThere, named_in, read_of, reads_net}

module _ (answer : Evaluation → ℕ → State) (old new : Netlist) where
  -- what holds before t of a gate of which the output is not live
  abbrev SameState : (List ℕ → Bool) → ℕ → GateEntry → Type 0
  SameState live t g = live g.output ≡ false → state_before answer old t g ≡ state_before answer new t g

  -- a net that is not live has the same value in both runs
  pub untouched_same : (live : List ℕ → Bool) (t : ℕ) → All (SameState live t) new.gates → (n : NetEntry) → live n.name ≡ false → IsSameNet old new n →
      read_at answer old (to_net n.name) t ≡ value answer new n t
  untouched_same live t states n off same =
      let drivers = filter_where (λ g. same_name g.output n.name) (λ g. state_before answer old t g ≡ state_before answer new t g) new.gates
      (λ k d within at. states k d within (ap live (name_is (slice_index_or new.gates k d).output n.name at) ∙ off)) in
      reads_net answer old n.name n t same.net ∙ same_net answer old new n t same.drivers drivers

  -- a net that keeps its value in both runs has the same in both, or the outputs of its readers are live
  pub still_alike : (live : List ℕ → Bool) (r : ℕ) → ((name : List ℕ) → live name ≡ false → suc r ≤ old.horizon) → Agrees answer old new live (suc r) → (n : NetEntry) → net_named new n.name ≡ Some n →
      value answer new n (suc r) ≡ value answer new n r → (suc r ≤ old.horizon → read_at answer old (to_net n.name) (suc r) ≡ read_at answer old (to_net n.name) r) →
      (read_at answer old (to_net n.name) (suc r) ≡ value answer new n (suc r)) ⊎ All (λ g. reads g n.name ≡ true → live g.output ≡ true) new.gates
  still_alike live r within agrees n found mine theirs =
      let was = read_at answer old (to_net n.name) r in let v = value answer new n r in
      either (nat_le (suc r) old.horizon && same_value was v)
      (λ on.
      let parts = and_parts (nat_le (suc r) old.horizon) (same_value was v) on in
      let low : suc r ≤ old.horizon = let h = parts.0 in grind (arith, nat_tests) in
      inl (theirs low ∙ is_same was v parts.1 ∙ sym mine))
      (λ off.
      inr (λ k d there reading.
      let g = slice_index_or new.gates k d in
      either (live g.output) (λ on. on)
      (λ free.
      let same : was ≡ v = read_of (λ c. read_at answer old c r ≡ read_at answer new c r) n.name g.inputs (agrees.inputs k d there free) reading ∙ reads_net answer new n.name n r found in
      let yes : (nat_le (suc r) old.horizon && same_value was v) ≡ true = rw (le-leb (suc r) old.horizon (within g.output free), same) (same_self v) in cc)))

  module _ (there : All (λ g. All (IsThere new) g.inputs) new.gates) (t : ℕ) (live later : List ℕ → Bool)
      (states : All (SameState live t) new.gates) (closed : IsClosed old new live)
      (more : (name : List ℕ) → later name ≡ false → live name ≡ false)
      (within : (name : List ℕ) → later name ≡ false → t ≤ old.horizon)
      (alike : All (λ n. live n.name ≡ true → (read_at answer old (to_net n.name) t ≡ value answer new n t) ⊎ All (λ g. reads g n.name ≡ true → later g.output ≡ true) new.gates) new.nets) where
    -- a net has the same value in both runs, or the outputs of its readers are live from now on
    abbrev IsAlike : NetEntry → Type 0
    IsAlike n = (read_at answer old (to_net n.name) t ≡ value answer new n t) ⊎ All (λ g. reads g n.name ≡ true → later g.output ≡ true) new.gates

    alike_by : (n : NetEntry) (b : Bool) → live n.name ≡ b → (live n.name ≡ true → IsAlike n) → (live n.name ≡ false → IsSameNet old new n) → IsAlike n
    alike_by n true on alike same = alike on
    alike_by n false off alike same = inl (untouched_same live t states n off (same off))

    all_alike : All IsAlike new.nets
    all_alike = λ k d low. let n = slice_index_or new.nets k d in alike_by n (live n.name) refl (alike k d low) (closed.nets k d low)

    -- what a gate reads whose output is not live from now on
    unread : (k : ℕ) (d : GateEntry) → k < length new.gates → later (slice_index_or new.gates k d).output ≡ false → (n : NetEntry) → reads (slice_index_or new.gates k d) n.name ≡ true →
        IsAlike n → read_at answer old (to_net n.name) t ≡ value answer new n t
    unread k d low off n reading (inl same) = same
    unread k d low off n reading (inr all) = let no : true ≡ false = sym (all k d low reading) ∙ off in absurd (cc)

    same_by : (k : ℕ) (d : GateEntry) → k < length new.gates → later (slice_index_or new.gates k d).output ≡ false → (i : ℕ) (e : Connection) → i < length (slice_index_or new.gates k d).inputs →
        (connection : Connection) → slice_index_or (slice_index_or new.gates k d).inputs i e ≡ connection → IsThere new connection → read_at answer old connection t ≡ read_at answer new connection t
    same_by k d low off i e in_list (to_constant v) at is = refl
    same_by k d low off i e in_list (to_net name) at is =
        let g = slice_index_or new.gates k d in
        let n : NetEntry = is.0 in
        let found : net_named new name ≡ Some n = is.1 in
        let facts = named_in new IsAlike name n all_alike found in
        let same : n.name ≡ name = facts.1 in
        let reading : reads g n.name ≡ true =
        list_any_at (is_at_net n.name) g.inputs i e in_list (ap (is_at_net n.name) at ∙ ap (λ (m : List ℕ). same_name name m) same ∙ same_self_name name) in
        ap (λ (m : List ℕ). read_at answer old (to_net m) t) (sym same) ∙ unread k d low off n reading facts.0 ∙ sym (reads_net answer new name n t found)

    same_inputs : (k : ℕ) (d : GateEntry) → k < length new.gates → later (slice_index_or new.gates k d).output ≡ false →
        All (λ connection. read_at answer old connection t ≡ read_at answer new connection t) (slice_index_or new.gates k d).inputs
    same_inputs k d low off = λ i e in_list.
        same_by k d low off i e in_list (slice_index_or (slice_index_or new.gates k d).inputs i e) refl (there k d low i e in_list)

    -- a gate whose output is not live from now on is not dirty
    pub not_dirty : All (λ g. later g.output ≡ false → is_dirty answer old new g t ≡ false) new.gates
    not_dirty = λ k d low off.
        let g = slice_index_or new.gates k d in
        let free = more g.output off in
        is_clean answer old new g t (within g.output off) (closed.gates k d low free) (states k d low free)
        (map_where (λ connection. read_at answer old connection t ≡ read_at answer new connection t) (λ c. read_at answer old c t) (λ c. read_at answer new c t) (λ c is. is) g.inputs (same_inputs k d low off))

    -- after the moment what is not live is the same in both runs
    pub settled : Agrees answer old new later (suc t)
    settled =
        record {
          states = λ k d low off. clean_after answer old new (slice_index_or new.gates k d) t (not_dirty k d low off);
          inputs = λ k d low off. same_inputs k d low off;
          nets = λ k d low off.
              let n = slice_index_or new.nets k d in
              untouched_same live t states n (more n.name off) (closed.nets k d low (more n.name off));
        }

    -- and as closed as before
    pub still_closed : IsClosed old new later
    still_closed =
        record {
          gates = λ k d low off. closed.gates k d low (more (slice_index_or new.gates k d).output off);
          nets = λ k d low off. closed.nets k d low (more (slice_index_or new.nets k d).name off);
        }
