-- Nets and gates that are found by their names.
use Rattle.std.proofs.Common.{◌≡◌, ℕ, List, [], ◌∷◌, Bool, true, false, find, Option, Some, None, option_map, refl, sym, ap, subst, ◌∙◌}
use Rattle.std.specs.Prelude.{IsSome}
use Rattle.std.specs.List.{list_any}
use Rattle.std.specs.Option.{option_map_or}
use Rattle.std.proofs.lemmas.Slice.Eq.{bytes_eq-Decides}
use Rattle.design.specs.Keys.{Keyed, KeyedGate, entry_in, netlist}
use Rattle.design.specs.kept.Keys.{gate_by_key}
use Rattle.design.specs.Names.{same_name}
use Rattle.design.specs.Netlist.{GateEntry, NetEntry, Netlist, gate_named, has_gate, has_net, net_named}
use Rattle.edits.specs.kept.Changes.{FindsGate}

-- What is found.

found_by : {X : Type 0} (p : X → Bool) (x : X) (xs : List X) (y : X) (b : Bool) → p x ≡ b → (find p xs ≡ Some y → p y ≡ true) → find p (x ∷ xs) ≡ Some y → p y ≡ true
found_by p x xs y true e rest found =
    let is : find p (x ∷ xs) ≡ Some x = rw e refl in
    let same : x ≡ y = cc in
    ap p (sym same) ∙ e
found_by p x xs y false e rest found =
    let is : find p (x ∷ xs) ≡ find p xs = rw e refl in
    rest (sym is ∙ found)

-- what is found passes
found_passes : {X : Type 0} (p : X → Bool) (xs : List X) (y : X) → find p xs ≡ Some y → p y ≡ true
found_passes p [] y found = cc
found_passes p (x ∷ xs) y found = found_by p x xs y (p x) refl (found_passes p xs y) found

any_by : {X : Type 0} (p : X → Bool) (x : X) (xs : List X) (b : Bool) → p x ≡ b → (list_any p xs ≡ true → IsSome (find p xs)) → list_any p (x ∷ xs) ≡ true → IsSome (find p (x ∷ xs))
any_by p x xs true e rest any = rw e refl
any_by p x xs false e rest any = rw e (rest (rw e at any))

-- what passes is found
any_find : {X : Type 0} (p : X → Bool) (xs : List X) → list_any p xs ≡ true → IsSome (find p xs)
any_find p [] any = cc
any_find p (x ∷ xs) any = any_by p x xs (p x) refl (any_find p xs) any

-- Nets.

pub net_found : (d : Netlist) (name : List ℕ) (o : Option NetEntry) → o ≡ net_named d name → has_net d name ≡ true → IsSome o
net_found d name o e there = let Q : Option NetEntry → Type 0 = λ o. IsSome o in subst Q (sym e) (any_find (λ n. same_name n.name name) d.nets there)

-- Gates.

gate_at : (d : Keyed) (name : List ℕ) (key : ℕ) (o : Option KeyedGate) → gate_by_key d key ≡ o → option_map (entry_in d.nets) (gate_by_key d key) ≡ gate_named (netlist d) name → has_gate (netlist d) name ≡ true → FindsGate d name key
gate_at d name key (Some g) is e known =
    let found : gate_named (netlist d) name ≡ Some (entry_in d.nets g) = sym e ∙ ap (option_map (entry_in d.nets)) is in
    let named : g.name ≡ name = (bytes_eq-Decides g.name name).0 (found_passes (λ (h : GateEntry). same_name h.name name) (netlist d).gates (entry_in d.nets g) found) in
    let Q : Option KeyedGate → Type 0 = λ o. IsSome o in
    record {
      known = known;
      there = subst Q (sym is) refl;
      found = e;
      named = ap (λ (p : Option KeyedGate). option_map_or (λ h. h.name) p []) is ∙ named;
    }
gate_at d name key None is e known =
    let some : IsSome (gate_named (netlist d) name) = any_find (λ g. same_name g.name name) (netlist d).gates known in
    let none : gate_named (netlist d) name ≡ None = sym e ∙ ap (option_map (entry_in d.nets)) is in
    absurd (cc)

pub finds_gate : (d : Keyed) (name : List ℕ) (key : ℕ) → option_map (entry_in d.nets) (gate_by_key d key) ≡ gate_named (netlist d) name → true ≡ has_gate (netlist d) name → FindsGate d name key
finds_gate d name key e known = gate_at d name key (gate_by_key d key) refl e (sym known)
