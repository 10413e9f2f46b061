-- Connections by key, and what they are by name.
use Rattle.std.proofs.Common.{◌≡◌, ℕ, Bool, true, false, not, ◌==◌, ◌||◌, List, [], ◌∷◌, map, Option, Some, None, option_map, is_some, IsSome, IsSomeAnd, All, sym, refl, ap, subst, ◌∙◌}
use Rattle.std.proofs.lemmas.Bool.{eq-eqb, eqb-false, eqb-true, ne_eqb}
use Rattle.std.specs.List.{filter, find, list_any}
use Rattle.std.specs.Option.{option_map_or}
use Rattle.catalog.specs.Catalog.{record_at, records_of}
use Rattle.design.specs.declared.terminal.Terminal.{Terminal}
use Rattle.design.specs.declared.terminal.Terminal.TheVariants.{Net, Constant}
use Rattle.design.specs.Connections.{to_net}
use Rattle.design.specs.Keys.{KeyedGate, connection_in, entry_in, name_of, named_gates}
use Rattle.design.specs.kept.Keys.{IsConnected, IsDrivable, IsThere, drives_key, is_at, reads_key}
use Rattle.design.specs.kept.Lawful.{IsWired}
use Rattle.design.specs.Names.{same_name}
use Rattle.design.specs.Netlist.{GateEntry, NetEntry, Netlist, is_at_net, is_readable, reads}
use Rattle.design.specs.kept.Netlist.{is_drivable}
use Rattle.design.proofs.EntryLemmas.{Apart, Each, all_map, alone, any_map, any_none, any_within, each_both, each_from, each_map, each_to, each_weaker, filter_map, filter_within, find_within, found, map_map, map_within}
use Rattle.design.proofs.LookLemmas.{any_found, record_named, some_is, some_of}

eqb_turned : (a b : ℕ) → (a == b) ≡ (b == a)
eqb_turned a b = step (a == b) refl
  where
    step : (c : Bool) → (a == b) ≡ c → (a == b) ≡ (b == a)
    step true at = at ∙ sym (eq-eqb b a (sym (eqb-true a b at)))
    step false at = at ∙ sym (ne_eqb b a (λ same. eqb-false a b at (sym same)))

-- Nets by name.

-- the name of a net finds what its key finds
pub named_as : {X : Type 0} (name : X → List ℕ) (xs : List (ℕ × X)) (key : ℕ) (x : X) → Apart (λ e. e.0) xs → Apart (λ e. name e.1) xs → record_at xs key ≡ Some x → find (λ y. same_name (name y) (name x)) (records_of xs) ≡ Some x
named_as {X} name xs key x keys names there =
    record_named name xs (name x)
    ∙ ap (λ (o : Option (ℕ × X)). option_map (λ (p : ℕ × X). p.1) o)
    (find_within (λ e. same_name (name e.1) (name x)) (λ e. e.0 == key) xs
    (each_weaker (λ e. ((e.0 == key) ≡ same_name (name e.1) (name x)) × ((e.0 == key) ≡ true → e.1 ≡ x)) (λ e. same_name (name e.1) (name x) ≡ (e.0 == key)) (λ e at. sym at.0) xs (alone name xs key x keys names there)))
    ∙ there

pub named_at : (nets : List (ℕ × NetEntry)) (key : ℕ) (n : NetEntry) → Apart (λ e. e.0) nets → Apart (λ e. e.1.name) nets → record_at nets key ≡ Some n → find (λ m. same_name m.name n.name) (records_of nets) ≡ Some n
named_at nets key n keys names there = named_as (λ (m : NetEntry). m.name) nets key n keys names there

-- two nets have the same name where they have the same key
same_named : (nets : List (ℕ × NetEntry)) (key j : ℕ) (n m : NetEntry) → Apart (λ e. e.0) nets → Apart (λ e. e.1.name) nets → record_at nets key ≡ Some n → record_at nets j ≡ Some m → same_name m.name n.name ≡ (key == j)
same_named nets key j n m keys names there at =
    sym (found (λ k (y : NetEntry). (k == key) ≡ same_name y.name n.name) nets j m
    (each_weaker (λ e. ((e.0 == key) ≡ same_name e.1.name n.name) × ((e.0 == key) ≡ true → e.1 ≡ n)) (λ e. (e.0 == key) ≡ same_name e.1.name n.name) (λ e w. w.0) nets (alone (λ (y : NetEntry). y.name) nets key n keys names there)) at)
    ∙ eqb_turned j key

name_is_key : (nets : List (ℕ × NetEntry)) (key j : ℕ) (n : NetEntry) → Apart (λ e. e.0) nets → Apart (λ e. e.1.name) nets → record_at nets key ≡ Some n → IsSome (record_at nets j) → same_name (name_of nets j) n.name ≡ (key == j)
name_is_key nets key j n keys names there some =
    let other = some_is (record_at nets j) some in
    ap (λ (o : Option NetEntry). same_name (option_map_or (λ (m : NetEntry). m.name) o []) n.name) other.1 ∙ same_named nets key j n other.0 keys names there other.1

-- Gates by name.

pub drivable_some : (nets : List (ℕ × NetEntry)) (key : ℕ) → IsDrivable nets key → IsSome (record_at nets key)
drivable_some nets key h = let it = some_of (record_at nets key) (λ n. n.is_input ≡ false) h in ap (λ (o : Option NetEntry). is_some o) it.1

drivable_by_name : (d : Netlist) (nets : List (ℕ × NetEntry)) (key : ℕ) → d.nets ≡ records_of nets → Apart (λ e. e.0) nets → Apart (λ e. e.1.name) nets → IsDrivable nets key → is_drivable d (name_of nets key) ≡ true
drivable_by_name d nets key same keys names h =
    let it = some_of (record_at nets key) (λ n. n.is_input ≡ false) h in
    let n : NetEntry = it.0 in
    ap (λ (l : List NetEntry). option_map_or (λ m. not m.is_input) (find (λ m. same_name m.name (name_of nets key)) l) false) same
    ∙ ap (λ (o : Option NetEntry). option_map_or (λ m. not m.is_input) (find (λ m. same_name m.name (option_map_or (λ m. m.name) o [])) (records_of nets)) false) it.1
    ∙ ap (λ (o : Option NetEntry). option_map_or (λ m. not m.is_input) o false) (named_at nets key n keys names it.1) ∙ ap not it.2

readable_by_name : (d : Netlist) (nets : List (ℕ × NetEntry)) → d.nets ≡ records_of nets → Apart (λ e. e.0) nets → Apart (λ e. e.1.name) nets → (t : Terminal) → IsThere nets t → is_readable d (connection_in nets t) ≡ true
readable_by_name d nets same keys names (Net key) some =
    let it = some_is (record_at nets key) some in
    ap (λ (l : List NetEntry). list_any (λ m. same_name m.name (name_of nets key)) l) same
    ∙ ap (λ (o : Option NetEntry). list_any (λ m. same_name m.name (option_map_or (λ m. m.name) o [])) (records_of nets)) it.1
    ∙ any_found (λ (m : NetEntry). same_name m.name it.0.name) (records_of nets)
    ∙ ap (λ (o : Option NetEntry). is_some o) (named_at nets key it.0 keys names it.1)
readable_by_name d nets same keys names (Constant v) some = refl

pub each_of : {X : Type 0} (P : X → Type 0) (xs : List X) → All P xs → Each P xs
each_of P xs h = let Q : List _ → Type 0 = λ l. All P l in each_from P (λ x. x) xs (subst Q (sym (map_self xs)) h)
  where
    map_self : {X : Type 0} (xs : List X) → map (λ x. x) xs ≡ xs
    map_self [] = refl
    map_self (x ∷ xs) = ap (λ l. x ∷ l) (map_self xs)

-- a gate whose nets are there is wired
wired_by_name : (d : Netlist) (nets : List (ℕ × NetEntry)) (g : KeyedGate) → d.nets ≡ records_of nets → Apart (λ e. e.0) nets → Apart (λ e. e.1.name) nets → IsConnected nets g → IsWired d (entry_in nets g)
wired_by_name d nets g same keys names h = record {
  output = drivable_by_name d nets g.output same keys names h.output;
  inputs = all_map (is_readable d) (connection_in nets) g.inputs (each_weaker (IsThere nets) (λ t. is_readable d (connection_in nets t) ≡ true) (λ t there. readable_by_name d nets same keys names t there) g.inputs (each_of (IsThere nets) g.inputs h.inputs));
}

pub wired_all : (d : Netlist) (nets : List (ℕ × NetEntry)) (gates : List (ℕ × KeyedGate)) → d.nets ≡ records_of nets → Apart (λ e. e.0) nets → Apart (λ e. e.1.name) nets → Each (λ e. IsConnected nets e.1) gates → All (IsWired d) (records_of (named_gates nets gates))
wired_all d nets gates same keys names h =
    each_to (IsWired d) (λ e. e.1) (named_gates nets gates)
    (each_map (λ e. IsWired d e.1) (λ e. (e.0, entry_in nets e.1)) gates
    (each_weaker (λ e. IsConnected nets e.1) (λ e. IsWired d (entry_in nets e.1)) (λ e connected. wired_by_name d nets e.1 same keys names connected) gates h))

-- reading and driving, by name
reads_by_name : (nets : List (ℕ × NetEntry)) (key : ℕ) (n : NetEntry) (g : KeyedGate) → Apart (λ e. e.0) nets → Apart (λ e. e.1.name) nets → record_at nets key ≡ Some n → IsConnected nets g → reads (entry_in nets g) n.name ≡ reads_key g key
reads_by_name nets key n g keys names there h =
    any_map (is_at_net n.name) (connection_in nets) g.inputs
    ∙ any_within (λ t. is_at_net n.name (connection_in nets t)) (λ t. is_at t key) g.inputs (each_weaker (IsThere nets) (λ t. is_at_net n.name (connection_in nets t) ≡ is_at t key) at g.inputs (each_of (IsThere nets) g.inputs h.inputs))
  where
    at : (t : Terminal) → IsThere nets t → is_at_net n.name (connection_in nets t) ≡ is_at t key
    at (Net j) some = name_is_key nets key j n keys names there some
    at (Constant v) some = refl

pub drives_by_name : (nets : List (ℕ × NetEntry)) (key : ℕ) (n : NetEntry) (g : KeyedGate) → Apart (λ e. e.0) nets → Apart (λ e. e.1.name) nets → record_at nets key ≡ Some n → IsConnected nets g → same_name (name_of nets g.output) n.name ≡ drives_key g key
drives_by_name nets key n g keys names there h = name_is_key nets key g.output n keys names there (drivable_some nets g.output h.output)

pub records_named : (nets : List (ℕ × NetEntry)) (gates : List (ℕ × KeyedGate)) → records_of (named_gates nets gates) ≡ map (entry_in nets) (records_of gates)
records_named nets gates = map_map (λ e. e.1) (λ e. (e.0, entry_in nets e.1)) gates ∙ sym (map_map (entry_in nets) (λ e. e.1) gates)

-- whether a gate reads or drives a net
pub used_by_name : (nets : List (ℕ × NetEntry)) (gates : List (ℕ × KeyedGate)) (key : ℕ) (n : NetEntry) → Apart (λ e. e.0) nets → Apart (λ e. e.1.name) nets → record_at nets key ≡ Some n → All (IsConnected nets) (records_of gates) →
    list_any (λ g. reads g n.name || same_name g.output n.name) (records_of (named_gates nets gates)) ≡ list_any (λ g. reads_key g key || drives_key g key) (records_of gates)
used_by_name nets gates key n keys names there h =
    ap (λ l. list_any (λ g. reads g n.name || same_name g.output n.name) l) (records_named nets gates)
    ∙ any_map (λ g. reads g n.name || same_name g.output n.name) (entry_in nets) (records_of gates)
    ∙ any_within (λ g. reads (entry_in nets g) n.name || same_name (name_of nets g.output) n.name) (λ g. reads_key g key || drives_key g key) (records_of gates)
    (each_weaker (IsConnected nets) (λ g. (reads (entry_in nets g) n.name || same_name (name_of nets g.output) n.name) ≡ (reads_key g key || drives_key g key))
    (λ g connected. ap (λ b. b || same_name (name_of nets g.output) n.name) (reads_by_name nets key n g keys names there connected) ∙ ap (λ b. reads_key g key || b) (drives_by_name nets key n g keys names there connected))
    (records_of gates) (each_of (IsConnected nets) (records_of gates) h))

-- the drivers of a net
pub drivers_by_name : (nets : List (ℕ × NetEntry)) (gates : List (ℕ × KeyedGate)) (key : ℕ) → Apart (λ e. e.0) nets → Apart (λ e. e.1.name) nets → IsSome (record_at nets key) → All (IsConnected nets) (records_of gates) →
    filter (λ g. same_name g.output (name_of nets key)) (records_of (named_gates nets gates)) ≡ map (entry_in nets) (filter (λ g. drives_key g key) (records_of gates))
drivers_by_name nets gates key keys names some h =
    let it = some_is (record_at nets key) some in
    let called : name_of nets key ≡ it.0.name = ap (λ (o : Option NetEntry). option_map_or (λ m. m.name) o []) it.1 in
    ap (λ l. filter (λ (g : GateEntry). same_name g.output (name_of nets key)) l) (records_named nets gates)
    ∙ filter_map (λ (g : GateEntry). same_name g.output (name_of nets key)) (entry_in nets) (records_of gates)
    ∙ ap (λ l. map (entry_in nets) l)
    (filter_within (λ g. same_name (name_of nets g.output) (name_of nets key)) (λ g. drives_key g key) (records_of gates)
    (each_weaker (IsConnected nets) (λ g. same_name (name_of nets g.output) (name_of nets key) ≡ drives_key g key)
    (λ g connected. ap (λ m. same_name (name_of nets g.output) m) called ∙ drives_by_name nets key it.0 g keys names it.1 connected) (records_of gates) (each_of (IsConnected nets) (records_of gates) h)))

-- Other nets.

-- what a gate sees of a net
abbrev pub look : NetEntry → List ℕ × Bool
look n = (n.name, n.is_input)

abbrev pub seen : List (ℕ × NetEntry) → ℕ → Option (List ℕ × Bool)
seen nets key = option_map look (record_at nets key)

abbrev pub SeesAlike : List (ℕ × NetEntry) → List (ℕ × NetEntry) → Terminal → Type 0
SeesAlike nets new (Net key) = seen new key ≡ seen nets key
SeesAlike nets new (Constant v) = Unit {0}

-- the gate sees the same of its nets
pub record IsAlike (nets new : List (ℕ × NetEntry)) (g : KeyedGate) : Type 0 where
  pub output : seen new g.output ≡ seen nets g.output
  pub inputs : Each (SeesAlike nets new) g.inputs

name_alike : (nets new : List (ℕ × NetEntry)) (key : ℕ) → seen new key ≡ seen nets key → name_of new key ≡ name_of nets key
name_alike nets new key same = step (record_at new key) (record_at nets key) same
  where
    step : (o p : Option NetEntry) → option_map look o ≡ option_map look p → option_map_or (λ (n : NetEntry). n.name) o [] ≡ option_map_or (λ (n : NetEntry). n.name) p []
    step None None h = refl
    step None (Some n) h = cc
    step (Some m) None h = cc
    step (Some m) (Some n) h = let pair : (m.name, m.is_input) ≡ (n.name, n.is_input) = some_pair (m.name, m.is_input) (n.name, n.is_input) h in ap (λ (p : List ℕ × Bool). p.0) pair
      where
        some_pair : (p q : List ℕ × Bool) → Some p ≡ Some q → p ≡ q
        some_pair p q e = cc

some_alike : (nets new : List (ℕ × NetEntry)) (key : ℕ) → seen new key ≡ seen nets key → IsSome (record_at nets key) → IsSome (record_at new key)
some_alike nets new key same some = step (record_at new key) (record_at nets key) same some
  where
    step : (o p : Option NetEntry) → option_map look o ≡ option_map look p → IsSome p → IsSome o
    step (Some m) p h g = refl
    step None None h g = cc
    step None (Some n) h g = cc

drivable_alike : (nets new : List (ℕ × NetEntry)) (key : ℕ) → seen new key ≡ seen nets key → IsDrivable nets key → IsDrivable new key
drivable_alike nets new key same h = step (record_at new key) (record_at nets key) same h
  where
    step : (o p : Option NetEntry) → option_map look o ≡ option_map look p → IsSomeAnd p (λ n. n.is_input ≡ false) → IsSomeAnd o (λ n. n.is_input ≡ false)
    step o None e g = absurd g
    step None (Some n) e g = cc
    step (Some m) (Some n) e g = ap (λ (p : List ℕ × Bool). p.1) (some_pair (m.name, m.is_input) (n.name, n.is_input) e) ∙ g
      where
        some_pair : (p q : List ℕ × Bool) → Some p ≡ Some q → p ≡ q
        some_pair p q e = cc

pub connected_alike : (nets new : List (ℕ × NetEntry)) (g : KeyedGate) → IsAlike nets new g → IsConnected nets g → IsConnected new g
connected_alike nets new g same h =
    record {
      output = drivable_alike nets new g.output same.output h.output;
      inputs = all_of g.inputs (each_both (SeesAlike nets new) (IsThere nets) (IsThere new) there g.inputs same.inputs (each_of (IsThere nets) g.inputs h.inputs));
    }
  where
    there : (t : Terminal) → SeesAlike nets new t → IsThere nets t → IsThere new t
    there (Net key) alike some = some_alike nets new key alike some
    there (Constant v) alike some = tt

    all_of : (ts : List Terminal) → Each (IsThere new) ts → All (IsThere new) ts
    all_of ts h = let Q : List Terminal → Type 0 = λ l. All (IsThere new) l in subst Q (map_self ts) (each_to (IsThere new) (λ t. t) ts h)
      where
        map_self : (ts : List Terminal) → map (λ t. t) ts ≡ ts
        map_self [] = refl
        map_self (t ∷ ts) = ap (λ l. t ∷ l) (map_self ts)

entry_alike : (nets new : List (ℕ × NetEntry)) (g : KeyedGate) → IsAlike nets new g → entry_in new g ≡ entry_in nets g
entry_alike nets new g same =
    let output : name_of new g.output ≡ name_of nets g.output = name_alike nets new g.output same.output in
    let inputs : map (connection_in new) g.inputs ≡ map (connection_in nets) g.inputs = map_within (connection_in new) (connection_in nets) g.inputs (each_weaker (SeesAlike nets new) (λ t. connection_in new t ≡ connection_in nets t) one g.inputs same.inputs) in
    λ i. record { name = g.name; kind = g.kind; delays = g.delays; output = output i; inputs = inputs i }
  where
    one : (t : Terminal) → SeesAlike nets new t → connection_in new t ≡ connection_in nets t
    one (Net key) alike = ap (λ (name : List ℕ). to_net name) (name_alike nets new key alike)
    one (Constant v) alike = refl

pub gates_alike : (nets new : List (ℕ × NetEntry)) (gates : List (ℕ × KeyedGate)) → Each (λ e. IsAlike nets new e.1) gates → named_gates new gates ≡ named_gates nets gates
gates_alike nets new gates h =
    map_within (λ e. (e.0, entry_in new e.1)) (λ e. (e.0, entry_in nets e.1)) gates
    (each_weaker (λ e. IsAlike nets new e.1) (λ e. (e.0, entry_in new e.1) ≡ (e.0, entry_in nets e.1)) (λ e same. let p = entry_alike nets new e.1 same in λ i. (e.0, p i)) gates h)

-- where each net that is there looks as before
pub alike_there : (nets new : List (ℕ × NetEntry)) (g : KeyedGate) → ((k : ℕ) → IsSome (record_at nets k) → seen new k ≡ seen nets k) → IsConnected nets g → IsAlike nets new g
alike_there nets new g same h = record {
  output = same g.output (drivable_some nets g.output h.output);
  inputs = each_weaker (IsThere nets) (SeesAlike nets new) one g.inputs (each_of (IsThere nets) g.inputs h.inputs);
}
  where
    one : (t : Terminal) → IsThere nets t → SeesAlike nets new t
    one (Net key) some = same key some
    one (Constant v) some = tt

-- where each net but one that the gate has not looks as before
pub alike_unused : (nets new : List (ℕ × NetEntry)) (key : ℕ) (g : KeyedGate) → ((k : ℕ) → (key == k) ≡ false → seen new k ≡ seen nets k) → reads_key g key ≡ false → drives_key g key ≡ false → IsAlike nets new g
alike_unused nets new key g same unread undriven = record {
  output = same g.output undriven;
  inputs = each_weaker (λ t. is_at t key ≡ false) (SeesAlike nets new) one g.inputs (any_none (λ t. is_at t key) g.inputs unread);
}
  where
    one : (t : Terminal) → is_at t key ≡ false → SeesAlike nets new t
    one (Net k) off = same k off
    one (Constant v) off = tt
