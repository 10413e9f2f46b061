-- What keeps a design whole: the parts that edits have in common.
use Rattle.std.proofs.Common.{◌≡◌, ◌≢◌, ℕ, ◌≤◌, IsTrue, Bool, true, false, cond, ◌==◌, List, [], ◌∷◌, length, All, AllPairs, sym, refl, ap, subst, ◌∙◌, lit≤, arith}
use Rattle.std.proofs.lemmas.List.{length-map}
use Rattle.std.proofs.lemmas.List.Elements.{All-nil, All-weaker}
use Rattle.fourstate.specs.declared.limits.TheConstants.{MAX_TIME}
use Rattle.fourstate.specs.Gates.{takes_inputs}
use Rattle.catalog.specs.Catalog.{records_of}
use Rattle.catalog.specs.kept.Catalog.{keys_of, with_record}
use Rattle.design.specs.declared.limits.TheConstants.{MAX_GATES, MAX_NETS, MAX_POINTS}
use Rattle.fourstate.specs.declared.unit.TimeUnit.{TimeUnit}
use Rattle.design.specs.Keys.{Keyed, KeyedGate, connection_in, entry_in, named_gates, netlist}
use Rattle.design.specs.kept.Keys.{IsConnected, IsKeyedGate, drives_key, empty_design, keys_where, reads_key}
use Rattle.design.specs.kept.Kept.{IsKept}
use Rattle.design.specs.kept.Lawful.{IsNet, IsGate, IsWired}
use Rattle.design.specs.kept.Lists.{list_of}
use Rattle.design.specs.Names.{is_name}
use Rattle.design.specs.Netlist.{GateEntry, NetEntry, Netlist, point_total}
use Rattle.design.proofs.ConnectionLemmas.{IsAlike, connected_alike, gates_alike, wired_all}
use Rattle.design.proofs.EntryLemmas.{Apart, Each, apart_from, apart_map, apart_to, apart_unmap, each_both, each_from, each_map, each_to, each_unmap, each_weaker, keys_apart}

-- A design with nothing in it.

pub cleared_is_kept : (d : Keyed) → IsTrue (is_name d.top) → d.horizon ≤ MAX_TIME → IsKept (record d { nets = []; gates = [] }) 0 [] []
unfolding netlist
cleared_is_kept d named horizon =
    let bare : Netlist = netlist (record d { nets = []; gates = [] }) in
    record {
      lawful = record {
        named = named;
        nets = All-nil IsNet;
        gates = All-nil IsGate;
        wiring = All-nil (IsWired bare);
        distinct_nets = λ i j d below within. absurd (omega arith);
        distinct_gates = λ i j d below within. absurd (omega arith);
        net_count = lit≤ tt;
        gate_count = lit≤ tt;
        point_count = lit≤ tt;
        horizon = horizon;
      };
      keys = record {
        distinct_nets = λ i j d below within. absurd (omega arith);
        distinct_gates = λ i j d below within. absurd (omega arith);
        connected = All-nil (IsConnected []);
      };
      points_counted = refl;
      readers_listed = λ key. refl;
      drivers_listed = λ key. refl;
    }

pub empty_is_kept : (top : List ℕ) (unit : TimeUnit) → IsTrue (is_name top) → IsKept (empty_design top unit) 0 [] []
empty_is_kept top unit named = cleared_is_kept (empty_design top unit) named (lit≤ tt)

-- What a design says of its nets and its gates.

pub net_keys_apart : (d : Keyed) (points : ℕ) (read driven : List (List ℕ)) → IsKept d points read driven → Apart (λ e. e.0) d.nets
net_keys_apart d points read driven h = keys_apart d.nets h.keys.distinct_nets

pub gate_keys_apart : (d : Keyed) (points : ℕ) (read driven : List (List ℕ)) → IsKept d points read driven → Apart (λ e. e.0) d.gates
gate_keys_apart d points read driven h = keys_apart d.gates h.keys.distinct_gates

pub nets_apart : (d : Keyed) (points : ℕ) (read driven : List (List ℕ)) → IsKept d points read driven → Apart (λ e. e.1.name) d.nets
unfolding netlist
nets_apart d points read driven h = apart_from (λ e. e.1) (λ (n : NetEntry). n.name) d.nets h.lawful.distinct_nets

pub gates_apart : (d : Keyed) (points : ℕ) (read driven : List (List ℕ)) → IsKept d points read driven → Apart (λ e. e.1.name) d.gates
unfolding netlist
gates_apart d points read driven h =
    apart_unmap (λ (e : ℕ × GateEntry). e.1.name) (λ e. (e.0, entry_in d.nets e.1)) d.gates (apart_from (λ e. e.1) (λ (g : GateEntry). g.name) (named_gates d.nets d.gates) h.lawful.distinct_gates)

pub each_connected : (d : Keyed) (points : ℕ) (read driven : List (List ℕ)) → IsKept d points read driven → Each (λ e. IsConnected d.nets e.1) d.gates
each_connected d points read driven h = each_from (IsConnected d.nets) (λ e. e.1) d.gates h.keys.connected

entry_is_gate : (nets : List (ℕ × NetEntry)) (g : KeyedGate) → IsKeyedGate g → IsGate (entry_in nets g)
entry_is_gate nets g h =
    let P : ℕ → Type 0 = λ n. IsTrue (takes_inputs g.kind n) in
    record { named = h.named; inputs_fit = subst P (sym (length-map g.inputs (connection_in nets))) h.inputs_fit; delays_in_range = h.delays_in_range }

gate_is_entry : (nets : List (ℕ × NetEntry)) (g : KeyedGate) → IsGate (entry_in nets g) → IsKeyedGate g
gate_is_entry nets g h =
    let P : ℕ → Type 0 = λ n. IsTrue (takes_inputs g.kind n) in
    record { named = h.named; inputs_fit = subst P (length-map g.inputs (connection_in nets)) h.inputs_fit; delays_in_range = h.delays_in_range }

pub each_gate : (d : Keyed) (points : ℕ) (read driven : List (List ℕ)) → IsKept d points read driven → Each (λ e. IsKeyedGate e.1) d.gates
unfolding netlist
each_gate d points read driven h =
    each_weaker (λ e. IsGate (entry_in d.nets e.1)) (λ e. IsKeyedGate e.1) (λ e w. gate_is_entry d.nets e.1 w) d.gates
    (each_unmap (λ (e : ℕ × GateEntry). IsGate e.1) (λ e. (e.0, entry_in d.nets e.1)) d.gates (each_from IsGate (λ e. e.1) (named_gates d.nets d.gates) h.lawful.gates))

count_named : (nets : List (ℕ × NetEntry)) (gates : List (ℕ × KeyedGate)) → length (records_of (named_gates nets gates)) ≡ length gates
count_named nets gates = length-map (named_gates nets gates) (λ e. e.1) ∙ length-map {B = ℕ × GateEntry} gates (λ e. (e.0, entry_in nets e.1))

pub net_count_is : (d : Keyed) → length (netlist d).nets ≡ length d.nets
unfolding netlist
net_count_is d = length-map d.nets (λ e. e.1)

pub gate_count_is : (d : Keyed) → length (netlist d).gates ≡ length d.gates
unfolding netlist
gate_count_is d = count_named d.nets d.gates

-- Other nets, which look to the gates as before.

pub kept_nets : (d : Keyed) (points after : ℕ) (read driven : List (List ℕ)) (nets : List (ℕ × NetEntry)) → IsKept d points read driven → Each (λ e. IsAlike d.nets nets e.1) d.gates →
    AllPairs (λ a b. a ≢ b) (keys_of nets) → All IsNet (records_of nets) → Apart (λ e. e.1.name) nets → length (records_of nets) ≤ MAX_NETS → after ≡ point_total (records_of nets) → after ≤ MAX_POINTS →
    IsKept (record d { nets = nets }) after read driven
unfolding netlist
kept_nets d points after read driven nets h alike distinct all names count counted room =
    let same : named_gates nets d.gates ≡ named_gates d.nets d.gates = gates_alike d.nets nets d.gates alike in
    let connected : Each (λ e. IsConnected nets e.1) d.gates =
    each_both (λ e. IsAlike d.nets nets e.1) (λ e. IsConnected d.nets e.1) (λ e. IsConnected nets e.1) (λ e s w. connected_alike d.nets nets e.1 s w) d.gates alike (each_connected d points read driven h) in
    let Gates : List (ℕ × GateEntry) → Type 0 = λ l. All IsGate (records_of l) in
    let Names : List (ℕ × GateEntry) → Type 0 = λ l. AllPairs (λ g h. g.name ≢ h.name) (records_of l) in
    record {
      lawful = record {
        named = h.lawful.named;
        nets = all;
        gates = subst Gates (sym same) h.lawful.gates;
        wiring = wired_all (netlist (record d { nets = nets })) nets d.gates refl (keys_apart nets distinct) names connected;
        distinct_nets = apart_to (λ e. e.1) (λ (n : NetEntry). n.name) nets names;
        distinct_gates = subst Names (sym same) h.lawful.distinct_gates;
        net_count = count;
        gate_count = omega (arith, count_named nets d.gates, count_named d.nets d.gates, h.lawful.gate_count);
        point_count = omega (arith, counted, room);
        horizon = h.lawful.horizon;
      };
      keys = record { distinct_nets = distinct; distinct_gates = h.keys.distinct_gates; connected = each_to (IsConnected nets) (λ e. e.1) d.gates connected };
      points_counted = counted;
      readers_listed = h.readers_listed;
      drivers_listed = h.drivers_listed;
    }

-- Other gates.

pub kept_gates : (d : Keyed) (points : ℕ) (read driven new_read new_driven : List (List ℕ)) (gates : List (ℕ × KeyedGate)) → IsKept d points read driven → Each (λ e. IsKeyedGate e.1) gates → Each (λ e. IsConnected d.nets e.1) gates →
    AllPairs (λ a b. a ≢ b) (keys_of gates) → Apart (λ e. e.1.name) gates → length gates ≤ MAX_GATES →
    ((k : ℕ) → list_of new_read k ≡ keys_where (λ e. reads_key e.1 k) gates) → ((k : ℕ) → list_of new_driven k ≡ keys_where (λ e. drives_key e.1 k) gates) →
    IsKept (record d { gates = gates }) points new_read new_driven
unfolding netlist
kept_gates d points read driven new_read new_driven gates h each connected distinct names count readers drivers =
    let entry : ℕ × KeyedGate → ℕ × GateEntry = λ e. (e.0, entry_in d.nets e.1) in
    record {
      lawful = record {
        named = h.lawful.named;
        nets = h.lawful.nets;
        gates = each_to IsGate (λ e. e.1) (named_gates d.nets gates)
            (each_map (λ e. IsGate e.1) entry gates (each_weaker (λ e. IsKeyedGate e.1) (λ e. IsGate (entry_in d.nets e.1)) (λ e w. entry_is_gate d.nets e.1 w) gates each));
        wiring = wired_all (netlist (record d { gates = gates })) d.nets gates refl (net_keys_apart d points read driven h) (nets_apart d points read driven h) connected;
        distinct_nets = h.lawful.distinct_nets;
        distinct_gates = apart_to (λ e. e.1) (λ (g : GateEntry). g.name) (named_gates d.nets gates) (apart_map (λ (e : ℕ × GateEntry). e.1.name) entry gates names);
        net_count = h.lawful.net_count;
        gate_count = omega (arith, count_named d.nets gates, count);
        point_count = h.lawful.point_count;
        horizon = h.lawful.horizon;
      };
      keys = record { distinct_nets = h.keys.distinct_nets; distinct_gates = distinct; connected = each_to (IsConnected d.nets) (λ e. e.1) gates connected };
      points_counted = h.points_counted;
      readers_listed = readers;
      drivers_listed = drivers;
    }

-- names that are apart stay apart where each record keeps its name
pub apart_with : {X : Type 0} (name : X → List ℕ) (es : List (ℕ × X)) (key : ℕ) (x y : X) → Each (λ e. (e.0 == key) ≡ true → e.1 ≡ x) es → name y ≡ name x → Apart (λ e. name e.1) es → Apart (λ e. name e.1) (with_record es key y)
apart_with name [] key x y at same h = tt
apart_with {X} name (e ∷ es) key x y at same h = (rest es at.1 h.0, apart_with name es key x y at.1 same h.1)
  where
    named : (f : ℕ × X) → ((f.0 == key) ≡ true → f.1 ≡ x) → name (cond (f.0 == key) y f.1) ≡ name f.1
    named f on = step (f.0 == key) on
      where
        step : (b : Bool) → (b ≡ true → f.1 ≡ x) → name (cond b y f.1) ≡ name f.1
        step true on = same ∙ ap name (sym (on refl))
        step false on = refl

    rest : (fs : List (ℕ × X)) → Each (λ f. (f.0 == key) ≡ true → f.1 ≡ x) fs → Each (λ f. name e.1 ≢ name f.1) fs → Each (λ f. name (cond (e.0 == key) y e.1) ≢ name f.1) (with_record fs key y)
    rest [] at h = tt
    rest (f ∷ fs) on h = (λ alike. h.0 (sym (named e at.0) ∙ alike ∙ named f on.0), rest fs on.1 h.1)

-- Another horizon.

pub kept_with_horizon : (d : Keyed) (points : ℕ) (read driven : List (List ℕ)) (t : ℕ) → IsKept d points read driven → t ≤ MAX_TIME → IsKept (record d { horizon = t }) points read driven
unfolding netlist
kept_with_horizon d points read driven t h moment =
    let lawful = h.lawful in
    record {
      lawful = record {
        named = lawful.named;
        nets = lawful.nets;
        gates = lawful.gates;
        wiring = All-weaker (IsWired (netlist d)) (IsWired (netlist (record d { horizon = t }))) (λ g wired. record { output = wired.output; inputs = wired.inputs }) (netlist d).gates lawful.wiring;
        distinct_nets = lawful.distinct_nets;
        distinct_gates = lawful.distinct_gates;
        net_count = lawful.net_count;
        gate_count = lawful.gate_count;
        point_count = lawful.point_count;
        horizon = moment;
      };
      keys = record { distinct_nets = h.keys.distinct_nets; distinct_gates = h.keys.distinct_gates; connected = h.keys.connected };
      points_counted = h.points_counted;
      readers_listed = h.readers_listed;
      drivers_listed = h.drivers_listed;
    }
