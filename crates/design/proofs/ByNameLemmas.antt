-- A design by names: what is asked of it, asked of the design by keys.
use Rattle.std.proofs.Common.{◌≡◌, ℕ, ◌+◌, zero, suc, Bool, true, false, cond, List, [], ◌∷◌, map, Option, Some, None, option_map, IsSome, All, refl, ap, subst, ◌∙◌}
use Rattle.std.proofs.lemmas.Option.{slice_get-map}
use Rattle.std.proofs.lemmas.List.Elements.{All-head, All-tail}
use Rattle.std.specs.List.{filter, find, list_any, position_from, slice_get}
use Rattle.std.specs.Option.{option_map_or}
use Rattle.catalog.specs.Catalog.{record_at, records_of}
use Rattle.design.specs.Keys.{Keyed, KeyedGate, entry_in, name_of, netlist}
use Rattle.design.specs.kept.Keys.{drives_key}
use Rattle.design.specs.kept.Kept.{IsKept}
use Rattle.design.specs.kept.Lawful.{IsNet}
use Rattle.design.specs.Names.{is_name, same_name}
use Rattle.design.specs.Netlist.{GateEntry, NetEntry, drivers_of, gate_named, has_gate, net_named}
use Rattle.design.proofs.ConnectionLemmas.{drivers_by_name, named_as, named_at, records_named}
use Rattle.design.proofs.DesignLemmas.{gate_keys_apart, gates_apart, net_keys_apart, nets_apart}
use Rattle.design.proofs.EntryLemmas.{Each, any_map, each_from}
use Rattle.design.proofs.LookLemmas.{find_map}

-- The gate of a name.

pub has_gate_is : (d : Keyed) (name : List ℕ) → has_gate (netlist d) name ≡ list_any (λ g. same_name g.name name) (records_of d.gates)
unfolding netlist
has_gate_is d name = ap (λ l. list_any (λ (g : GateEntry). same_name g.name name) l) (records_named d.nets d.gates) ∙ any_map (λ (g : GateEntry). same_name g.name name) (entry_in d.nets) (records_of d.gates)

pub gate_named_is : (d : Keyed) (name : List ℕ) → gate_named (netlist d) name ≡ option_map (entry_in d.nets) (find (λ g. same_name g.name name) (records_of d.gates))
unfolding netlist
gate_named_is d name = ap (λ l. find (λ (g : GateEntry). same_name g.name name) l) (records_named d.nets d.gates) ∙ find_map (λ (g : GateEntry). same_name g.name name) (entry_in d.nets) (records_of d.gates)

pub position_map : {X Y : Type 0} (p : Y → Bool) (f : X → Y) (k : ℕ) (xs : List X) → position_from p k (map f xs) ≡ position_from (λ x. p (f x)) k xs
position_map p f k [] = refl
position_map p f k (x ∷ xs) = ap (λ (o : Option ℕ). cond (p (f x)) (Some k) o) (position_map p f (k + 1) xs)

pub gate_position_is : (d : Keyed) (name : List ℕ) → position_from (λ g. same_name g.name name) 0 (netlist d).gates ≡ position_from (λ g. same_name g.name name) 0 (records_of d.gates)
unfolding netlist
gate_position_is d name = ap (λ l. position_from (λ (g : GateEntry). same_name g.name name) 0 l) (records_named d.nets d.gates) ∙ position_map (λ (g : GateEntry). same_name g.name name) (entry_in d.nets) 0 (records_of d.gates)

-- the gate at a place
pub gate_at_is : (d : Keyed) (place : ℕ) → slice_get (netlist d).gates place ≡ option_map (entry_in d.nets) (slice_get (records_of d.gates) place)
unfolding netlist
gate_at_is d place = ap (λ (l : List GateEntry). slice_get l place) (records_named d.nets d.gates) ∙ slice_get-map (entry_in d.nets) (records_of d.gates) place

-- what is said of each is said of the one at a place
pub all_at : {X : Type 0} (P : X → Type 0) (xs : List X) (i : ℕ) (x : X) → All P xs → slice_get xs i ≡ Some x → P x
all_at P [] i x h at = absurd (cc)
all_at P (y ∷ xs) zero x h at = let same : y ≡ x = cc in subst P same (All-head P y xs h)
all_at P (y ∷ xs) (suc i) x h at = all_at P xs i x (All-tail P y xs h) at

-- The law of keys and names.

no_name : (nets : List (ℕ × NetEntry)) → Each (λ e. IsNet e.1) nets → find (λ n. same_name n.name []) (records_of nets) ≡ None
no_name [] h = refl
no_name (e ∷ es) h = step (same_name e.1.name []) (unnamed e.1.name h.0.named) (no_name es h.1)
  where
    unnamed : (name : List ℕ) → is_name name ≡ true → same_name name [] ≡ false
    unnamed [] named = absurd (cc)
    unnamed (c ∷ name) named = refl

    step : (b : Bool) → b ≡ false → find (λ n. same_name n.name []) (records_of es) ≡ None → cond b (Some e.1) (find (λ n. same_name n.name []) (records_of es)) ≡ None
    step true at rest = cc
    step false at rest = rest

pub named_by_key : (d : Keyed) (points : ℕ) (read driven : List (List ℕ)) (key : ℕ) → IsKept d points read driven → net_named (netlist d) (name_of d.nets key) ≡ record_at d.nets key
unfolding netlist
named_by_key d points read driven key h = step (record_at d.nets key) refl
  where
    step : (o : Option NetEntry) → record_at d.nets key ≡ o → find (λ n. same_name n.name (option_map_or (λ (m : NetEntry). m.name) o [])) (records_of d.nets) ≡ o
    step None at = no_name d.nets (each_from IsNet (λ e. e.1) d.nets h.lawful.nets)
    step (Some n) at = named_at d.nets key n (net_keys_apart d points read driven h) (nets_apart d points read driven h) at

pub drivers_by_key : (d : Keyed) (points : ℕ) (read driven : List (List ℕ)) (key : ℕ) → IsKept d points read driven → IsSome (record_at d.nets key) → drivers_of (netlist d) (name_of d.nets key) ≡ map (entry_in d.nets) (filter (λ g. drives_key g key) (records_of d.gates))
unfolding netlist
drivers_by_key d points read driven key h there = drivers_by_name d.nets d.gates key (net_keys_apart d points read driven h) (nets_apart d points read driven h) there h.keys.connected

pub gate_by_name : (d : Keyed) (points : ℕ) (read driven : List (List ℕ)) (key : ℕ) (g : KeyedGate) → IsKept d points read driven → record_at d.gates key ≡ Some g → gate_named (netlist d) g.name ≡ Some (entry_in d.nets g)
gate_by_name d points read driven key g h at =
    gate_named_is d g.name
    ∙ ap (λ (o : Option KeyedGate). option_map (entry_in d.nets) o) (named_as (λ (m : KeyedGate). m.name) d.gates key g (gate_keys_apart d points read driven h) (gates_apart d points read driven h) at)
