-- Nets and gates by their keys, and their places.
use Rattle.std.proofs.Common.{◌≡◌, false, ℕ, ◌<◌, ◌∙◌, ap, sym, refl, List, length, Option, Some, None, find, eqb-true, option_map, ◌==◌, IsSome, is_some, slice_get}
use Rattle.std.proofs.lemmas.Option.{same_Some, slice_get-map, slice_get_within, get_or_from_slice_get}
use Rattle.catalog.specs.Catalog.{record_at, records_of}
use Rattle.catalog.specs.kept.Catalog.{keys_of, place_of}
use Rattle.catalog.proofs.EntryLemmas.{entry_at as entry_facts}
use Rattle.catalog.proofs.ListLemmas.{find_passes, position_slice_get}
use Rattle.design.specs.Keys.{Keyed, KeyedGate, entry_in, netlist}
use Rattle.design.specs.kept.Keys.{AreKeys, IsConnected, gate_by_key, net_by_key}
use Rattle.design.specs.Netlist.{NetEntry}
use Rattle.design.proofs.ByNameLemmas.{all_at, gate_at_is}
use Rattle.edits.proofs.TouchLemmas.{there_of}
use Rattle.rundiff.specs.kept.Places.{blank_gate, blank_net, gate_at, net_at}
use Rattle.rundiff.proofs.ReaderKeys.{placed}

pub some_mapped : {X Y : Type 0} (f : X → Y) (o : Option X) (y : Y) → Some y ≡ option_map f o → (x : X) × (o ≡ Some x) × (y ≡ f x)
some_mapped f None y is = absurd (let no : ◌≡◌ {A = Option _} (Some y) None = is in cc)
some_mapped f (Some x) y is = (x, refl, same_Some y (f x) is)

-- a record under a key stands at a place
entry_placed : {X : Type 0} (es : List (ℕ × X)) (key : ℕ) (x : X) → record_at es key ≡ Some x → (p : ℕ) × (place_of es key ≡ Some p) × (slice_get es p ≡ Some (key, x))
entry_placed {X} es key x found =
    let at = some_mapped (λ (e : ℕ × X). e.1) (find (λ e. e.0 == key) es) x (sym found) in
    let place = placed es key (ap (λ (o : Option X). is_some o) found) in
    let k = eqb-true at.0.0 key (find_passes (λ e. e.0 == key) es at.0 at.1) in
    let r = sym at.2 in (place.0, place.1, position_slice_get (λ e. e.0 == key) place.0 es place.1 ∙ at.1 ∙ λ i. Some (k i, r i))

-- a net by its key and its place
pub record IsNetAt (d : Keyed) (key p : ℕ) (n : NetEntry) : Type 0 where
  pub place : place_of d.nets key ≡ Some p
  pub under : slice_get (keys_of d.nets) p ≡ Some key
  pub low : p < length (netlist d).nets
  pub net : net_at (netlist d) p ≡ n

pub net_placed : (d : Keyed) (key : ℕ) (n : NetEntry) → net_by_key d key ≡ Some n → (p : ℕ) × IsNetAt d key p n
unfolding netlist
net_placed d key n found =
    let one = entry_placed d.nets key n found in let p : ℕ = one.0 in
    let record_there = slice_get-map (λ (e : ℕ × NetEntry). e.1) d.nets p ∙ ap (option_map (λ (e : ℕ × NetEntry). e.1)) one.2 in (
      p,
      record {
        place = one.1;
        under = slice_get-map (λ (e : ℕ × NetEntry). e.0) d.nets p ∙ ap (option_map (λ (e : ℕ × NetEntry). e.0)) one.2;
        low = slice_get_within (records_of d.nets) p n record_there;
        net = get_or_from_slice_get (records_of d.nets) p n blank_net record_there;
      },
    )

-- a gate by its key and its place
pub record IsGateAt (d : Keyed) (key p : ℕ) (g : KeyedGate) : Type 0 where
  pub under : slice_get (keys_of d.gates) p ≡ Some key
  pub low : p < length (netlist d).gates
  pub gate : gate_at (netlist d) p ≡ entry_in d.nets g
  pub output : IsSome (net_by_key d g.output)

pub gate_placed : (d : Keyed) → AreKeys d → (key : ℕ) (g : KeyedGate) → gate_by_key d key ≡ Some g → (p : ℕ) × IsGateAt d key p g
gate_placed d keys key g found =
    let one = entry_placed d.gates key g found in let p : ℕ = one.0 in
    let facts = entry_facts d.gates keys.distinct_gates p (key, g) one.2 in
    let there : slice_get (netlist d).gates p ≡ Some (entry_in d.nets g) = gate_at_is d p ∙ ap (option_map (entry_in d.nets)) facts.item in
    let connected : IsConnected d.nets g = all_at (IsConnected d.nets) (records_of d.gates) p g keys.connected facts.item in (
      p,
      record {
        under = facts.key;
        low = slice_get_within (netlist d).gates p (entry_in d.nets g) there;
        gate = get_or_from_slice_get (netlist d).gates p (entry_in d.nets g) blank_gate there;
        output = there_of (net_by_key d g.output) (λ n. n.is_input ≡ false) connected.output;
      },
    )
