-- The lines of the gates at a net, by keys and by names.
use Rattle.std.proofs.Common.{◌≡◌, ◌≢◌, ℕ, suc, ◌<◌, ◌==◌, List, [], ◌∷◌, ◌++◌, length, map, Some, IsSome, Bool, true, false, refl, ap, ap₂, arith, ◌∙◌, All, AllPairs}
use Rattle.std.specs.List.{AllByRecursion, filter, flat_map, position_from, slice_index_or}
use Rattle.std.specs.Option.{option_map_or}
use Rattle.std.proofs.lemmas.Bool.{eqb-true, eq-eqb, false_from_ne_true}
use Rattle.std.proofs.lemmas.List.Elements.{recursion_from_All}
use Rattle.catalog.specs.Catalog.{record_at, records_of, same_name}
use Rattle.catalog.specs.kept.Catalog.{keys_of, place_of}
use Rattle.design.specs.Keys.{Keyed, KeyedGate, entry_in, name_of, named_gates, netlist}
use Rattle.design.specs.kept.Keys.{IsConnected, IsThere, drives_key, keys_where, reads_key}
use Rattle.design.specs.Netlist.{GateEntry, NetEntry, reads}
use Rattle.causes.specs.kept.KeyedLines.{lines_at_keys}
use Rattle.causes.proofs.NameLemmas.{ArePlaced, at_nets}

-- Gates by their keys.

found_first : (e : ℕ × KeyedGate) (es : List (ℕ × KeyedGate)) → record_at (e ∷ es) e.0 ≡ Some e.1
found_first e es = let here = eq-eqb e.0 e.0 refl in rw here refl

found_other : (e : ℕ × KeyedGate) (es : List (ℕ × KeyedGate)) (key : ℕ) → e.0 ≢ key → record_at (e ∷ es) key ≡ record_at es key
found_other e es key apart = let off : (e.0 == key) ≡ false = false_from_ne_true (e.0 == key) (λ t. apart (eqb-true e.0 key t)) in rw off refl

-- each of these entries is found by its key
abbrev AreAt : List (ℕ × KeyedGate) → List (ℕ × KeyedGate) → Type 0
AreAt gates entries = AllByRecursion (λ e. record_at gates e.0 ≡ Some e.1) entries

-- no two keys are the same
abbrev AreApart : List (ℕ × KeyedGate) → Type 0
AreApart [] = Unit {0}
AreApart (e ∷ es) = AllByRecursion (λ f. e.0 ≢ f.0) es × AreApart es

each_key : (P : ℕ → Type 0) (es : List (ℕ × KeyedGate)) → ((i d : ℕ) → i < length (keys_of es) → P (slice_index_or (keys_of es) i d)) → AllByRecursion (λ f. P f.0) es
each_key P [] each = tt
each_key P (e ∷ es) each = (each 0 e.0 (omega arith), each_key P es (λ i d within. each (suc i) d (omega arith)))

apart_from : (es : List (ℕ × KeyedGate)) → AllPairs (λ a b. a ≢ b) (keys_of es) → AreApart es
apart_from [] pairs = tt
apart_from (e ∷ es) pairs = (
  each_key (λ k. e.0 ≢ k) es (λ i d within. pairs 0 (suc i) d (omega arith) (omega arith)),
  apart_from es (λ i j d before within. pairs (suc i) (suc j) d (omega arith) (omega arith)),
)

at_behind : (e : ℕ × KeyedGate) (gates rest : List (ℕ × KeyedGate)) → AllByRecursion (λ f. e.0 ≢ f.0) rest → AreAt gates rest → AreAt (e ∷ gates) rest
at_behind e gates [] apart at = tt
at_behind e gates (f ∷ fs) apart at = (found_other e gates f.0 apart.0 ∙ at.0, at_behind e gates fs apart.1 at.1)

all_at : (es : List (ℕ × KeyedGate)) → AreApart es → AreAt es es
all_at [] apart = tt
all_at (e ∷ es) apart = (found_first e es, at_behind e es es apart.0 (all_at es apart.1))

abbrev AreConnected : List (ℕ × NetEntry) → List (ℕ × KeyedGate) → Type 0
AreConnected nets gates = AllByRecursion (λ e. IsConnected nets e.1) gates

connected_from : (nets : List (ℕ × NetEntry)) (gates : List (ℕ × KeyedGate)) → ((i : ℕ) (d : KeyedGate) → i < length (records_of gates) → IsConnected nets (slice_index_or (records_of gates) i d)) → AreConnected nets gates
connected_from nets [] each = tt
connected_from nets (e ∷ es) each = (each 0 e.1 (omega arith), connected_from nets es (λ i d within. each (suc i) d (omega arith)))

module _ (lines : GateEntry → List ℕ) (nets : List (ℕ × NetEntry)) where
  -- the lines of the gates that pass a test, by their entries
  abbrev pub lines_where : (ℕ × KeyedGate → Bool) → List (ℕ × KeyedGate) → List ℕ
  lines_where test entries = flat_map (λ e. lines (entry_in nets e.1)) (filter test entries)

  by_keys : (gates rest : List (ℕ × KeyedGate)) (test : ℕ × KeyedGate → Bool) → AreAt gates rest → lines_at_keys lines nets gates (keys_where test rest) ≡ lines_where test rest
  by_keys gates [] test at = refl
  by_keys gates (e ∷ es) test at =
      elim (test e) as (λ b. test e ≡ b → lines_at_keys lines nets gates (keys_where test (e ∷ es)) ≡ lines_where test (e ∷ es)) [
        | true ↦ λ h. rw h (ap₂ (λ a b. a ++ b) (ap (λ o. option_map_or (λ g. lines (entry_in nets g)) o []) at.0) (by_keys gates es test at.1))
        | false ↦ λ h. rw h (by_keys gates es test at.1)
      ] refl

  -- the lines of the gates that pass a test, by their keys
  pub lines_by_keys : (gates : List (ℕ × KeyedGate)) (test : ℕ × KeyedGate → Bool) → AllPairs (λ a b. a ≢ b) (keys_of gates)
      → lines_at_keys lines nets gates (keys_where test gates) ≡ lines_where test gates
  lines_by_keys gates test distinct = by_keys gates gates test (all_at gates (apart_from gates distinct))

  driving : (gates : List (ℕ × KeyedGate)) (test : KeyedGate → Bool)
      → lines_where (λ e. test e.1) gates ≡ flat_map lines (map (entry_in nets) (filter test (records_of gates)))
  driving [] test = refl
  driving (e ∷ es) test =
      elim (test e.1) as (λ b. test e.1 ≡ b → lines_where (λ f. test f.1) (e ∷ es) ≡ flat_map lines (map (entry_in nets) (filter test (records_of (e ∷ es))))) [
        | true ↦ λ h. rw h (ap (λ ws. lines (entry_in nets e.1) ++ ws) (driving es test))
        | false ↦ λ h. rw h (driving es test)
      ] refl

  -- those of the gates that drive a net
  pub driver_lines : (gates : List (ℕ × KeyedGate)) (key : ℕ) → AllPairs (λ a b. a ≢ b) (keys_of gates)
      → lines_at_keys lines nets gates (keys_where (λ e. drives_key e.1 key) gates) ≡ flat_map lines (map (entry_in nets) (filter (λ g. drives_key g key) (records_of gates)))
  driver_lines gates key distinct = lines_by_keys gates (λ e. drives_key e.1 key) distinct ∙ driving gates (λ g. drives_key g key)

  reading : (gates : List (ℕ × KeyedGate)) (key : ℕ) → ArePlaced nets → IsSome (record_at nets key) → AreConnected nets gates
      → lines_where (λ e. reads_key e.1 key) gates ≡ flat_map lines (filter (λ g. reads g (name_of nets key)) (records_of (named_gates nets gates)))
  reading [] key placed there each = refl
  reading (e ∷ es) key placed there each =
      let same : reads (entry_in nets e.1) (name_of nets key) ≡ reads_key e.1 key =
      at_nets nets key e.1.inputs placed there (recursion_from_All (IsThere nets) e.1.inputs each.0.inputs) in
      let more = reading es key placed there each.1 in
      elim (reads_key e.1 key) as (λ b. reads_key e.1 key ≡ b
      → lines_where (λ f. reads_key f.1 key) (e ∷ es) ≡ flat_map lines (filter (λ g. reads g (name_of nets key)) (records_of (named_gates nets (e ∷ es))))) [
        | true ↦ λ h. let h' = same ∙ h in rw (h, h') (ap (λ ws. lines (entry_in nets e.1) ++ ws) more)
        | false ↦ λ h. let h' = same ∙ h in rw (h, h') more
      ] refl

  -- and of those that read one
  pub reader_lines : (gates : List (ℕ × KeyedGate)) (key : ℕ) → ArePlaced nets → IsSome (record_at nets key) → All (IsConnected nets) (records_of gates)
      → AllPairs (λ a b. a ≢ b) (keys_of gates)
      → lines_at_keys lines nets gates (keys_where (λ e. reads_key e.1 key) gates) ≡ flat_map lines (filter (λ g. reads g (name_of nets key)) (records_of (named_gates nets gates)))
  reader_lines gates key placed there connected distinct =
      lines_by_keys gates (λ e. reads_key e.1 key) distinct ∙ reading gates key placed there (connected_from nets gates connected)

-- the gates of the design by names
pub gates_of : (d : Keyed) → (netlist d).gates ≡ records_of (named_gates d.nets d.gates)
unfolding netlist
gates_of d = refl

-- the place of the name of a net is that of its key
pub places_by_name : (d : Keyed) → ((key : ℕ) → IsSome (record_at d.nets key) → position_from (λ n. same_name n.name (name_of d.nets key)) 0 (netlist d).nets ≡ place_of d.nets key) → ArePlaced d.nets
unfolding netlist
places_by_name d places = places
