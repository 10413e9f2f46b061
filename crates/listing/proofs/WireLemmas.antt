-- The gates at a net, by keys and by names.
use Rattle.std.proofs.Common.{◌≡◌, ◌≢◌, ℕ, suc, ◌+◌, ◌<◌, ◌≤◌, ◌==◌, ◌||◌, List, [], ◌∷◌, ◌++◌, length, map, Some, IsSome, Bool, true, false, refl, ap, ap₂, arith, sym, ◌∙◌, All, AllPairs}
use Rattle.std.specs.List.{AllByRecursion, filter, flat_map, list_any, position_from, slice_index_or}
use Rattle.std.specs.Option.{option_map_or}
use Rattle.std.proofs.lemmas.Bool.{eqb-true, eq-eqb, false_from_ne_true}
use Rattle.std.proofs.lemmas.List.Elements.{recursion_from_All}
use Rattle.std.proofs.lemmas.Slice.Eq.{bytes_eq-Decides}
use Rattle.catalog.specs.Catalog.{record_at, records_of, same_name}
use Rattle.catalog.specs.kept.Catalog.{keys_of, place_of}
use Rattle.design.specs.declared.terminal.Terminal.{Terminal}
use Rattle.design.specs.declared.terminal.Terminal.TheVariants.{Net, Constant}
use Rattle.design.specs.Keys.{KeyedGate, connection_in, entry_in, name_of, named_gates}
use Rattle.design.specs.kept.Keys.{IsConnected, IsThere, drives_key, is_at, keys_where, reads_key}
use Rattle.design.specs.Netlist.{NetEntry, is_at_net, reads}
use Rattle.listing.specs.Lines.{name_line}
use Rattle.listing.specs.Listings.{gate_names}
use Rattle.listing.specs.kept.Listings.{names_at}

-- Gates by their keys.

found_first : (e : ℕ × KeyedGate) (es : List (ℕ × KeyedGate)) → record_at (e ∷ es) e.0 ≡ Some e.1
found_first e es = let here = eq-eqb e.0 e.0 refl in rw here refl

found_other : (e : ℕ × KeyedGate) (es : List (ℕ × KeyedGate)) (key : ℕ) → e.0 ≢ key → record_at (e ∷ es) key ≡ record_at es key
found_other e es key apart = let off : (e.0 == key) ≡ false = false_from_ne_true (e.0 == key) (λ t. apart (eqb-true e.0 key t)) in rw off refl

-- each of these entries is found by its key
abbrev AreAt : List (ℕ × KeyedGate) → List (ℕ × KeyedGate) → Type 0
AreAt gates entries = AllByRecursion (λ e. record_at gates e.0 ≡ Some e.1) entries

-- no two keys are the same
abbrev AreApart : List (ℕ × KeyedGate) → Type 0
AreApart [] = Unit {0}
AreApart (e ∷ es) = AllByRecursion (λ f. e.0 ≢ f.0) es × AreApart es

each_key : (P : ℕ → Type 0) (es : List (ℕ × KeyedGate)) → ((i d : ℕ) → i < length (keys_of es) → P (slice_index_or (keys_of es) i d)) → AllByRecursion (λ f. P f.0) es
each_key P [] each = tt
each_key P (e ∷ es) each = (each 0 e.0 (omega arith), each_key P es (λ i d within. each (suc i) d (omega arith)))

apart_from : (es : List (ℕ × KeyedGate)) → AllPairs (λ a b. a ≢ b) (keys_of es) → AreApart es
apart_from [] pairs = tt
apart_from (e ∷ es) pairs = (
  each_key (λ k. e.0 ≢ k) es (λ i d within. pairs 0 (suc i) d (omega arith) (omega arith)),
  apart_from es (λ i j d before within. pairs (suc i) (suc j) d (omega arith) (omega arith)),
)

at_behind : (e : ℕ × KeyedGate) (gates rest : List (ℕ × KeyedGate)) → AllByRecursion (λ f. e.0 ≢ f.0) rest → AreAt gates rest → AreAt (e ∷ gates) rest
at_behind e gates [] apart at = tt
at_behind e gates (f ∷ fs) apart at = (found_other e gates f.0 apart.0 ∙ at.0, at_behind e gates fs apart.1 at.1)

all_at : (es : List (ℕ × KeyedGate)) → AreApart es → AreAt es es
all_at [] apart = tt
all_at (e ∷ es) apart = (found_first e es, at_behind e es es apart.0 (all_at es apart.1))

-- the names of the gates that pass a test, by their entries
abbrev lines_where : (ℕ × KeyedGate → Bool) → List (ℕ × KeyedGate) → List ℕ
lines_where test entries = flat_map (λ e. name_line e.1.name) (filter test entries)

names_where : (gates rest : List (ℕ × KeyedGate)) (test : ℕ × KeyedGate → Bool) → AreAt gates rest → names_at gates (keys_where test rest) ≡ lines_where test rest
names_where gates [] test at = refl
names_where gates (e ∷ es) test at =
    elim (test e) as (λ b. test e ≡ b → names_at gates (keys_where test (e ∷ es)) ≡ lines_where test (e ∷ es)) [
      | true ↦ λ h. rw h (ap₂ (λ a b. a ++ b) (ap (λ o. name_line (option_map_or (λ g. g.name) o [])) at.0) (names_where gates es test at.1))
      | false ↦ λ h. rw h (names_where gates es test at.1)
    ] refl

-- Drivers.

driving : (nets : List (ℕ × NetEntry)) (gates : List (ℕ × KeyedGate)) (test : KeyedGate → Bool)
    → lines_where (λ e. test e.1) gates ≡ gate_names (map (entry_in nets) (filter test (records_of gates)))
driving nets [] test = refl
driving nets (e ∷ es) test =
    elim (test e.1) as (λ b. test e.1 ≡ b → lines_where (λ f. test f.1) (e ∷ es) ≡ gate_names (map (entry_in nets) (filter test (records_of (e ∷ es))))) [
      | true ↦ λ h. rw h (ap (λ ws. name_line e.1.name ++ ws) (driving nets es test))
      | false ↦ λ h. rw h (driving nets es test)
    ] refl

pub driver_names : (nets : List (ℕ × NetEntry)) (gates : List (ℕ × KeyedGate)) (key : ℕ) → AllPairs (λ a b. a ≢ b) (keys_of gates)
    → names_at gates (keys_where (λ e. drives_key e.1 key) gates) ≡ gate_names (map (entry_in nets) (filter (λ g. drives_key g key) (records_of gates)))
driver_names nets gates key distinct =
    names_where gates gates (λ e. drives_key e.1 key) (all_at gates (apart_from gates distinct)) ∙ driving nets gates (λ g. drives_key g key)

-- Readers.

-- the place of a key is that of its name
abbrev pub ArePlaced : List (ℕ × NetEntry) → Type 0
ArePlaced nets = (key : ℕ) → IsSome (record_at nets key) → position_from (λ n. same_name n.name (name_of nets key)) 0 (records_of nets) ≡ place_of nets key

above : (test : ℕ × NetEntry → Bool) (i k : ℕ) (es : List (ℕ × NetEntry)) → position_from test i es ≡ Some k → i ≤ k
above test i k [] found = absurd (cc)
above test i k (e ∷ es) found =
    elim (test e) as (λ b. test e ≡ b → i ≤ k) [
      | true ↦ λ h. let same : i ≡ k = (let at = rw h at found in cc) in omega arith
      | false ↦ λ h. let later = above test (i + 1) k es (rw h at found) in omega arith
    ] refl

not_first : (test : ℕ × NetEntry → Bool) (i : ℕ) (es : List (ℕ × NetEntry)) → position_from test (i + 1) es ≡ Some i → ⊥
not_first test i es found = let late = above test (i + 1) i es found in omega arith

same_key : (es : List (ℕ × NetEntry)) (a b i : ℕ) → IsSome (record_at es a) → position_from (λ e. e.0 == a) i es ≡ position_from (λ e. e.0 == b) i es → a ≡ b
same_key [] a b i there same = absurd (cc)
same_key (e ∷ es) a b i there same =
    elim (e.0 == a) as (λ p. (e.0 == a) ≡ p → a ≡ b) [
      | true ↦ λ h. elim (e.0 == b) as (λ q. (e.0 == b) ≡ q → a ≡ b) [
        | true ↦ λ k. sym (eqb-true e.0 a h) ∙ eqb-true e.0 b k
        | false ↦ λ k. absurd (not_first (λ f. f.0 == b) i es (sym (rw (h, k) at same)))
      ] refl
      | false ↦ λ h. elim (e.0 == b) as (λ q. (e.0 == b) ≡ q → a ≡ b) [
        | true ↦ λ k. absurd (not_first (λ f. f.0 == a) i es (rw (h, k) at same))
        | false ↦ λ k. same_key es a b (i + 1) (rw h at there) (rw (h, k) at same)
      ] refl
    ] refl

named_alike : (nets : List (ℕ × NetEntry)) (a b : ℕ) → ArePlaced nets → IsSome (record_at nets a) → IsSome (record_at nets b)
    → same_name (name_of nets a) (name_of nets b) ≡ true → a ≡ b
named_alike nets a b placed there there' alike =
    let same : name_of nets a ≡ name_of nets b = (bytes_eq-Decides (name_of nets a) (name_of nets b)).0 alike in
    same_key nets a b 0 there
    (sym (placed a there) ∙ (ap (λ name. position_from (λ n. same_name n.name name) 0 (records_of nets)) same ∙ placed b there'))

at_net : (nets : List (ℕ × NetEntry)) (key : ℕ) (terminal : Terminal) → ArePlaced nets → IsSome (record_at nets key) → IsThere nets terminal
    → is_at_net (name_of nets key) (connection_in nets terminal) ≡ is_at terminal key
at_net nets key (Constant v) placed there there' = refl
at_net nets key (Net k) placed there there' =
    elim (key == k) as (λ b. (key == k) ≡ b → same_name (name_of nets k) (name_of nets key) ≡ (key == k)) [
      | true ↦ λ h.
          let same : k ≡ key = sym (eqb-true key k h) in
          (bytes_eq-Decides (name_of nets k) (name_of nets key)).1 (ap (name_of nets) same) ∙ sym h
      | false ↦ λ h.
          false_from_ne_true (same_name (name_of nets k) (name_of nets key))
          (λ alike. let same : key ≡ k = sym (named_alike nets k key placed there' there alike) in let on = eq-eqb key k same in cc) ∙ sym h
    ] refl

at_nets : (nets : List (ℕ × NetEntry)) (key : ℕ) (inputs : List Terminal) → ArePlaced nets → IsSome (record_at nets key) → AllByRecursion (IsThere nets) inputs
    → list_any (is_at_net (name_of nets key)) (map (connection_in nets) inputs) ≡ list_any (λ terminal. is_at terminal key) inputs
at_nets nets key [] placed there each = refl
at_nets nets key (x ∷ xs) placed there each = ap₂ (λ a b. a || b) (at_net nets key x placed there each.0) (at_nets nets key xs placed there each.1)

abbrev AreConnected : List (ℕ × NetEntry) → List (ℕ × KeyedGate) → Type 0
AreConnected nets gates = AllByRecursion (λ e. IsConnected nets e.1) gates

connected_from : (nets : List (ℕ × NetEntry)) (gates : List (ℕ × KeyedGate)) → ((i : ℕ) (d : KeyedGate) → i < length (records_of gates) → IsConnected nets (slice_index_or (records_of gates) i d)) → AreConnected nets gates
connected_from nets [] each = tt
connected_from nets (e ∷ es) each = (each 0 e.1 (omega arith), connected_from nets es (λ i d within. each (suc i) d (omega arith)))

reading : (nets : List (ℕ × NetEntry)) (gates : List (ℕ × KeyedGate)) (key : ℕ) → ArePlaced nets → IsSome (record_at nets key) → AreConnected nets gates
    → lines_where (λ e. reads_key e.1 key) gates ≡ gate_names (filter (λ g. reads g (name_of nets key)) (records_of (named_gates nets gates)))
reading nets [] key placed there each = refl
reading nets (e ∷ es) key placed there each =
    let same : reads (entry_in nets e.1) (name_of nets key) ≡ reads_key e.1 key =
    at_nets nets key e.1.inputs placed there (recursion_from_All (IsThere nets) e.1.inputs each.0.inputs) in
    let more = reading nets es key placed there each.1 in
    elim (reads_key e.1 key) as (λ b. reads_key e.1 key ≡ b
    → lines_where (λ f. reads_key f.1 key) (e ∷ es) ≡ gate_names (filter (λ g. reads g (name_of nets key)) (records_of (named_gates nets (e ∷ es))))) [
      | true ↦ λ h. let h' = same ∙ h in rw (h, h') (ap (λ ws. name_line e.1.name ++ ws) more)
      | false ↦ λ h. let h' = same ∙ h in rw (h, h') more
    ] refl

pub reader_names : (nets : List (ℕ × NetEntry)) (gates : List (ℕ × KeyedGate)) (key : ℕ) → ArePlaced nets → IsSome (record_at nets key) → All (IsConnected nets) (records_of gates)
    → AllPairs (λ a b. a ≢ b) (keys_of gates)
    → names_at gates (keys_where (λ e. reads_key e.1 key) gates) ≡ gate_names (filter (λ g. reads g (name_of nets key)) (records_of (named_gates nets gates)))
reader_names nets gates key placed there connected distinct =
    names_where gates gates (λ e. reads_key e.1 key) (all_at gates (apart_from gates distinct))
    ∙ reading nets gates key placed there (connected_from nets gates connected)
