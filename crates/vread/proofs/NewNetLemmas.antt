-- Nets one after another, before a design has them.
use Rattle.std.proofs.Common.{◌≡◌, ◌+◌, ◌-◌, ◌<◌, ◌≤◌, ◌++◌, ℕ, suc, List, [], ◌∷◌, Some, None, Option, All, length, drop, get_or, map, refl, sym, ap, ◌∙◌, append_assoc, arith}
use Rattle.std.specs.List.{slice_get}
use Rattle.std.specs.Prelude.{flat_map}
use Rattle.std.proofs.lemmas.List.{append-nil, at_drop_all, at_drop_more}
use Rattle.std.proofs.lemmas.List.Elements.{All-tail}
use Rattle.design.specs.Netlist.{NetEntry}
use Rattle.vtext.specs.declared.net.Net as nets
use Rattle.vtext.specs.declared.range.Range.{Range}
use Rattle.vtext.specs.Modules.{ModuleEntry}
use Rattle.vtext.specs.Ranges.{index_at, indexes_from, width}
use Rattle.elaboration.specs.declared.node.Slot.{Slot}
use Rattle.elaboration.specs.kept.Numbered.{PlacedScope}
use Rattle.vread.specs.kept.Parts.{kept_nets, slot_nets, slots_nets}
use Rattle.vread.proofs.PairLemmas.{both_here, past_end, slots_end}

pub all_right : {X : Type 0} (P : X → Type 0) (xs ys : List X) → All P (xs ++ ys) → All P ys
all_right P [] ys all = all
all_right P (x ∷ xs) ys all = all_right P xs ys (All-tail P x (xs ++ ys) all)

-- a list that got a part more
pub part_more : {X : Type 0} (before now part rest all : List X) → now ≡ before ++ part → before ++ (part ++ rest) ≡ all → now ++ rest ≡ all
part_more before now part rest all e h = ap (λ l. l ++ rest) e ∙ append_assoc before part rest ∙ h

-- a list that lacks nothing
pub part_end : {X : Type 0} (now rest all : List X) → rest ≡ [] → now ++ rest ≡ all → now ≡ all
part_end now rest all e h = sym (append-nil now) ∙ ap (λ l. now ++ l) (sym e) ∙ h

-- The slots of a scope.

pub none_left : (names : List (List ℕ)) (path : List ℕ) (slots : List Slot) → slots_nets names path slots [] ≡ []
none_left names path [] = refl
none_left names path (slot ∷ slots) = refl

pub of_scope : (names : List (List ℕ)) (scope : PlacedScope) (slots : List Slot) (entry : ModuleEntry) → slots ≡ scope.slots → entry ≡ scope.entry → slots_nets names scope.path slots entry.nets ≡ kept_nets names scope
of_scope names scope slots entry is_slots is_entry =
    ap (λ (ss : List Slot). slots_nets names scope.path ss entry.nets) is_slots ∙ ap (λ (m : ModuleEntry). slots_nets names scope.path scope.slots m.nets) is_entry

module _ (names : List (List ℕ)) (path : List ℕ) (slots : List Slot) (listed : List (ℕ × nets.Net)) (i : ℕ) where
  -- the slot at a place comes first of those that are left
  pub slot_first : (slot : Slot) (net : ℕ × nets.Net) → i < length slots → Some net ≡ slice_get listed i
      → slots_nets names path (drop i slots) (drop i listed) ≡ slot_nets names path (get_or slots i slot) net ++ slots_nets names path (drop (i + 1) slots) (drop (i + 1) listed)
  slot_first slot net within is = both_here (slots_nets names path) slots listed i slot net within is

  pub no_net : ◌≡◌ {A = Option (ℕ × nets.Net)} None (slice_get listed i) → slots_nets names path (drop i slots) (drop i listed) ≡ []
  no_net none = at_drop_all (λ ns. slots_nets names path (drop i slots) ns) listed i (past_end listed i none) ∙ none_left names path (drop i slots)

  pub no_slot : length slots ≤ i → slots_nets names path (drop i slots) (drop i listed) ≡ []
  no_slot past = slots_end (slots_nets names path) slots listed i past

-- The scopes.
pub scope_first : (names : List (List ℕ)) (scopes : List PlacedScope) (i : ℕ) (scope : PlacedScope) → i < length scopes → scope ≡ get_or scopes i scope
    → flat_map (kept_nets names) (drop i scopes) ≡ kept_nets names scope ++ flat_map (kept_nets names) (drop (i + 1) scopes)
scope_first names scopes i scope within is =
    at_drop_more (flat_map (kept_nets names)) scopes i scope within ∙ ap (λ (s : PlacedScope). kept_nets names s ++ flat_map (kept_nets names) (drop (i + 1) scopes)) (sym is)

pub no_scope : (names : List (List ℕ)) (scopes : List PlacedScope) (i : ℕ) → length scopes ≤ i → flat_map (kept_nets names) (drop i scopes) ≡ []
no_scope names scopes i past = at_drop_all (flat_map (kept_nets names)) scopes i past

-- The bits of a vector, from a place on.
module _ (f : ℕ → NetEntry) (range : Range) (place : ℕ) where
  pub bit_first : (i : ℕ) → i ≡ index_at range place → place < width range
      → map f (indexes_from range place (width range - place)) ≡ f i ∷ map f (indexes_from range (place + 1) (width range - (place + 1)))
  bit_first i is within =
      let left : ℕ = width range - (place + 1) in
      let count : width range - place ≡ suc left = omega arith in
      ap (λ (n : ℕ). map f (indexes_from range place n)) count
      ∙ ap (λ (p : ℕ). f (index_at range place) ∷ map f (indexes_from range p left)) (omega arith)
      ∙ ap (λ (j : ℕ). f j ∷ map f (indexes_from range (place + 1) left)) (sym is)

  pub no_bit : width range ≤ place → map f (indexes_from range place (width range - place)) ≡ []
  no_bit past = let count : width range - place ≡ 0 = omega arith in ap (λ (n : ℕ). map f (indexes_from range place n)) count
