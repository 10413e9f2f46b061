-- Slots and nets side by side, one after another.
use Rattle.std.proofs.Common.{◌≡◌, ℕ, ◌+◌, ◌<◌, ◌≤◌, Bool, true, false, ◌||◌, List, [], ◌∷◌, length, drop, get_or, Option, Some, None, ◌⊎◌, inl, inr, refl, sym, ap, ◌∙◌}
use Rattle.std.specs.List.{slice_get}
use Rattle.std.proofs.lemmas.List.{at_drop_all, at_drop_more}
use Rattle.std.proofs.lemmas.Option.{get_or_from_slice_get, slice_get_cases, slice_get_within}
use Rattle.vtext.specs.declared.net.Net as nets
use Rattle.elaboration.specs.declared.node.Slot.{Slot}
use Rattle.fourstate.specs.declared.net.NetKind.TheVariants.{Wire}
use Rattle.vtext.specs.Modules.{ModuleEntry}
use Rattle.elaboration.specs.declared.node.Slot.TheVariants.{Own}
use Rattle.elaboration.specs.kept.Numbered.{PlacedScope}
use Rattle.vread.specs.kept.Parts.{any_slot}

module _ {Y : Type 0} (F : List Slot → List (ℕ × nets.Net) → Y) (slots : List Slot) (listed : List (ℕ × nets.Net)) (i : ℕ) where
  -- both have an item here
  pub both_here : (slot : Slot) (net : ℕ × nets.Net) → i < length slots → Some net ≡ slice_get listed i
      → F (drop i slots) (drop i listed) ≡ F (get_or slots i slot ∷ drop (i + 1) slots) (net ∷ drop (i + 1) listed)
  both_here slot net within is =
      at_drop_more (λ ss. F ss (drop i listed)) slots i slot within
      ∙ at_drop_more (λ ns. F (get_or slots i slot ∷ drop (i + 1) slots) ns) listed i net (slice_get_within listed i net (sym is))
      ∙ ap (λ (n : ℕ × nets.Net). F (get_or slots i slot ∷ drop (i + 1) slots) (n ∷ drop (i + 1) listed)) (get_or_from_slice_get listed i net net (sym is))

  pub slots_end : length slots ≤ i → F (drop i slots) (drop i listed) ≡ F [] (drop i listed)
  slots_end past = at_drop_all (λ ss. F ss (drop i listed)) slots i past

pub past_end : {X : Type 0} (xs : List X) (i : ℕ) → ◌≡◌ {A = Option X} None (slice_get xs i) → length xs ≤ i
past_end {X} xs i none = ends (slice_get_cases xs i).1
  where
    ends : ((x : X) × (i < length xs) × (slice_get xs i ≡ Some x) × (get_or xs i x ≡ x)) ⊎ ((length xs ≤ i) × (slice_get xs i ≡ None)) → length xs ≤ i
    ends (inl here) = let both : None ≡ Some here.0 = none ∙ here.2 in absurd (cc)
    ends (inr past) = past.0

none_any : (p : Slot → ℕ × nets.Net → Bool) (slots : List Slot) → any_slot p slots [] ≡ false
none_any p [] = refl
none_any p (slot ∷ slots) = refl

-- Whether one passes.
module _ (p : Slot → ℕ × nets.Net → Bool) (slots : List Slot) (listed : List (ℕ × nets.Net)) (i : ℕ) (before : any_slot p (drop i slots) (drop i listed) ≡ any_slot p slots listed) where
  pub any_here : (slot : Slot) (net : ℕ × nets.Net) → i < length slots → Some net ≡ slice_get listed i → p (get_or slots i slot) net ≡ true → true ≡ any_slot p slots listed
  any_here slot net within is passes =
      sym (sym before ∙ both_here (any_slot p) slots listed i slot net within is
      ∙ ap (λ (b : Bool). b || any_slot p (drop (i + 1) slots) (drop (i + 1) listed)) passes)

  pub any_past : (slot : Slot) (net : ℕ × nets.Net) → i < length slots → Some net ≡ slice_get listed i → p (get_or slots i slot) net ≡ false
      → any_slot p (drop (i + 1) slots) (drop (i + 1) listed) ≡ any_slot p slots listed
  any_past slot net within is fails =
      sym (sym before ∙ both_here (any_slot p) slots listed i slot net within is
      ∙ ap (λ (b : Bool). b || any_slot p (drop (i + 1) slots) (drop (i + 1) listed)) fails)

  pub any_slots_end : length slots ≤ i → false ≡ any_slot p slots listed
  any_slots_end past = sym (sym before ∙ slots_end (any_slot p) slots listed i past)

  pub any_nets_end : ◌≡◌ {A = Option (ℕ × nets.Net)} None (slice_get listed i) → false ≡ any_slot p slots listed
  any_nets_end none =
      sym (sym before ∙ at_drop_all (λ ns. any_slot p (drop i slots) ns) listed i (past_end listed i none) ∙ none_any p (drop i slots))

-- a slot of which nothing is said
abbrev pub blank_slot : Slot
blank_slot = Own (record { place = 0; width = 0; kind = Wire; is_input = false })

-- The same where lists are those of a scope.
module _ (p : Slot → ℕ × nets.Net → Bool) (scope : PlacedScope) (slots : List Slot) (entry : ModuleEntry) (is_slots : slots ≡ scope.slots) (is_entry : entry ≡ scope.entry) where
  pub of_scope : any_slot p slots entry.nets ≡ any_slot p scope.slots scope.entry.nets
  of_scope = ap (λ (ss : List Slot). any_slot p ss entry.nets) is_slots ∙ ap (λ (m : ModuleEntry). any_slot p scope.slots m.nets) is_entry
