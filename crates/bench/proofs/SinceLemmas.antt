-- Since which version each net has its wave, through a commit.
use Rattle.std.proofs.Common.{◌≡◌, ◌∙◌, ◌⊎◌, ap, sym, subst, refl, inl, inr, ℕ, Bool, true, false, List, Option, Some, None}
use Rattle.std.specs.Prelude.{IsSome}
use Rattle.std.specs.Option.{option_map, option_map_or}
use Rattle.gatestep.specs.Step.{advance}
use Rattle.design.specs.Keys.{Keyed, name_of, netlist}
use Rattle.design.specs.kept.Keys.{AreKeys, net_by_key, net_key}
use Rattle.design.specs.kept.Lawful.{IsDesign}
use Rattle.design.specs.Netlist.{NetEntry, net_named}
use Rattle.scratch.specs.Run.{wave_of}
use Rattle.rundiff.specs.kept.Changed.{AreChanged}
use Rattle.bench.specs.kept.Since.{HasSince, KeepsName, since_key, since_name}
use Rattle.bench.specs.declared.since.Since.{Since}
use Rattle.bench.proofs.KeyLemmas.{IsNamed, key_of_net, name_at, named_net, no_net, there}

-- the same version by key is the same by name
pub same_versions : (before now : Since) (d : Keyed) → ((key : ℕ) → since_key now key ≡ since_key before key) → now.gone ≡ before.gone → (name : List ℕ) → since_name now d name ≡ since_name before d name
same_versions before now d keys gone name = by_key (net_key d name)
  where
    by_key : (o : Option ℕ) → option_map_or (since_key now) o now.gone ≡ option_map_or (since_key before) o before.gone
    by_key None = gone
    by_key (Some key) = keys key

-- `Design::lawful` and `Design::names_are_keys`
pub record IsLawful (d : Keyed) : Type 0 where
  pub design : IsDesign (netlist d)
  pub keys : AreKeys d
  pub names : (key : ℕ) → net_named (netlist d) (name_of d.nets key) ≡ net_by_key d key

named_is : (d : Keyed) → IsLawful d → (name : List ℕ) (key : ℕ) (n : NetEntry) → IsNamed d name key n → net_named (netlist d) name ≡ net_by_key d key
named_is d is name key n net = ap (net_named (netlist d)) (sym net.named ∙ sym (name_at d key n net.under)) ∙ is.names key

module _ (version : ℕ) (old new : Keyed) (old_is : IsLawful old) (new_is : IsLawful new) (has_changed : ℕ → Bool) (are : AreChanged advance old new has_changed) (before now : Since)
    (changed : (key : ℕ) → has_changed key ≡ true → since_key now key ≡ version)
    (others : (key : ℕ) → has_changed key ≡ false → since_key now key ≡ since_key before key)
    (gone : (now.gone ≡ version) ⊎ ((now.gone ≡ before.gone) × ((key : ℕ) → KeepsName old new key))) where
  -- the version of a name by the key of its net
  abbrev by_key_now : Option ℕ → ℕ
  by_key_now o = option_map_or (since_key now) o now.gone

  abbrev by_key_before : Option ℕ → ℕ
  by_key_before o = option_map_or (since_key before) o before.gone

  -- the net of the name has not changed
  stays : (name : List ℕ) (key : ℕ) → net_key new name ≡ Some key → has_changed key ≡ false → HasSince version old new before now name
  stays name key found off =
      let net = named_net new new_is.keys name key found in
      let n : NetEntry = net.0 in
      let is : IsNamed new name key n = net.1 in
      let under : net_by_key old key ≡ Some n = sym (are.nets_stay key off) ∙ is.under in
      let was : IsNamed old name key n = record { under = under; named = is.named } in
      let key_was : net_key old name ≡ Some key = ap (net_key old) (sym is.named) ∙ key_of_net old old_is.design key n under in
      inr (
        ap by_key_now found ∙ others key off ∙ sym (ap by_key_before key_was),
        ap (option_map (wave_of advance (netlist new))) (named_is new new_is name key n is)
            ∙ are.waves_stay key off
            ∙ ap (option_map (wave_of advance (netlist old))) (sym (named_is old old_is name key n was)),
      )

  -- no net of the old design has the name, where no name is gone
  none_before : ((key : ℕ) → KeepsName old new key) → (name : List ℕ) → net_key new name ≡ None → (o : Option ℕ) → net_key old name ≡ o → net_key old name ≡ None
  none_before keeps name absent None none = none
  none_before keeps name absent (Some key) found =
      let net = named_net old old_is.keys name key found in
      let n : NetEntry = net.0 in
      let is : IsNamed old name key n = net.1 in
      let kept = keeps key (subst (λ (o : Option NetEntry). IsSome o) (sym is.under) refl) in
      let now_there = there (net_by_key new key) kept.0 in
      let m : NetEntry = now_there.0 in
      let named : m.name ≡ name = sym (name_at new key m now_there.1) ∙ kept.1 ∙ name_at old key n is.under ∙ is.named in
      let some : net_key new name ≡ Some key = ap (net_key new) (sym named) ∙ key_of_net new new_is.design key m now_there.1 in
      let no : ◌≡◌ {A = Option ℕ} None (Some key) = sym absent ∙ some in
      absurd (cc)

  pub has_since : (name : List ℕ) → HasSince version old new before now name
  has_since name = by_key (net_key new name) refl
    where
      by_gone : net_key new name ≡ None → (now.gone ≡ version) ⊎ ((now.gone ≡ before.gone) × ((key : ℕ) → KeepsName old new key)) → HasSince version old new before now name
      by_gone absent (inl is) = inl (ap by_key_now absent ∙ is)
      by_gone absent (inr kept) =
          let none = none_before kept.1 name absent (net_key old name) refl in
          inr (
            ap by_key_now absent ∙ kept.0 ∙ sym (ap by_key_before none),
            ap (option_map (wave_of advance (netlist new))) (no_net new name absent)
                ∙ sym (ap (option_map (wave_of advance (netlist old))) (no_net old name none)),
          )

      by_change : (key : ℕ) → net_key new name ≡ Some key → (b : Bool) → has_changed key ≡ b → HasSince version old new before now name
      by_change key found true on = inl (ap by_key_now found ∙ changed key on)
      by_change key found false off = stays name key found off

      by_key : (o : Option ℕ) → net_key new name ≡ o → HasSince version old new before now name
      by_key None absent = by_gone absent gone
      by_key (Some key) found = by_change key found (has_changed key) refl
