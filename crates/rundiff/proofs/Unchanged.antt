-- Nets whose waves are those of the old run.
use Rattle.std.proofs.Common.{◌≡◌, ℕ, suc, ◌<◌, ◌∙◌, ap, sym, refl, List, [], true, false, length, Option, Some, None, slice_get}
use Rattle.std.specs.Option.{option_map, option_map_or}
use Rattle.fourstate.specs.declared.value.Value.{Value}
use Rattle.fourstate.specs.Values.{same_value}
use Rattle.gatestep.specs.Step.{State, Evaluation}
use Rattle.catalog.specs.kept.Catalog.{keys_of}
use Rattle.design.specs.Keys.{Keyed, name_of, netlist}
use Rattle.design.specs.kept.Keys.{net_by_key}
use Rattle.design.specs.Netlist.{NetEntry, net_named}
use Rattle.edits.specs.kept.Touched.{IsTouched, is_touched}
use Rattle.waveform.specs.Entries.{standing}
use Rattle.waveform.specs.kept.Patches.{PatchRecord}
use Rattle.scratch.specs.Run.{wave_of}
use Rattle.rundiff.specs.kept.Changed.{AreChanged}
use Rattle.rundiff.specs.kept.Finishing.{new_wave}
use Rattle.rundiff.specs.kept.Fronts.{AreWaves}
use Rattle.rundiff.specs.kept.PlaceMaps.{kept_at}
use Rattle.rundiff.specs.kept.Places.{is_among, net_at}
use Rattle.rundiff.specs.declared.place_map.PlaceMap.{PlaceMap}
use Rattle.rundiff.proofs.ByKey.{IsNetAt, net_placed}
use Rattle.rundiff.proofs.Finished.{SameChanges, unmoved_wave}
use Rattle.rundiff.proofs.Lists.{not_so}

module _ (answer : Evaluation → ℕ → State) (old new : Keyed)
    (names : (key : ℕ) → net_named (netlist old) (name_of old.nets key) ≡ net_by_key old key)
    (same_end : (netlist new).horizon ≡ (netlist old).horizon) (law : SameChanges same_value standing)
    (patches : PlaceMap (PatchRecord Value)) (waves : AreWaves answer (netlist old) (netlist new) patches (suc (netlist new).horizon)) where
  -- a net that both designs have, without a patch
  wave_stays : (key p : ℕ) → p < length (netlist new).nets → net_by_key old key ≡ Some (net_at (netlist new) p) → kept_at patches p ≡ None →
      wave_of answer (netlist old) (net_at (netlist new) p) ≡ wave_of answer (netlist new) (net_at (netlist new) p)
  wave_stays key p low found none =
      let x = net_at (netlist new) p in
      let is_name : name_of old.nets key ≡ x.name = ap (λ (o : Option NetEntry). option_map_or (λ n. n.name) o []) found in
      unmoved_wave answer (netlist old) (netlist new) same_end law x (kept_at patches p) none (waves p low) (ap (net_named (netlist old)) (sym is_name) ∙ names key ∙ found)

  module _ (nets gates places keys : List ℕ) (touched : IsTouched old new nets gates)
      (no_waves : (p : ℕ) → p < length (netlist new).nets → is_among places p ≡ false → kept_at patches p ≡ None)
      (all_touched : (key : ℕ) → is_touched nets key ≡ true → is_touched keys key ≡ true)
      (all_places : (p key : ℕ) → is_among places p ≡ true → slice_get (keys_of new.nets) p ≡ Some key → is_touched keys key ≡ true) where
    net_stays : (key : ℕ) → is_touched keys key ≡ false → net_by_key new key ≡ net_by_key old key
    net_stays key off = touched.nets_stay key (not_so (is_touched nets key) (is_touched keys key) (all_touched key) off)

    stays_with : (key : ℕ) → is_touched keys key ≡ false → (o : Option NetEntry) → net_by_key new key ≡ o → new_wave answer new key ≡ new_wave answer old key
    stays_with key off None found =
        ap (option_map (wave_of answer (netlist new))) found ∙ ap (option_map (wave_of answer (netlist old))) (sym found ∙ net_stays key off)
    stays_with key off (Some n) found =
        let one = net_placed new key n found in let p : ℕ = one.0 in let at : IsNetAt new key p n = one.1 in
        let there : net_by_key old key ≡ Some (net_at (netlist new) p) = sym (net_stays key off) ∙ found ∙ ap (λ (x : NetEntry). Some x) (sym at.net) in
        let none = no_waves p at.low (not_so (is_among places p) (is_touched keys key) (λ on. all_places p key on at.under) off) in
        ap (option_map (wave_of answer (netlist new))) (net_stays key off ∙ there)
        ∙ ap (λ (w : List (ℕ × Value)). Some w) (sym (wave_stays key p at.low there none))
        ∙ ap (option_map (wave_of answer (netlist old))) (sym there)

    pub are_changed : AreChanged answer old new (is_touched keys)
    are_changed = record { nets_stay = net_stays; waves_stay = λ key off. stays_with key off (net_by_key new key) refl }
