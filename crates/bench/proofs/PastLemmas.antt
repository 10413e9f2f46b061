-- Snapshots from the past of a bench.
use Rattle.std.proofs.Common.{◌≡◌, ◌∙◌, ◌+◌, ◌≤◌, ◌⊎◌, ap, sym, subst, refl, inl, inr, ℕ, List, Option, Some, None, arith}
use Rattle.std.specs.List.{find}
use Rattle.std.specs.Option.{option_map, option_map_or}
use Rattle.std.specs.Prelude.{IfSome}
use Rattle.design.specs.Keys.{Keyed, netlist}
use Rattle.design.specs.kept.Keys.{net_by_key, net_key}
use Rattle.design.specs.kept.Lawful.{IsDesign}
use Rattle.design.specs.Names.{same_name}
use Rattle.design.specs.Netlist.{NetEntry, Netlist, net_named}
use Rattle.bench.specs.Benches.{BenchRecord, IsNewOrStays, IsPast, SnapshotRecord, since_of, snapshot_of, version_in, wave_in}
use Rattle.bench.specs.kept.Since.{HasSince, since_key, since_name, versions_in}
use Rattle.bench.specs.declared.since.Since.{Since}
use Rattle.bench.proofs.KeyLemmas.{find_part, key_of_net, no_key}

-- a commit more
pub past_by_commit : (old new : BenchRecord) (held : SnapshotRecord) → new.snapshot.version ≡ old.snapshot.version + 1 → ((name : List ℕ) → IsNewOrStays old new name) → IsPast old held → IsPast new held
past_by_commit old new held next stays past = record {
  version = let was = past.version in omega (arith, next, was);
  waves = λ name early. by_name name early (stays name);
}
  where
    by_name : (name : List ℕ) → since_of new name ≤ held.version → IsNewOrStays old new name → wave_in new.snapshot.design name ≡ wave_in held.design name
    by_name name early (inl is) = let was = past.version in absurd (omega (arith, early, is, next, was))
    by_name name early (inr both) = both.1 ∙ past.waves name (subst (λ (n : ℕ). n ≤ held.version) both.0 early)

-- nothing has changed
pub past_as_before : (old new : BenchRecord) (held : SnapshotRecord) → new.snapshot ≡ old.snapshot → ((name : List ℕ) → since_of new name ≡ since_of old name) → IsPast old held → IsPast new held
past_as_before old new held same stays past = record {
  version = subst (λ (s : SnapshotRecord). held.version ≤ s.version) (sym same) past.version;
  waves = λ name early.
      ap (λ (s : SnapshotRecord). wave_in s.design name) same ∙ past.waves name (subst (λ (n : ℕ). n ≤ held.version) (stays name) early);
}

-- the versions of names are those of the nets
pub listed : (since : Since) (d : Keyed) (name : List ℕ) → version_in (versions_in since d) since.gone name ≡ since_name since d name
listed since d name =
    ap (λ (o : Option (List ℕ × ℕ)). option_map_or (λ e. e.1) o since.gone) (find_part (λ (p : List ℕ × ℕ). same_name p.0 name) (λ (e : ℕ × NetEntry). (e.1.name, since_key since e.0)) d.nets)
    ∙ by_found (find (λ (e : ℕ × NetEntry). same_name e.1.name name) d.nets)
  where
    by_found : (o : Option (ℕ × NetEntry)) → option_map_or (λ (p : List ℕ × ℕ). p.1) (option_map (λ (e : ℕ × NetEntry). (e.1.name, since_key since e.0)) o) since.gone ≡ option_map_or (since_key since) (option_map (λ (e : ℕ × NetEntry). e.0) o) since.gone
    by_found None = refl
    by_found (Some e) = refl

module _ (since : Since) (d : Keyed) where
  -- of the net at a place, by its key
  pub by_place : IsDesign (netlist d) → (key : ℕ) (o : Option NetEntry) → net_by_key d key ≡ o → IfSome o (λ n. since_key since key ≡ version_in (versions_in since d) since.gone n.name)
  by_place is key None under = tt
  by_place is key (Some n) under = sym (listed since d n.name ∙ ap (λ (o : Option ℕ). option_map_or (since_key since) o since.gone) (key_of_net d is key n under))

  -- of a name that no net has
  pub of_no_net : (name : List ℕ) → net_named (netlist d) name ≡ None → since.gone ≡ version_in (versions_in since d) since.gone name
  of_no_net name none = sym (listed since d name ∙ ap (λ (o : Option ℕ). option_map_or (since_key since) o since.gone) (no_key d name none))

  -- where all versions are the same
  pub all_at : (version : ℕ) → ((key : ℕ) → since_key since key ≡ version) → since.gone ≡ version → (name : List ℕ) → version_in (versions_in since d) since.gone name ≡ version
  all_at version keys gone name = listed since d name ∙ by_key (net_key d name)
    where
      by_key : (o : Option ℕ) → option_map_or (since_key since) o since.gone ≡ version
      by_key None = gone
      by_key (Some key) = keys key

pub kept_versions : (d : Keyed) (before now : Since) (name : List ℕ) → since_name now d name ≡ since_name before d name → version_in (versions_in now d) now.gone name ≡ version_in (versions_in before d) before.gone name
kept_versions d before now name same = listed now d name ∙ same ∙ sym (listed before d name)

same_version : (a b : List (List ℕ × ℕ)) (g h : ℕ) (name : List ℕ) → a ≡ b → g ≡ h → version_in a g name ≡ version_in b h name
same_version a b g h name lists gone = ap (λ (l : List (List ℕ × ℕ)). version_in l g name) lists ∙ ap (λ (n : ℕ). version_in b n name) gone

-- a commit as a bench shows it
pub committed : (version : ℕ) (old made : Keyed) (before now : Since) (was : BenchRecord) (since : List (List ℕ × ℕ)) (gone : ℕ) (snapshot : SnapshotRecord) →
    was.since ≡ versions_in before old → was.gone ≡ before.gone → was.snapshot.design ≡ netlist old →
    since ≡ versions_in now made → gone ≡ now.gone → snapshot ≡ snapshot_of version (netlist made) → ((name : List ℕ) → HasSince version old made before now name) →
    (name : List ℕ) → (version_in since gone name ≡ snapshot.version)
    ⊎ ((version_in since gone name ≡ since_of was name) × (wave_in snapshot.design name ≡ wave_in was.snapshot.design name))
committed version old made before now was since gone snapshot was_since was_gone was_design since_is gone_is snapshot_is has name = by_name (has name)
  where
    new_is : version_in since gone name ≡ since_name now made name
    new_is = same_version since (versions_in now made) gone now.gone name since_is gone_is ∙ listed now made name

    was_is : since_of was name ≡ since_name before old name
    was_is = same_version was.since (versions_in before old) was.gone before.gone name was_since was_gone ∙ listed before old name

    by_name : HasSince version old made before now name → (version_in since gone name ≡ snapshot.version)
        ⊎ ((version_in since gone name ≡ since_of was name) × (wave_in snapshot.design name ≡ wave_in was.snapshot.design name))
    by_name (inl is) = inl (new_is ∙ is ∙ sym (ap (λ (s : SnapshotRecord). s.version) snapshot_is))
    by_name (inr both) = inr (
      new_is ∙ both.0 ∙ sym was_is,
      ap (λ (s : SnapshotRecord). wave_in s.design name) snapshot_is ∙ both.1 ∙ sym (ap (λ (d : Netlist). wave_in d name) was_design),
    )
