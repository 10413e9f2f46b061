-- Since which version each net of a bench has its wave (own).
use Rattle.std.specs.Prelude.{◌≡◌, ◌<◌, ◌⊎◌, true, ℕ, List, IsSome, length, map, slice_index_or}
use Rattle.std.specs.Option.{option_map_or}
use Rattle.design.specs.Keys.{Keyed, name_of, netlist}
use Rattle.design.specs.kept.Keys.{net_by_key, net_key}
use Rattle.edits.specs.kept.Touched.{is_touched}
use Rattle.resim.specs.declared.changed.Changed.{Changed}
use Rattle.resim.specs.declared.changed.Changed.TheVariants.{All, Nets}
use Rattle.bench.specs.Benches.{wave_in}
use Rattle.bench.specs.declared.since.Since.{Since}

-- the version of the net of a key
abbrev pub since_key : Since → ℕ → ℕ
since_key since key = slice_index_or since.versions.items key since.base

-- the version of a name: that of the net which has it, or that of all names which no net has
abbrev pub since_name : Since → Keyed → List ℕ → ℕ
since_name since d name = option_map_or (since_key since) (net_key d name) since.gone

-- the name of each net of the design, in order, with its version
abbrev pub versions_in : Since → Keyed → List (List ℕ × ℕ)
versions_in since d = map (λ e. (e.1.name, since_key since e.0)) d.nets

-- where the old design has a net of this key the new one has one of the same name
abbrev pub KeepsName : (old new : Keyed) → ℕ → Type 0
KeepsName old new key = IsSome (net_by_key old key) → (IsSome (net_by_key new key) × (name_of new.nets key ≡ name_of old.nets key))

-- the list of versions is long enough for what changed
abbrev pub HasRoom : Changed → Since → Type 0
HasRoom All since = Unit {0}
HasRoom (Nets keys) since = (key : ℕ) → is_touched keys.items key ≡ true → key < length since.versions.items

-- the version of a name is this one, or it is what it was, and so is the wave of the name
abbrev pub HasSince : ℕ → (old new : Keyed) → (before now : Since) → List ℕ → Type 0
HasSince version old new before now name =
    (since_name now new name ≡ version)
    ⊎ ((since_name now new name ≡ since_name before old name) × (wave_in (netlist new) name ≡ wave_in (netlist old) name))
