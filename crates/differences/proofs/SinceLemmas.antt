-- Nets that have their waves since a version.
use Rattle.std.proofs.Common.{◌≡◌, ◌<◌, ◌≤◌, ◌⊎◌, ℕ, suc, min, not, List, [], ◌∷◌, true, false, Option, Some, None, IfSome, inl, inr, option_map, slice_get, length, map, subst, refl, ap, sym, ◌∙◌}
use Rattle.std.specs.List.{AllByRecursion}
use Rattle.fourstate.specs.declared.value.Value.{Value}
use Rattle.fourstate.specs.kept.ValueLaws.{same_self}
use Rattle.fourstate.specs.Values.{same_value}
use Rattle.gatestep.specs.Step.{advance}
use Rattle.design.specs.Names.{same_name}
use Rattle.design.specs.Netlist.{NetEntry, Netlist, has_net, net_named}
use Rattle.scratch.specs.Run.{wave_of}
use Rattle.waveform.specs.Changes.{wave_at}
use Rattle.bench.specs.Benches.{BenchRecord, IsPast, SnapshotRecord, since_of, wave_in}
use Rattle.differences.specs.kept.Apart.{first_apart}
use Rattle.differences.specs.Differences.{differs_at, first_moment}
use Rattle.differences.specs.kept.Found.{differences_in, moment_beyond, name_at, names_in}
use Rattle.differences.proofs.FirstLemmas.{find_none}
use Rattle.differences.proofs.MomentLemmas.{AreChangesOf, differs_by, in_both}
use Rattle.differences.proofs.NameLemmas.{each_got, name_itself, named_as, net_there, none_found, some_found}

-- A name with the same wave in both.

never_apart : (w : List (ℕ × Value)) (end : ℕ) → first_apart w w end ≡ None
never_apart w end = find_none (λ t. not (same_value (wave_at w t) (wave_at w t))) (suc end) (λ t lt. ap not (same_self (wave_at w t)))

in_neither : (d e : Netlist) (name : List ℕ) → net_named d name ≡ None → net_named e name ≡ None → first_moment d e name ≡ None
unfolding first_moment
in_neither d e name is is' = find_none (differs_at d e name) (suc (min d.horizon e.horizon)) (λ t lt. differs_by d e name t None None is is')

record AreBoth (f g : NetEntry → List (ℕ × Value)) (o p : Option NetEntry) : Type 0 where
  pub own : NetEntry
  pub its : NetEntry
  pub is_own : o ≡ Some own
  pub is_its : p ≡ Some its
  pub same : f own ≡ g its

neither_or_both : (f g : NetEntry → List (ℕ × Value)) (o p : Option NetEntry) → option_map f o ≡ option_map g p → ((o ≡ None) × (p ≡ None)) ⊎ AreBoth f g o p
neither_or_both f g None None is = inl (refl, refl)
neither_or_both f g None (Some m) is = absurd (cc)
neither_or_both f g (Some n) None is = absurd (cc)
neither_or_both f g (Some n) (Some m) is = inr (record { own = n; its = m; is_own = refl; is_its = refl; same = cc })

same_wave : AreChangesOf → (d e : Netlist) (name : List ℕ) → wave_in d name ≡ wave_in e name → first_moment d e name ≡ None
same_wave law d e name same =
    elim (neither_or_both (wave_of advance d) (wave_of advance e) (net_named d name) (net_named e name) same) [
      | inl none ↦ in_neither d e name none.0 none.1
      | inr both ↦
          let end = min d.horizon e.horizon in
          in_both law d e name both.own both.its both.is_own both.is_its
          ∙ ap (λ (w : List (ℕ × Value)). first_apart (wave_of advance d both.own) w end) (sym both.same) ∙ never_apart (wave_of advance d both.own) end
    ]

-- The net at a place.

pub unchanged_at : AreChangesOf → (bench : BenchRecord) (held : SnapshotRecord) (place since : ℕ) → IsPast bench held → place < length bench.snapshot.design.nets
    → IfSome (slice_get bench.snapshot.design.nets place) (λ net. since ≡ since_of bench net.name) → since ≤ held.version
    → first_moment bench.snapshot.design held.design (name_at bench.snapshot.design place) ≡ None
unchanged_at law bench held place since past within known le =
    let d = bench.snapshot.design in
    let there = net_there d.nets place within in
    let at : since ≡ since_of bench there.0.name = subst (λ (o : Option NetEntry). IfSome o (λ net. since ≡ since_of bench net.name)) there.1 known in
    let old : since_of bench there.0.name ≤ held.version = subst (λ (n : ℕ). n ≤ held.version) at le in
    subst (λ (name : List ℕ). first_moment d held.design name ≡ None) (sym (named_as d place there.0 there.1))
    (same_wave law d held.design there.0.name (past.waves there.0.name old))

-- Names that are gone.

no_wave : (f g : NetEntry → List (ℕ × Value)) (o p : Option NetEntry) (m : NetEntry) → option_map f o ≡ option_map g p → o ≡ None → p ≡ Some m → ⊥
no_wave f g o p m same none some =
    let clash : ◌≡◌ {A = Option (List (ℕ × Value))} None (Some (g m)) = sym (ap (option_map f) none) ∙ same ∙ ap (option_map g) some in
    cc

nothing_beyond : (d : Netlist) (number : ℕ) (nets : List NetEntry) → AllByRecursion (λ m. has_net d m.name ≡ true) nets → differences_in (moment_beyond d) number (map (λ n. n.name) nets) ≡ []
nothing_beyond d number [] all = refl
nothing_beyond d number (m ∷ nets) all =
    let here : has_net d m.name ≡ true = all.0 in
    let rest = nothing_beyond d (suc number) nets all.1 in
    rw here rest

pub none_gone : (bench : BenchRecord) (held : SnapshotRecord) (gone number : ℕ) → IsPast bench held → ((name : List ℕ) → net_named bench.snapshot.design name ≡ None → gone ≡ since_of bench name)
    → gone ≤ held.version → differences_in (moment_beyond bench.snapshot.design) number (names_in held.design) ≡ []
none_gone bench held gone number past known le =
    let d = bench.snapshot.design in
    let e = held.design in
    nothing_beyond d number e.nets (each_got (λ m. has_net d m.name ≡ true) e.nets
    (λ i m at.
    elim (has_net d m.name) as (λ b. has_net d m.name ≡ b → has_net d m.name ≡ true) [
      | true ↦ λ h. h
      | false ↦ λ h.
          let none : net_named d m.name ≡ None = none_found (λ k. same_name k.name m.name) d.nets h in
          let there = some_found (λ k. same_name k.name m.name) e.nets i m at (name_itself m.name) in
          let old : since_of bench m.name ≤ held.version = subst (λ (n : ℕ). n ≤ held.version) (known m.name none) le in
          absurd (no_wave (wave_of advance d) (wave_of advance e) (net_named d m.name) (net_named e m.name) there.0 (past.waves m.name old) none there.1)
    ] refl))
