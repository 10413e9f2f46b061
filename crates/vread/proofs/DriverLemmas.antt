-- The first gate that drives an input, among scopes as they are kept and those of the design.
use Rattle.std.proofs.Common.{◌≡◌, ℕ, ◌^◌, ◌<◌, ◌≤◌, nat_lt, arith, Bool, true, false, cond, List, [], ◌∷◌, length, Option, Some, All, refl, sym, ap, subst, ◌∙◌}
use Rattle.std.specs.Prelude.{flat_map, option_map}
use Rattle.std.specs.List.{AllZip, find, list_any}
use Rattle.std.specs.Option.{option_map_or, option_or}
use Rattle.std.proofs.lemmas.Bool.Decides.{nat_tests}
use Rattle.std.proofs.lemmas.List.Elements.{All-head, All-tail}
use Rattle.design.specs.declared.limits.TheConstants.{MAX_GATES, MAX_NETS}
use Rattle.design.specs.Netlist as netlists
use Rattle.vtext.specs.declared.fault.ReadFault.{ReadFault}
use Rattle.vtext.specs.Modules.{ModuleEntry, ModuleList}
use Rattle.elaboration.specs.Elaborations.{elaboration_fault}
use Rattle.elaboration.specs.kept.Elaborations.{Elaborated, IsElaboration, IsScope}
use Rattle.elaboration.specs.kept.Numbered.{PlacedScope, ref_at}
use Rattle.elaboration.specs.Scopes.{Scope, gates_of, nets_of, node_at, own_gate, own_nets, scopes_of}
use Rattle.elaboration.specs.kept.SoundScopes.{IsSingleGate}
use Rattle.elaboration.specs.Tops.{top_of}
use Rattle.vread.specs.Drivers.{design_party, driver_text, first_driver, input_driver, is_driven_input, party_by, scopes_party}
use Rattle.vread.specs.kept.Known.{Known}
use Rattle.vread.specs.LateFaults as late
use Rattle.vread.specs.kept.Parts as parts
use Rattle.vread.specs.kept.Parts.{AreNamed, first_kept_driver, kept_driver, kept_gate, kept_nets}
use Rattle.vread.proofs.FaultLemmas.{chain, none_of}
use Rattle.vread.proofs.GateLemmas.{gate_same}
use Rattle.vread.proofs.NodeLemmas.{input_same}
use Rattle.vread.proofs.OwnNames.{all_named}
use Rattle.vread.proofs.ZipLemmas.{flat_zip, scope_nets_same, zip_both}

-- what is made of the first item that passes
found_same : {X Y : Type 0} (P : X → Type 0) (p q : X → Bool) (f g : X → Y) → ((x : X) → p x ≡ q x) → ((x : X) → P x → f x ≡ g x) → (xs : List X) → All P xs → option_map f (find p xs) ≡ option_map g (find q xs)
found_same P p q f g tests same [] all = refl
found_same P p q f g tests same (x ∷ xs) all =
    ap (λ (b : Bool). option_map f (cond b (Some x) (find p xs))) (tests x)
    ∙ by (q x) (same x (All-head P x xs all)) (found_same P p q f g tests same xs (All-tail P x xs all))
  where
    by : (b : Bool) → f x ≡ g x → option_map f (find p xs) ≡ option_map g (find q xs) → option_map f (cond b (Some x) (find p xs)) ≡ option_map g (cond b (Some x) (find q xs))
    by true here there = ap Some here
    by false here there = there

-- the two tests of names and of the number of nets come before that of driven inputs
pub before_driven : (a b c d e : Bool) → is_driven_input (chain a b c d e) ≡ true → (b ≡ false) × (c ≡ false)
before_driven true b c d e is = absurd (cc)
before_driven false true c d e is = absurd (cc)
before_driven false false true d e is = absurd (cc)
before_driven false false false d e is = (refl, refl)

-- A design that modules make.
module _ (text : List ℕ) (list : ModuleList) (design : Elaborated) (is : IsElaboration text list design) (known : Known list design.top.1)
    (driven : is_driven_input (late.scopes_fault list.names list.modules design.top.1) ≡ true) where
  abbrev names : List (List ℕ)
  names = list.names

  abbrev modules : List (ℕ × ModuleEntry)
  modules = list.modules

  abbrev top : ModuleEntry
  top = design.top.1

  abbrev flat : List netlists.NetEntry
  flat = nets_of names modules top

  abbrev scopes : List Scope
  scopes = scopes_of names modules top

  abbrev Kept : PlacedScope → Scope → Type 0
  Kept = IsScope names modules flat

  passed : (list_any (late.is_long_named names modules) scopes ≡ false) × (nat_lt MAX_NETS (length flat) ≡ false)
  passed =
      before_driven (list_any (late.is_port_wrong names modules) scopes) (list_any (late.is_long_named names modules) scopes) (nat_lt MAX_NETS (length flat))
      (nat_lt MAX_GATES (length (gates_of names modules top))) (list_any (late.is_input_driven names modules) scopes) driven

  few : length flat < 2 ^ 32
  few = let small : length flat ≤ MAX_NETS = grind (arith, nat_tests, passed.1) in omega (arith, small)

  all_nets : flat_map (kept_nets names) design.scopes ≡ flat
  all_nets = flat_zip Kept (kept_nets names) (own_nets names modules) (scope_nets_same names modules flat) design.scopes scopes is.scopes

  pub nets_named : (ns : List (List ℕ)) (ss : List PlacedScope) → ns ≡ names → ss ≡ design.scopes → AreNamed (flat_map (kept_nets ns) ss)
  nets_named ns ss is_ns is_ss =
      subst (λ (l : List netlists.NetEntry). AreNamed l)
      (sym (ap (λ (m : List (List ℕ)). flat_map (kept_nets m) ss) is_ns ∙ ap (λ (k : List PlacedScope). flat_map (kept_nets names) k) is_ss ∙ all_nets))
      (all_named known.whole names modules known.flat_parts scopes known.sound (none_of (late.is_long_named names modules) scopes passed.0))

  scope_driver_same : (kept : PlacedScope) (scope : Scope) → Kept kept scope × All (IsSingleGate names modules scope) scope.entry.gates → kept_driver names flat kept ≡ input_driver names modules scope
  scope_driver_same kept scope both =
      ap (λ (m : ModuleEntry). option_map (kept_gate names flat kept) (find (parts.drives_input kept) m.gates)) both.0.entry
      ∙ found_same (IsSingleGate names modules scope) (parts.drives_input kept) (late.drives_input names modules scope) (kept_gate names flat kept) (own_gate names modules scope)
      (λ gate. input_same flat (ref_at kept gate.output) (node_at names modules scope gate.output) (known.refs kept scope both.0 gate.output))
      (λ gate single. gate_same names modules flat known.refs few kept scope both.0 gate single) scope.entry.gates both.1

  drivers_same : (kepts : List PlacedScope) (ss : List Scope) → AllZip (λ kept scope. Kept kept scope × All (IsSingleGate names modules scope) scope.entry.gates) kepts ss → first_kept_driver names flat kepts ≡ first_driver names modules ss
  drivers_same [] [] zip = refl
  drivers_same [] (s ∷ ss) zip = absurd zip
  drivers_same (k ∷ kepts) [] zip = absurd zip
  drivers_same (k ∷ kepts) (s ∷ ss) zip =
      ap (λ (o : Option netlists.GateEntry). option_or o (first_kept_driver names flat kepts)) (scope_driver_same k s zip.0)
      ∙ ap (λ (o : Option netlists.GateEntry). option_or (input_driver names modules s) o) (drivers_same kepts ss zip.1)

  pub first_same : (ns : List (List ℕ)) (nets : List netlists.NetEntry) (ss : List PlacedScope) → ns ≡ names → nets ≡ flat_map (kept_nets ns) ss → ss ≡ design.scopes
      → option_map_or driver_text (first_kept_driver ns nets ss) [] ≡ option_map_or driver_text (first_driver names modules scopes) []
  first_same ns nets ss is_ns is_nets is_ss =
      let flat_is : nets ≡ flat = is_nets ∙ ap (λ (m : List (List ℕ)). flat_map (kept_nets m) ss) is_ns ∙ ap (λ (k : List PlacedScope). flat_map (kept_nets names) k) is_ss ∙ all_nets in
      ap (λ (o : Option netlists.GateEntry). option_map_or driver_text o [])
      (ap (λ (m : List (List ℕ)). first_kept_driver m nets ss) is_ns
      ∙ ap (λ (l : List netlists.NetEntry). first_kept_driver names l ss) flat_is
      ∙ ap (λ (k : List PlacedScope). first_kept_driver names flat k) is_ss
      ∙ drivers_same design.scopes scopes (zip_both Kept (λ scope. All (IsSingleGate names modules scope) scope.entry.gates) design.scopes scopes is.scopes known.single))
