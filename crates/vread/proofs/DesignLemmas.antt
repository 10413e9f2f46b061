-- The design that scopes without a fault are.
use Rattle.std.proofs.Common.{◌≡◌, ℕ, ◌^◌, ◌<◌, ◌≤◌, nat_lt, arith, IsTrue, Bool, true, false, cond, List, [], ◌∷◌, ◌++◌, length, get_or, Option, Some, None, All, refl, sym, ap, subst, ◌∙◌}
use Rattle.std.specs.Prelude.{Err, IfOk, Ok, Result, flat_map}
use Rattle.std.specs.List.{AllZip, find, list_any}
use Rattle.std.specs.Option.{option_map_or, option_or}
use Rattle.std.proofs.lemmas.Bool.Decides.{nat_tests}
use Rattle.std.proofs.lemmas.Bool.{or_parts}
use Rattle.std.proofs.lemmas.List.Elements.{All-cons, All-head, All-nil, All-tail}
use Rattle.fourstate.specs.declared.unit.TimeUnit.{TimeUnit}
use Rattle.design.specs.Keys.{Keyed, netlist}
use Rattle.design.specs.declared.limits.TheConstants.{MAX_GATES, MAX_NETS}
use Rattle.design.specs.Names.{is_name}
use Rattle.design.specs.Netlist as netlists
use Rattle.design.specs.Netlist.{Netlist}
use Rattle.design.specs.kept.Netlist.{empty_netlist}
use Rattle.vtext.specs.GateNames.{gate_bytes}
use Rattle.vtext.specs.Modules.{ModuleEntry, ModuleList}
use Rattle.vtext.specs.Names.{name_at}
use Rattle.vtext.specs.kept.Sound.{IsSoundModule}
use Rattle.elaboration.specs.Elaborations.{levels_fault}
use Rattle.elaboration.specs.kept.Elaborations.{Elaborated, IsElaboration, IsScope}
use Rattle.elaboration.specs.kept.Numbered.{PlacedScope, ref_at}
use Rattle.elaboration.specs.Scopes.{Scope, gates_of, nets_of, node_at, own_gates, own_nets, scopes_of}
use Rattle.elaboration.specs.kept.SoundScopes.{IsSingleGate, IsSoundScope}
use Rattle.elaboration.specs.Ports.{second_pass}
use Rattle.elaboration.specs.Tops.{is_top, third_pass, top_of}
use Rattle.vread.specs.kept.Known.{Known}
use Rattle.vread.specs.LateFaults as late
use Rattle.vread.specs.Netlists.{netlist_of, unit_of}
use Rattle.vread.specs.kept.Parts.{AreDistinctGates, AreFitGates, AreFitNets, IsFitGate, kept_gates, kept_nets}
use Rattle.vread.proofs.FaultLemmas.{AllFail, no_fault, none_of}
use Rattle.vread.proofs.GateLemmas.{scope_gates_same}
use Rattle.vread.proofs.NodeLemmas.{drivable, readable}
use Rattle.vread.proofs.OwnNames.{all_named, path_name}
use Rattle.vread.proofs.ZipLemmas.{flat_zip, scope_nets_same, zip_both}

-- what is found among items that all have something has it
found_first : {X : Type 0} (P : X → Type 0) (b : Bool) (y x : X) (rest : Option X) → P y → (rest ≡ Some x → P x) → cond b (Some y) rest ≡ Some x → P x
found_first P true y x rest holds others e = let same : y ≡ x = cc in subst P same holds
found_first P false y x rest holds others e = others e

found_all : {X : Type 0} (P : X → Type 0) (p : X → Bool) (xs : List X) (x : X) → All P xs → find p xs ≡ Some x → P x
found_all P p [] x all e = absurd (cc)
found_all P p (y ∷ ys) x all e = found_first P (p y) y x (find p ys) (All-head P y ys all) (found_all P p ys x (All-tail P y ys all)) e

-- the module at the top is one of those of the text
pub top_is_sound : (list : ModuleList) (top : ℕ × ModuleEntry) → top_of list.modules ≡ Some top → All (IsSoundModule list.names) list.modules → IsSoundModule list.names top
top_is_sound list top is sound = found_all (IsSoundModule list.names) (is_top list.modules) list.modules top sound is

pub top_sound : (text : List ℕ) (list : ModuleList) (design : Elaborated) → IsElaboration text list design → All (IsSoundModule list.names) list.modules → IsSoundModule list.names design.top
top_sound text list design is = top_is_sound list design.top is.top

-- what comes first of two is not there where neither is
first_none : {X : Type 0} (a b : Option X) → option_or a b ≡ None → a ≡ None
first_none None b e = refl
first_none (Some x) b e = absurd (cc)

-- no instance has a fault
pub no_instance_fault : (text : List ℕ) (list : ModuleList) (design : Elaborated) → IsElaboration text list design → second_pass text list.modules ≡ None
no_instance_fault text list design is =
    first_none (second_pass text list.modules) (option_or (third_pass text list.modules) (option_map_or (levels_fault text list.modules) (top_of list.modules) None)) is.faultless

at_most : (limit n : ℕ) → nat_lt limit n ≡ false → n ≤ limit
at_most limit n e = grind (arith, nat_tests)

-- A design that modules make, whose scopes have no fault.
module _ (text : List ℕ) (list : ModuleList) (design : Elaborated) (is : IsElaboration text list design) (known : Known list design.top.1)
    (faultless : late.scopes_fault list.names list.modules design.top.1 ≡ None) where
  abbrev names : List (List ℕ)
  names = list.names

  abbrev modules : List (ℕ × ModuleEntry)
  modules = list.modules

  abbrev top : ModuleEntry
  top = design.top.1

  abbrev flat : List netlists.NetEntry
  flat = nets_of names modules top

  abbrev scopes : List Scope
  scopes = scopes_of names modules top

  abbrev Kept : PlacedScope → Scope → Type 0
  Kept = IsScope names modules flat

  fails : AllFail (list_any (late.is_port_wrong names modules) scopes) (list_any (late.is_long_named names modules) scopes) (nat_lt MAX_NETS (length flat)) (nat_lt MAX_GATES (length (gates_of names modules top)))
      (list_any (late.is_input_driven names modules) scopes)
  fails = no_fault names modules top faultless

  few_nets : length flat ≤ MAX_NETS
  few_nets = at_most MAX_NETS (length flat) fails.third

  few : length flat < 2 ^ 32
  few = omega (arith, few_nets)

  none_long : All (λ scope. late.is_long_named names modules scope ≡ false) scopes
  none_long = none_of (late.is_long_named names modules) scopes fails.second

  -- Nets.

  all_nets : flat_map (kept_nets names) design.scopes ≡ flat
  all_nets = flat_zip Kept (kept_nets names) (own_nets names modules) (scope_nets_same names modules flat) design.scopes scopes is.scopes

  fit_nets : AreFitNets flat
  fit_nets = record { named = all_named known.whole names modules known.flat_parts scopes known.sound none_long; distinct = known.differ_nets; room = few_nets }

  -- Gates.

  all_gates : flat_map (kept_gates names flat) design.scopes ≡ gates_of names modules top
  all_gates =
      flat_zip (λ kept scope. Kept kept scope × All (IsSingleGate names modules scope) scope.entry.gates) (kept_gates names flat) (own_gates names modules)
      (λ kept scope both. scope_gates_same names modules flat known.refs few kept scope both.0 both.1) design.scopes scopes
      (zip_both Kept (λ scope. All (IsSingleGate names modules scope) scope.entry.gates) design.scopes scopes is.scopes known.single)

  distinct_gates : AreDistinctGates (gates_of names modules top)
  distinct_gates = record { distinct = known.differ_gates; room = at_most MAX_GATES (length (gates_of names modules top)) fails.fourth }

  -- what is known of each scope
  record IsGoodScope (scope : Scope) : Type 0 where
    sound : IsSoundScope names scope
    single : All (IsSingleGate names modules scope) scope.entry.gates
    port : late.is_port_wrong names modules scope ≡ false
    long : late.is_long_named names modules scope ≡ false
    driven : late.is_input_driven names modules scope ≡ false

  good_scopes : All IsGoodScope scopes
  good_scopes =
      let ports = none_of (late.is_port_wrong names modules) scopes fails.first in
      let inputs = none_of (late.is_input_driven names modules) scopes fails.fifth in
      λ k d within. record { sound = known.sound k d within; single = known.single k d within; port = ports k d within; long = none_long k d within; driven = inputs k d within }

  fit_gate : (kept : PlacedScope) (scope : Scope) → Kept kept scope → IsGoodScope scope → All (IsFitGate names flat kept) scope.entry.gates
  fit_gate kept scope same good = λ k d within.
      let gate = get_or scope.entry.gates k d in
      let sound_gate = good.sound.sound.gates k d within in
      let single = good.single k d within in
      let no_constant = none_of (late.drives_constant names modules scope) scope.entry.gates (or_parts (list_any (late.is_misjoined names modules scope) scope.entry.nets) (list_any (late.drives_constant names modules scope) scope.entry.gates) good.port).1 k d within in
      let no_input = none_of (late.drives_input names modules scope) scope.entry.gates good.driven k d within in
      let fits = none_of (late.is_long_gate names modules scope) scope.entry.gates (or_parts (list_any (late.is_long_net names modules scope) scope.entry.nets) (list_any (late.is_long_gate names modules scope) scope.entry.gates) good.long).1 k d within in
      record {
        named = subst (λ (p : List ℕ). IsTrue (is_name (p ++ gate_bytes names gate))) (sym same.path)
            (path_name known.whole scope.path good.sound.instances (gate_bytes names gate) good.sound.path sound_gate.spelled fits);
        fits = sound_gate.fits;
        delays = sound_gate.delays;
        output = drivable flat few (ref_at kept gate.output) (node_at names modules scope gate.output) (known.refs kept scope same gate.output) single.output no_constant no_input;
        inputs = λ j e inside.
            let input = get_or gate.inputs j e in
            readable flat few (ref_at kept input) (node_at names modules scope input) (known.refs kept scope same input) (single.inputs j e inside);
      }

  fit_scopes : (kepts : List PlacedScope) (ss : List Scope) → AllZip Kept kepts ss → All IsGoodScope ss → All (AreFitGates names flat) kepts
  fit_scopes [] [] zip good = All-nil (AreFitGates names flat)
  fit_scopes [] (s ∷ ss) zip good = absurd zip
  fit_scopes (kept ∷ kepts) [] zip good = absurd zip
  fit_scopes (kept ∷ kepts) (s ∷ ss) zip good =
      All-cons (AreFitGates names flat) kept kepts
      (subst (λ (m : ModuleEntry). All (IsFitGate names flat kept) m.gates) (sym zip.0.entry) (fit_gate kept s zip.0 (All-head IsGoodScope s ss good)))
      (fit_scopes kepts ss zip.1 (All-tail IsGoodScope s ss good))

  fit_gates : All (AreFitGates names flat) design.scopes
  fit_gates = fit_scopes design.scopes scopes is.scopes good_scopes

  -- The design.

  with_all_nets : (ns : List (List ℕ)) (ss : List PlacedScope) (name : List ℕ) (unit : TimeUnit) (first made : Netlist) → ns ≡ names → ss ≡ design.scopes → name ≡ name_at names design.top.0 → unit ≡ unit_of list.unit
      → first ≡ empty_netlist name unit → made ≡ record first { nets = first.nets ++ flat_map (kept_nets ns) ss } → made ≡ record (empty_netlist (name_at names design.top.0) (unit_of list.unit)) { nets = flat }
  with_all_nets ns ss name unit first made is_ns is_ss is_name is_unit is_first is_made =
      is_made
      ∙ ap (λ (d : Netlist). record d { nets = d.nets ++ flat_map (kept_nets ns) ss }) is_first
      ∙ ap (λ (n : List ℕ). record (empty_netlist n unit) { nets = flat_map (kept_nets ns) ss }) is_name
      ∙ ap (λ (u : TimeUnit). record (empty_netlist (name_at names design.top.0) u) { nets = flat_map (kept_nets ns) ss }) is_unit
      ∙ ap (λ (m : List (List ℕ)). record (empty_netlist (name_at names design.top.0) (unit_of list.unit)) { nets = flat_map (kept_nets m) ss }) is_ns
      ∙ ap (λ (k : List PlacedScope). record (empty_netlist (name_at names design.top.0) (unit_of list.unit)) { nets = flat_map (kept_nets names) k }) is_ss
      ∙ ap (λ (l : List netlists.NetEntry). record (empty_netlist (name_at names design.top.0) (unit_of list.unit)) { nets = l }) all_nets

  pub nets_fit : (ns : List (List ℕ)) (ss : List PlacedScope) (name : List ℕ) (unit : TimeUnit) (first : Netlist) → ns ≡ names → ss ≡ design.scopes → first ≡ empty_netlist name unit → AreFitNets (first.nets ++ flat_map (kept_nets ns) ss)
  nets_fit ns ss name unit first is_ns is_ss is_first =
      subst (λ (l : List netlists.NetEntry). AreFitNets l)
      (sym (
      ap (λ (d : Netlist). d.nets ++ flat_map (kept_nets ns) ss) is_first
      ∙ ap (λ (m : List (List ℕ)). flat_map (kept_nets m) ss) is_ns
      ∙ ap (λ (k : List PlacedScope). flat_map (kept_nets names) k) is_ss
      ∙ all_nets
      )) fit_nets

  module _ (ns : List (List ℕ)) (ss : List PlacedScope) (name : List ℕ) (unit : TimeUnit) (first made : Netlist) (is_ns : ns ≡ names) (is_ss : ss ≡ design.scopes) (is_name : name ≡ name_at names design.top.0) (is_unit : unit ≡ unit_of list.unit)
      (is_first : first ≡ empty_netlist name unit) (is_made : made ≡ record first { nets = first.nets ++ flat_map (kept_nets ns) ss }) where
    bare : made ≡ record (empty_netlist (name_at names design.top.0) (unit_of list.unit)) { nets = flat }
    bare = with_all_nets ns ss name unit first made is_ns is_ss is_name is_unit is_first is_made

    gates_are : made.gates ++ flat_map (kept_gates ns made.nets) ss ≡ gates_of names modules top
    gates_are =
        ap (λ (d : Netlist). d.gates ++ flat_map (kept_gates ns d.nets) ss) bare
        ∙ ap (λ (m : List (List ℕ)). flat_map (kept_gates m flat) ss) is_ns
        ∙ ap (λ (k : List PlacedScope). flat_map (kept_gates names flat) k) is_ss
        ∙ all_gates

    pub gates_distinct : AreDistinctGates (made.gates ++ flat_map (kept_gates ns made.nets) ss)
    gates_distinct = subst (λ (l : List netlists.GateEntry). AreDistinctGates l) (sym gates_are) distinct_gates

    pub gates_fit : All (AreFitGates ns made.nets) ss
    gates_fit =
        subst (λ (d : Netlist). All (AreFitGates ns d.nets) ss) (sym bare)
        (subst (λ (m : List (List ℕ)). All (AreFitGates m flat) ss) (sym is_ns) (subst (λ (k : List PlacedScope). All (AreFitGates names flat) k) (sym is_ss) fit_gates))

    pub made_whole : {E : Type 0} (r : Result Keyed E) → IfOk r (λ d. netlist d ≡ record made { gates = made.gates ++ flat_map (kept_gates ns made.nets) ss }) → IfOk r (λ d. netlist d ≡ netlist_of list design.top)
    made_whole (Ok d) holds =
        holds ∙ ap (λ (l : List netlists.GateEntry). record made { gates = l }) gates_are ∙ ap (λ (m : Netlist). record m { gates = gates_of names modules top }) bare
    made_whole (Err e) holds = tt
