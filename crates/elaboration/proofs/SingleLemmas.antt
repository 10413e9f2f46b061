-- Each terminal of a gate is one net of the design, or a constant, where no instance has a fault.
use Rattle.std.proofs.Common.{◌≡◌, ℕ, Bool, true, false, cond, ◌||◌, nat_eq, List, [], ◌∷◌, get_or, Option, Some, None, MatchOption, All, refl, ap, subst, ◌∙◌}
use Rattle.std.specs.Prelude.{option_and_then, option_map, position}
use Rattle.std.specs.List.{find}
use Rattle.std.specs.Map.{lookup}
use Rattle.std.specs.Option.{option_map_or}
use Rattle.std.proofs.lemmas.List.Elements.{All-cons, All-head, All-nil, All-tail, All-weaker}
use Rattle.vtext.specs.declared.fault.ReadFaultKind.{ReadFaultKind}
use Rattle.vtext.specs.declared.fault.ReadFaultKind.TheVariants.{PortCount, UnknownModule}
use Rattle.vtext.specs.declared.gate.Terminal.{Terminal}
use Rattle.vtext.specs.declared.gate.Terminal.TheVariants.{Net, Bit, Constant}
use Rattle.vtext.specs.declared.net.Net as nets
use Rattle.vtext.specs.Modules.{InstanceEntry, ModuleEntry}
use Rattle.vtext.specs.Nets.{net_of}
use Rattle.vtext.specs.Ranges.{width_of}
use Rattle.vtext.specs.kept.Sound.{IsDriven, IsSingle, IsSoundInstance, IsSoundModule}
use Rattle.elaboration.specs.declared.limits.TheConstants.{MAX_DEPTH}
use Rattle.elaboration.specs.Ports.{connections_fault, fault_at, first_instance_fault, has_stranger, instance_fault, is_named_twice, joined_from, ports_fault, second_pass, second_pass_from}
use Rattle.elaboration.specs.Scopes.{Scope, inner, node_at, scopes_of, top_scope}
use Rattle.elaboration.specs.kept.SoundScopes.{IsSingleGate, IsSingleNode}
use Rattle.elaboration.specs.Tops.{is_top, top_of}
use Rattle.elaboration.proofs.BelowLemmas.{HoldsInside, all_below}
use Rattle.elaboration.proofs.PairLemmas.{found_holds}
use Rattle.elaboration.proofs.WidthLemmas.{AreGiven, GivenWidth, HasWidth, IsJoined, joined_ok, or_none, or_parts, terminal_single, terminal_width}

-- An instance without a fault.

-- its connections are for ports, and fit them
connections_ok : (outer : List (ℕ × nets.Net)) (i : InstanceEntry) (m : ModuleEntry) → ports_fault outer i.connections m ≡ None
    → (has_stranger m 0 i.connections ≡ false) × (connections_fault outer m 0 i.connections ≡ None)
connections_ok outer i m none = step (has_stranger m 0 i.connections || is_named_twice i.connections) refl none
  where
    step : (b : Bool) → (has_stranger m 0 i.connections || is_named_twice i.connections) ≡ b → cond b (Some PortCount) (connections_fault outer m 0 i.connections) ≡ None
        → (has_stranger m 0 i.connections ≡ false) × (connections_fault outer m 0 i.connections ≡ None)
    step true e none = absurd cc
    step false e none = ((or_parts (has_stranger m 0 i.connections) (is_named_twice i.connections) e).0, none)

-- of a module that the text has
found_fits : (modules : List (ℕ × ModuleEntry)) (outer : List (ℕ × nets.Net)) (i : InstanceEntry) (m : ModuleEntry) → instance_fault modules outer i ≡ None → Some m ≡ lookup (nat_eq i.«module») modules
    → ports_fault outer i.connections m ≡ None
found_fits modules outer i m none found = ap (λ (o : Option ModuleEntry). option_map_or (ports_fault outer i.connections) o (Some UnknownModule)) found ∙ none

-- Modules without faults.

abbrev IsFaultless : List ℕ → List (ℕ × ModuleEntry) → ModuleEntry → Type 0
IsFaultless text modules m = first_instance_fault text modules m.nets m.instances ≡ None

no_fault : (text : List ℕ) (kind : Option ReadFaultKind) (start : ℕ) → option_map (fault_at text start) kind ≡ None → kind ≡ None
no_fault text None start e = refl
no_fault text (Some kind) start e = absurd cc

each_faultless : (text : List ℕ) (modules : List (ℕ × ModuleEntry)) (outer : List (ℕ × nets.Net)) (instances : List InstanceEntry) → first_instance_fault text modules outer instances ≡ None
    → All (λ i. instance_fault modules outer i ≡ None) instances
each_faultless text modules outer [] none = All-nil (λ i. instance_fault modules outer i ≡ None)
each_faultless text modules outer (i ∷ instances) none =
    let both = or_none (option_map (fault_at text i.start) (instance_fault modules outer i)) (first_instance_fault text modules outer instances) none in
    All-cons (λ i. instance_fault modules outer i ≡ None) i instances (no_fault text (instance_fault modules outer i) i.start both.0) (each_faultless text modules outer instances both.1)

all_faultless : (text : List ℕ) (modules listed : List (ℕ × ModuleEntry)) → second_pass_from text modules listed ≡ None → All (λ m. IsFaultless text modules m.1) listed
all_faultless text modules [] none = All-nil (λ m. IsFaultless text modules m.1)
all_faultless text modules (m ∷ listed) none =
    let both = or_none (first_instance_fault text modules m.1.nets m.1.instances) (second_pass_from text modules listed) none in
    All-cons (λ m. IsFaultless text modules m.1) m listed both.0 (all_faultless text modules listed both.1)

-- what holds of all items holds of the one that is found
find_holds : {X : Type 0} (P : X → Type 0) (p : X → Bool) (xs : List X) (x : X) → All P xs → find p xs ≡ Some x → P x
find_holds P p [] x all e = absurd cc
find_holds {X} P p (y ∷ ys) x all e = step (p y) (find_holds P p ys x (All-tail P y ys all)) e
  where
    step : (b : Bool) → (find p ys ≡ Some x → P x) → cond b (Some y) (find p ys) ≡ Some x → P x
    step true others e = let same : y ≡ x = cc in subst P same (All-head P y ys all)
    step false others e = others e

-- Scopes.

module _ (text : List ℕ) (names : List (List ℕ)) (modules : List (ℕ × ModuleEntry)) (all_sound : All (IsSoundModule names) modules) (none : second_pass text modules ≡ None) where
  record IsKnown (m : ModuleEntry) : Type 0 where
    name : ℕ
    sound : IsSoundModule names (name, m)
    faultless : IsFaultless text modules m

  each_known : All (λ m. IsKnown m.1) modules
  each_known = λ k d within. record { name = (get_or modules k d).0; sound = all_sound k d within; faultless = all_faultless text modules modules none k d within }

  record IsGoodScope (scope : Scope) : Type 0 where
    entry : IsKnown scope.entry
    given : AreGiven names modules scope

  -- what the scope of an instance is given has the widths of its ports
  inner_given : (scope : Scope) (i : InstanceEntry) (m : ModuleEntry) → AreGiven names modules scope → IsSoundInstance names scope.entry.nets i → ports_fault scope.entry.nets i.connections m ≡ None
      → AreGiven names modules (inner names modules scope i m)
  inner_given scope i m given sound fits = λ n net known. at_place n net known (position (λ (o : ℕ × nets.Net). nat_eq n o.0) m.nets) refl
    where
      at_place : (n : ℕ) (net : nets.Net) → net_of m.nets n ≡ Some net → (o : Option ℕ) → position (λ o. nat_eq n o.0) m.nets ≡ o
          → GivenWidth names modules (option_map (node_at names modules scope) (option_and_then (λ place. joined_from i.connections 0 place n) o)) (width_of net.range)
      at_place n net known None there = tt
      at_place n net known (Some place) there =
          let ok = connections_ok scope.entry.nets i m fits in
          step (joined_from i.connections 0 place n) (joined_ok scope.entry.nets m n net known place there 0 i.connections ok.0 ok.1 sound.connections)
        where
          step : (o : Option Terminal) → MatchOption o (Unit {0}) (IsJoined scope.entry.nets m n net known place there) → GivenWidth names modules (option_map (node_at names modules scope) o) (width_of net.range)
          step None joined = tt
          step (Some terminal) joined = subst (HasWidth (node_at names modules scope terminal)) joined.width (terminal_width names modules scope given terminal joined.joinable)

  inside : (scope : Scope) → IsGoodScope scope → All (HoldsInside names modules IsGoodScope scope) scope.entry.instances
  inside scope good = λ k d within m found.
      let i = get_or scope.entry.instances k d in
      let free = each_faultless text modules scope.entry.nets scope.entry.instances good.entry.faultless k d within in
      record {
        entry = found_holds IsKnown (nat_eq i.«module») modules m each_known found;
        given = inner_given scope i m good.given (good.entry.sound.instances k d within) (found_fits modules scope.entry.nets i m free found);
      }

  driven_single : (scope : Scope) (terminal : Terminal) → IsDriven scope.entry.nets terminal → IsSingle scope.entry.nets terminal
  driven_single scope (Net n) driven = driven
  driven_single scope (Bit n i) driven = driven
  driven_single scope (Constant value) driven = tt

  gates_here : (scope : Scope) → IsGoodScope scope → All (IsSingleGate names modules scope) scope.entry.gates
  gates_here scope good = λ k d within.
      let gate = get_or scope.entry.gates k d in
      let sound = good.entry.sound.gates k d within in
      record {
        output = terminal_single names modules scope good.given gate.output (driven_single scope gate.output sound.output);
        inputs = All-weaker (IsSingle scope.entry.nets) (λ input. IsSingleNode (node_at names modules scope input)) (terminal_single names modules scope good.given) gate.inputs sound.inputs;
      }

  pub gates_single : (top : ℕ × ModuleEntry) → top_of modules ≡ Some top → All (λ scope. All (IsSingleGate names modules scope) scope.entry.gates) (scopes_of names modules top.1)
  unfolding scopes_of
  gates_single top found =
      all_below names modules IsGoodScope inside (λ scope. All (IsSingleGate names modules scope) scope.entry.gates) gates_here MAX_DEPTH (top_scope names modules top.1)
      (record { entry = find_holds (λ (m : ℕ × ModuleEntry). IsKnown m.1) (is_top modules) modules top each_known found; given = λ n net known. tt })
