-- The fault of scopes as they are kept is that of the design's scopes.
use Rattle.std.proofs.Common.{◌≡◌, ℕ, ◌+◌, ◌-◌, ◌^◌, ◌<◌, ◌≤◌, min, nat_lt, arith, Bool, true, false, cond, List, [], ◌∷◌, length, Option, Some, None, All, refl, sym, ap, ◌∙◌, length-append}
use Rattle.std.specs.Prelude.{flat_map, fold, option_map}
use Rattle.std.specs.Option.{option_map_or, option_or}
use Rattle.std.specs.List.{AllZip, list_any}
use Rattle.std.proofs.lemmas.Bool.Decides.{nat_tests}
use Rattle.std.proofs.lemmas.Bool.{or_parts}
use Rattle.std.proofs.lemmas.List.Elements.{All-cons, All-nil}
use Rattle.std.proofs.lemmas.List.{length-map}
use Rattle.design.specs.declared.limits.TheConstants.{MAX_GATES, MAX_NETS}
use Rattle.design.specs.Netlist as netlists
use Rattle.vtext.specs.declared.fault.ReadFault.{ReadFault}
use Rattle.edits.specs.declared.fault.EditFault.TheVariants.{BadName, DrivenInput, TooMany}
use Rattle.vtext.specs.declared.fault.ReadFaultKind.{ReadFaultKind}
use Rattle.vtext.specs.declared.fault.ReadFaultKind.TheVariants.{PortKind, Edit}
use Rattle.vtext.specs.declared.gate.Terminal.{Terminal}
use Rattle.vtext.specs.Modules.{ModuleEntry, ModuleList}
use Rattle.elaboration.specs.Elaborations.{elaboration_fault}
use Rattle.elaboration.specs.kept.Elaborations.{Elaborated, IsElaboration, IsNode, IsScope}
use Rattle.elaboration.specs.kept.Numbered.{PlacedScope, ref_at}
use Rattle.elaboration.specs.Ports.{fault_at}
use Rattle.elaboration.specs.Scopes.{Scope, gates_of, nets_of, node_at, own_gate, own_gates, scopes_of}
use Rattle.elaboration.specs.kept.SoundScopes.{IsSoundScope}
use Rattle.elaboration.specs.Tops.{top_of}
use Rattle.vread.specs.LateFaults as late
use Rattle.vread.specs.kept.Parts as kept_parts
use Rattle.vread.specs.kept.Parts.{gate_count, kept_fault}
use Rattle.vread.proofs.GateLemmas.{input_driven_same, long_named_same, port_wrong_same}
use Rattle.vread.proofs.ZipLemmas.{any_zip, zip_both}

abbrev most : ℕ
most = 2 ^ 64 - 1

-- Tests that fail.

pub none_of : {X : Type 0} (p : X → Bool) (xs : List X) → list_any p xs ≡ false → All (λ x. p x ≡ false) xs
none_of p [] none = All-nil (λ x. p x ≡ false)
none_of p (x ∷ xs) none = let both = or_parts (p x) (list_any p xs) none in All-cons (λ y. p y ≡ false) x xs both.0 (none_of p xs both.1)

pub record AllFail (a b c d e : Bool) : Type 0 where
  pub first : a ≡ false
  pub second : b ≡ false
  pub third : c ≡ false
  pub fourth : d ≡ false
  pub fifth : e ≡ false

-- the first of five tests that holds says the fault
abbrev pub chain : (a b c d e : Bool) → Option ReadFaultKind
chain a b c d e = cond a (Some PortKind) (cond b (Some (Edit BadName)) (cond c (Some (Edit TooMany)) (cond d (Some (Edit TooMany)) (cond e (Some (Edit DrivenInput)) None))))

all_fail : (a b c d e : Bool) → chain a b c d e ≡ None → AllFail a b c d e
all_fail true b c d e is = absurd (cc)
all_fail false true c d e is = absurd (cc)
all_fail false false true d e is = absurd (cc)
all_fail false false false true e is = absurd (cc)
all_fail false false false false true is = absurd (cc)
all_fail false false false false false is = record { first = refl; second = refl; third = refl; fourth = refl; fifth = refl }

-- where scopes have no fault, each of its tests fails
pub no_fault : (names : List (List ℕ)) (modules : List (ℕ × ModuleEntry)) (top : ModuleEntry) → late.scopes_fault names modules top ≡ None
    → AllFail (list_any (late.is_port_wrong names modules) (scopes_of names modules top)) (list_any (late.is_long_named names modules) (scopes_of names modules top)) (nat_lt MAX_NETS (length (nets_of names modules top)))
    (nat_lt MAX_GATES (length (gates_of names modules top))) (list_any (late.is_input_driven names modules) (scopes_of names modules top))
no_fault names modules top =
    all_fail (list_any (late.is_port_wrong names modules) (scopes_of names modules top)) (list_any (late.is_long_named names modules) (scopes_of names modules top)) (nat_lt MAX_NETS (length (nets_of names modules top)))
    (nat_lt MAX_GATES (length (gates_of names modules top))) (list_any (late.is_input_driven names modules) (scopes_of names modules top))

-- Counts.

count_step : (c n m : ℕ) → c ≤ most → min (min (c + n) most + m) most ≡ min (c + (n + m)) most
count_step c n m small = omega arith

length_gates : (names : List (List ℕ)) (modules : List (ℕ × ModuleEntry)) (flat : List netlists.NetEntry) (kepts : List PlacedScope) (scopes : List Scope) (count : ℕ) → count ≤ most → AllZip (IsScope names modules flat) kepts scopes
    → fold (λ c scope. min (c + length scope.entry.gates) most) count kepts ≡ min (count + length (flat_map (own_gates names modules) scopes)) most
length_gates names modules flat [] [] count small zip = omega arith
length_gates names modules flat [] (s ∷ scopes) count small zip = absurd zip
length_gates names modules flat (k ∷ kepts) [] count small zip = absurd zip
length_gates names modules flat (k ∷ kepts) (s ∷ scopes) count small zip =
    let mine = own_gates names modules s in
    let others = flat_map (own_gates names modules) scopes in
    let here : length k.entry.gates ≡ length mine = ap (λ (m : ModuleEntry). length m.gates) zip.0.entry ∙ sym (length-map s.entry.gates (own_gate names modules s)) in
    length_gates names modules flat kepts scopes (min (count + length k.entry.gates) most) (omega arith) zip.1
    ∙ ap (λ n. min (min (count + n) most + length others) most) here
    ∙ count_step count (length mine) (length others) small
    ∙ ap (λ n. min (count + n) most) (sym (length-append mine others))

over : (limit greatest c n : ℕ) → limit < greatest → c ≡ min n greatest → nat_lt limit c ≡ nat_lt limit n
over limit greatest c n low e = grind (arith, nat_tests)

within : (limit greatest c n : ℕ) → limit < greatest → c ≤ limit → c ≡ min n greatest → false ≡ nat_lt limit n
within limit greatest c n low few e = grind (arith, nat_tests)

-- A design that modules make.
module _ (text : List ℕ) (list : ModuleList) (design : Elaborated) (is : IsElaboration text list design) where
  abbrev names : List (List ℕ)
  names = list.names

  abbrev modules : List (ℕ × ModuleEntry)
  modules = list.modules

  abbrev top : ModuleEntry
  top = design.top.1

  abbrev flat : List netlists.NetEntry
  flat = nets_of names modules top

  abbrev scopes : List Scope
  scopes = scopes_of names modules top

  abbrev Kept : PlacedScope → Scope → Type 0
  Kept = IsScope names modules flat

  -- the same fault, where there are not too many nets; `refs` says what terminals are
  pub fault_same : design.net_count ≤ MAX_NETS → ((kept : PlacedScope) (scope : Scope) → Kept kept scope → (terminal : Terminal) → IsNode flat (ref_at kept terminal) (node_at names modules scope terminal)) → All (IsSoundScope names) scopes
      → kept_fault names design ≡ late.scopes_fault names modules top
  fault_same few refs sound =
      let ports : list_any kept_parts.is_port_wrong design.scopes ≡ list_any (late.is_port_wrong names modules) scopes =
      any_zip Kept kept_parts.is_port_wrong (late.is_port_wrong names modules) (port_wrong_same names modules flat refs) design.scopes scopes is.scopes in
      let long : list_any (kept_parts.is_long_named names) design.scopes ≡ list_any (late.is_long_named names modules) scopes =
      any_zip (λ kept scope. Kept kept scope × IsSoundScope names scope) (kept_parts.is_long_named names) (late.is_long_named names modules)
      (λ kept scope both. long_named_same names modules flat refs kept scope both.0 both.1) design.scopes scopes (zip_both Kept (IsSoundScope names) design.scopes scopes is.scopes sound) in
      let not_many : false ≡ nat_lt MAX_NETS (length flat) = within MAX_NETS (2 ^ 32 - 1) design.net_count (length flat) (omega arith) few is.net_count in
      let counted : gate_count design.scopes ≡ min (length (gates_of names modules top)) most =
      length_gates names modules flat design.scopes scopes 0 (omega arith) is.scopes ∙ (let on : 0 + length (gates_of names modules top) ≡ length (gates_of names modules top) = omega arith in ap (λ n. min n most) on) in
      let many_gates : nat_lt MAX_GATES (gate_count design.scopes) ≡ nat_lt MAX_GATES (length (gates_of names modules top)) = over MAX_GATES most (gate_count design.scopes) (length (gates_of names modules top)) (omega arith) counted in
      let driven : list_any kept_parts.is_input_driven design.scopes ≡ list_any (late.is_input_driven names modules) scopes =
      any_zip Kept kept_parts.is_input_driven (late.is_input_driven names modules) (input_driven_same names modules flat refs) design.scopes scopes is.scopes in
      ap (λ a. chain a (list_any (kept_parts.is_long_named names) design.scopes) false (nat_lt MAX_GATES (gate_count design.scopes)) (list_any kept_parts.is_input_driven design.scopes)) ports
      ∙ ap (λ b. chain (list_any (late.is_port_wrong names modules) scopes) b false (nat_lt MAX_GATES (gate_count design.scopes)) (list_any kept_parts.is_input_driven design.scopes)) long
      ∙ ap (λ c. chain (list_any (late.is_port_wrong names modules) scopes) (list_any (late.is_long_named names modules) scopes) c (nat_lt MAX_GATES (gate_count design.scopes)) (list_any kept_parts.is_input_driven design.scopes)) not_many
      ∙ ap (λ d. chain (list_any (late.is_port_wrong names modules) scopes) (list_any (late.is_long_named names modules) scopes) (nat_lt MAX_NETS (length flat)) d (list_any kept_parts.is_input_driven design.scopes)) many_gates
      ∙ ap (λ e. chain (list_any (late.is_port_wrong names modules) scopes) (list_any (late.is_long_named names modules) scopes) (nat_lt MAX_NETS (length flat)) (nat_lt MAX_GATES (length (gates_of names modules top))) e) driven

-- the fault of modules that have no other is that of the scopes
pub late_is : (text : List ℕ) (list : ModuleList) (top : ℕ × ModuleEntry) → elaboration_fault text list.modules ≡ None → top_of list.modules ≡ Some top
    → late.late_fault text list ≡ option_map (fault_at text top.1.start) (late.scopes_fault list.names list.modules top.1)
late_is text list entry faultless is =
    ap (λ (e : Option ReadFault). option_or e (option_map_or (late.design_fault text list) (top_of list.modules) None)) faultless
    ∙ ap (λ (t : Option (ℕ × ModuleEntry)). option_map_or (late.design_fault text list) t None) is
