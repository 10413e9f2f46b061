-- What is found in scopes one at a time is what the scopes of the design have.
use Rattle.std.proofs.Common.{◌≡◌, ℕ, zero, suc, ◌+◌, ◌-◌, ◌^◌, ◌<◌, ◌≤◌, min, nat_eq, nat_lt, arith, Bool, true, false, ◌||◌, List, [], ◌∷◌, ◌++◌, get_or, length, replicate, Option, Some, None, All, refl, sym, ap, subst, ◌∙◌, length-append, below_more}
use Rattle.std.specs.Prelude.{IfSome, codes, flat_map, option_map}
use Rattle.std.specs.List.{list_any}
use Rattle.std.specs.Map.{lookup}
use Rattle.std.specs.Option.{option_map_or}
use Rattle.std.proofs.Math.Bool.{or-false}
use Rattle.std.proofs.lemmas.Bool.Decides.{nat_tests}
use Rattle.std.proofs.lemmas.List.{get_or_default, length-replicate}
use Rattle.std.proofs.lemmas.List.Elements.{All-cons, All-head, All-nil, All-tail}
use Rattle.std.proofs.lemmas.List.Folds.{list_any-append, list_any_at, list_any_none}
use Rattle.std.proofs.lemmas.Map.Entries.{All-lookup}
use Rattle.fourstate.specs.declared.net.NetKind.TheVariants.{Wire}
use Rattle.design.specs.declared.limits.TheConstants.{MAX_GATES, MAX_NAME, MAX_NETS}
use Rattle.design.specs.Netlist as netlists
use Rattle.edits.specs.declared.fault.EditFault.TheVariants.{BadName, TooMany}
use Rattle.vtext.specs.declared.fault.ReadFaultKind.{ReadFaultKind}
use Rattle.vtext.specs.declared.fault.ReadFaultKind.TheVariants.{Edit, PortKind}
use Rattle.vtext.specs.declared.gate.Terminal.{Terminal}
use Rattle.vtext.specs.declared.gate.Terminal.TheVariants as terminals
use Rattle.vtext.specs.Modules.{GateEntry, InstanceEntry, ModuleEntry}
use Rattle.vtext.specs.Names.{name_at}
use Rattle.elaboration.specs.declared.limits.TheConstants.{MAX_DEPTH}
use Rattle.elaboration.specs.kept.Elaborations.{IsNode, IsScope}
use Rattle.elaboration.specs.kept.Numbered.{AreDistinct, PlacedScope, inner_alone, ref_at, top_alone}
use Rattle.elaboration.specs.Scopes.{Scope, gates_of, inner, nets_of, node_at, scopes_below, scopes_of, top_scope}
use Rattle.elaboration.specs.kept.SoundScopes.{IsSoundScope}
use Rattle.vread.specs.declared.search.Wanted.{Wanted}
use Rattle.vread.specs.declared.search.Wanted.TheVariants.{LongName, WrongPort}
use Rattle.vread.specs.LateFaults as late
use Rattle.vread.specs.kept.Parts as parts
use Rattle.vread.specs.kept.Searches.{AreAlike, any_below, any_inside, any_scope, is_wanted, path_after}
use Rattle.vread.proofs.FaultLemmas.{chain}
use Rattle.vread.proofs.GateLemmas.{any_same, long_after_same, port_wrong_same}
use Rattle.vread.proofs.NewNetLemmas.{all_right}

abbrev most : ℕ
most = 2 ^ 64 - 1

-- Lists and tests.

or_same : (a b c d : Bool) → a ≡ b → c ≡ d → (a || c) ≡ (b || d)
or_same a b c d first second = ap (λ (x : Bool). x || c) first ∙ ap (λ (x : Bool). b || x) second

all_left : {X : Type 0} (P : X → Type 0) (xs ys : List X) → All P (xs ++ ys) → All P xs
all_left P [] ys all = All-nil P
all_left P (x ∷ xs) ys all = All-cons P x xs (All-head P x (xs ++ ys) all) (all_left P xs ys (All-tail P x (xs ++ ys) all))

-- so many nets that no place counts
unfoldable copies : ℕ → List netlists.NetEntry
copies n = replicate n (netlists.new_net [] Wire false)

copies_count : (n : ℕ) → n ≤ length (copies n)
unfolding copies
copies_count n = omega (arith, length-replicate n (netlists.new_net [] Wire false))

-- Paths.

path_longer : (path a b whole : ℕ) → path ≡ min a most → whole ≡ a + b + 1 → min (path + b + 1) most ≡ min whole most
path_longer path a b whole on is = omega arith

path_counts : (path a n : ℕ) → path ≡ min a most → nat_lt MAX_NAME (path + n) ≡ nat_lt MAX_NAME (a + n)
path_counts path a n on = grind (arith, nat_tests)

-- A scope with another path.

abbrev with_path : PlacedScope → List ℕ → PlacedScope
with_path kept path = record kept { path = path }

ref_same : (kept : PlacedScope) (path : List ℕ) (terminal : Terminal) → ref_at (with_path kept path) terminal ≡ ref_at kept terminal
ref_same kept path (terminals.Constant value) = refl
ref_same kept path (terminals.Net n) = refl
ref_same kept path (terminals.Bit n i) = refl

port_same : (kept : PlacedScope) (path : List ℕ) → parts.is_port_wrong (with_path kept path) ≡ parts.is_port_wrong kept
port_same kept path =
    ap (λ (b : Bool). parts.any_slot parts.is_misjoined kept.slots kept.entry.nets || b)
    (any_same (parts.drives_constant (with_path kept path)) (parts.drives_constant kept) (λ (gate : GateEntry). ap parts.is_tied (ref_same kept path gate.output)) kept.entry.gates)

module _ (names : List (List ℕ)) (modules : List (ℕ × ModuleEntry)) where
  abbrev pub Inner : List netlists.NetEntry → Type 0
  Inner flat = (kept : PlacedScope) (scope : Scope) (i : InstanceEntry) (m : ModuleEntry) → AreDistinct m.nets → IsScope names modules flat (record kept { path = scope.path }) scope
      → IsScope names modules flat (record (inner_alone kept i m) { path = (inner names modules scope i m).path }) (inner names modules scope i m)

  path_inside : (path : ℕ) (scope : Scope) (i : InstanceEntry) (m : ModuleEntry) → path ≡ min (length scope.path) most → path_after names path i ≡ min (length (inner names modules scope i m).path) most
  path_inside path scope i m on =
      path_longer path (length scope.path) (length (name_at names i.name)) (length (inner names modules scope i m).path) on
      (length-append (scope.path ++ name_at names i.name) (codes ".") ∙ ap (λ (n : ℕ). n + 1) (length-append scope.path (name_at names i.name)))

  -- All below a scope.
  module _ (flat : List netlists.NetEntry) (inner_ok : Inner flat) (distinct : All (λ m. AreDistinct m.1.nets) modules) (wanted : Wanted) (has : Scope → Bool)
      (same : (path : ℕ) (kept : PlacedScope) (scope : Scope) → IsSoundScope names scope → path ≡ min (length scope.path) most → IsScope names modules flat (with_path kept scope.path) scope
      → is_wanted names wanted path kept ≡ has scope) where
    abbrev below_instance : ℕ → Scope → InstanceEntry → List Scope
    below_instance levels scope i = option_map_or (λ m. scopes_below names modules levels (inner names modules scope i m)) (lookup (nat_eq i.«module») modules) []

    abbrev Agrees : ℕ → Type 0
    Agrees levels = (path : ℕ) (kept : PlacedScope) (scope : Scope) → All (IsSoundScope names) (scopes_below names modules levels scope) → path ≡ min (length scope.path) most
        → IsScope names modules flat (with_path kept scope.path) scope → any_below names modules wanted levels path kept ≡ list_any has (scopes_below names modules levels scope)

    instance_agrees : (levels : ℕ) → Agrees levels → (path : ℕ) (kept : PlacedScope) (scope : Scope) → path ≡ min (length scope.path) most → IsScope names modules flat (with_path kept scope.path) scope
        → (i : InstanceEntry) (found : Option ModuleEntry) → IfSome found (λ m. AreDistinct m.nets)
        → All (IsSoundScope names) (option_map_or (λ m. scopes_below names modules levels (inner names modules scope i m)) found [])
        → option_map_or (λ m. any_below names modules wanted levels (path_after names path i) (inner_alone kept i m)) found false
        ≡ list_any has (option_map_or (λ m. scopes_below names modules levels (inner names modules scope i m)) found [])
    instance_agrees levels others path kept scope on is i None apart sound = refl
    instance_agrees levels others path kept scope on is i (Some m) apart sound =
        others (path_after names path i) (inner_alone kept i m) (inner names modules scope i m) sound (path_inside path scope i m on) (inner_ok kept scope i m apart is)

    instances_agree : (levels : ℕ) → Agrees levels → (path : ℕ) (kept : PlacedScope) (scope : Scope) → path ≡ min (length scope.path) most → IsScope names modules flat (with_path kept scope.path) scope
        → (instances : List InstanceEntry) → All (IsSoundScope names) (flat_map (below_instance levels scope) instances)
        → list_any (any_inside names modules wanted levels path kept) instances ≡ list_any has (flat_map (below_instance levels scope) instances)
    instances_agree levels others path kept scope on is [] sound = refl
    instances_agree levels others path kept scope on is (i ∷ instances) sound =
        let first = below_instance levels scope i in
        let rest = flat_map (below_instance levels scope) instances in
        or_same (any_inside names modules wanted levels path kept i) (list_any has first) (list_any (any_inside names modules wanted levels path kept) instances) (list_any has rest)
        (instance_agrees levels others path kept scope on is i (lookup (nat_eq i.«module») modules) (All-lookup (λ (m : ModuleEntry). AreDistinct m.nets) (nat_eq i.«module») modules distinct)
        (all_left (IsSoundScope names) first rest sound))
        (instances_agree levels others path kept scope on is instances (all_right (IsSoundScope names) first rest sound))
        ∙ sym (list_any-append has first rest)

    below_agrees : (levels : ℕ) → Agrees levels
    below_agrees zero path kept scope sound on is = same path kept scope (All-head (IsSoundScope names) scope [] sound) on is ∙ sym (or-false (has scope))
    below_agrees (suc levels) path kept scope sound on is =
        let rest = flat_map (below_instance levels scope) scope.entry.instances in
        or_same (is_wanted names wanted path kept) (has scope) (list_any (any_inside names modules wanted levels path kept) kept.entry.instances) (list_any has rest)
        (same path kept scope (All-head (IsSoundScope names) scope rest sound) on is)
        (ap (λ (m : ModuleEntry). list_any (any_inside names modules wanted levels path kept) m.instances) is.entry
        ∙ instances_agree levels (below_agrees levels) path kept scope on is scope.entry.instances (All-tail (IsSoundScope names) scope rest sound))

  -- The design with this module at its top; `refs`, `tops` and `inners` are laws.
  module _ (refs : (flat : List netlists.NetEntry) (kept : PlacedScope) (scope : Scope) → IsScope names modules flat kept scope → (terminal : Terminal) → IsNode flat (ref_at kept terminal) (node_at names modules scope terminal))
      (tops : (flat : List netlists.NetEntry) (m : ModuleEntry) → 2 ^ 32 ≤ length flat → IsScope names modules flat (top_alone m) (top_scope names modules m))
      (inners : (flat : List netlists.NetEntry) → 2 ^ 32 ≤ length flat → Inner flat)
      (distinct : All (λ m. AreDistinct m.1.nets) modules) (top : ModuleEntry) (sound : All (IsSoundScope names) (scopes_of names modules top)) where
    abbrev flat : List netlists.NetEntry
    flat = copies (2 ^ 32)

    many : 2 ^ 32 ≤ length flat
    many = copies_count (2 ^ 32)

    scopes_agree : (wanted : Wanted) (has : Scope → Bool)
        → ((path : ℕ) (kept : PlacedScope) (scope : Scope) → IsSoundScope names scope → path ≡ min (length scope.path) most → IsScope names modules flat (with_path kept scope.path) scope
        → is_wanted names wanted path kept ≡ has scope)
        → any_scope names modules wanted top ≡ list_any has (scopes_of names modules top)
    unfolding any_scope scopes_of
    scopes_agree wanted has same =
        below_agrees flat (inners flat many) distinct wanted has same MAX_DEPTH 0 (top_alone top) (top_scope names modules top) sound refl (tops flat top many)

    wrong_agrees : any_scope names modules WrongPort top ≡ list_any (late.is_port_wrong names modules) (scopes_of names modules top)
    wrong_agrees =
        scopes_agree WrongPort (late.is_port_wrong names modules)
        (λ path kept scope good on is. sym (port_same kept scope.path) ∙ port_wrong_same names modules flat (refs flat) (with_path kept scope.path) scope is)

    long_agrees : any_scope names modules LongName top ≡ list_any (late.is_long_named names modules) (scopes_of names modules top)
    long_agrees =
        scopes_agree LongName (late.is_long_named names modules)
        (λ path kept scope good on is. long_after_same names modules flat (refs flat) path (with_path kept scope.path) scope (λ n. path_counts path (length scope.path) n on) is good)

    -- the first of the tests of a module of too many nets
    abbrev kind_by : Bool → Bool → Bool → Option ReadFaultKind
    kind_by port long many = chain port long many (nat_lt MAX_GATES (length (gates_of names modules top))) (list_any (late.is_input_driven names modules) (scopes_of names modules top))

    pub port_is : any_scope names modules WrongPort top ≡ true → late.scopes_fault names modules top ≡ Some PortKind
    port_is found =
        ap (λ (b : Bool). kind_by b (list_any (late.is_long_named names modules) (scopes_of names modules top)) (nat_lt MAX_NETS (length (nets_of names modules top)))) (sym wrong_agrees ∙ found)

    no_port : any_scope names modules WrongPort top ≡ false
        → late.scopes_fault names modules top ≡ kind_by false (list_any (late.is_long_named names modules) (scopes_of names modules top)) (nat_lt MAX_NETS (length (nets_of names modules top)))
    no_port none =
        ap (λ (b : Bool). kind_by b (list_any (late.is_long_named names modules) (scopes_of names modules top)) (nat_lt MAX_NETS (length (nets_of names modules top)))) (sym wrong_agrees ∙ none)

    pub long_is : any_scope names modules WrongPort top ≡ false → any_scope names modules LongName top ≡ true → late.scopes_fault names modules top ≡ Some (Edit BadName)
    long_is none found = no_port none ∙ ap (λ (b : Bool). kind_by false b (nat_lt MAX_NETS (length (nets_of names modules top)))) (sym long_agrees ∙ found)

    over : (n : ℕ) → MAX_NETS < n → nat_lt MAX_NETS n ≡ true
    over n h = grind (arith, nat_tests)

    pub many_is : any_scope names modules WrongPort top ≡ false → any_scope names modules LongName top ≡ false → MAX_NETS < length (nets_of names modules top)
        → late.scopes_fault names modules top ≡ Some (Edit TooMany)
    many_is no_wrong no_long crowded =
        no_port no_wrong
        ∙ ap (λ (b : Bool). kind_by false b (nat_lt MAX_NETS (length (nets_of names modules top)))) (sym long_agrees ∙ no_long)
        ∙ ap (λ (b : Bool). kind_by false false b) (over (length (nets_of names modules top)) crowded)

-- instances that are alike, at their places
pub alike_at : (names : List (List ℕ)) (instances : List InstanceEntry) (place : ℕ) (a b : InstanceEntry) → 0 < place → place < length instances → a ≡ get_or instances (place - 1) a → b ≡ get_or instances place b
    → AreAlike names a b → (d : InstanceEntry) → AreAlike names (get_or instances (place - 1) d) (get_or instances place d)
alike_at names instances place a b more within is_a is_b alike d =
    subst (λ (x : InstanceEntry). AreAlike names x (get_or instances place d)) (is_a ∙ get_or_default instances (place - 1) a d (omega arith))
    (subst (λ (x : InstanceEntry). AreAlike names a x) (is_b ∙ get_or_default instances place b d within) alike)

-- One scope, level by level.
module _ (names : List (List ℕ)) (modules : List (ℕ × ModuleEntry)) (wanted : Wanted) (levels path : ℕ) (kept : PlacedScope) where
  -- instances that are alike have the same scopes, but for the bytes of their names
  pub alike_same : (a b : InstanceEntry) → AreAlike names a b → any_inside names modules wanted levels path kept b ≡ any_inside names modules wanted levels path kept a
  alike_same a b alike =
      ap (λ (n : ℕ). option_map_or (λ m. any_below names modules wanted levels (path_after names path b) (inner_alone kept b m)) (lookup (nat_eq n) modules) false) (sym alike.modules)
      ∙ ap (λ (n : ℕ). option_map_or (λ m. any_below names modules wanted levels (min (path + n + 1) most) (inner_alone kept b m)) (lookup (nat_eq a.«module») modules) false) (sym alike.lengths)
      ∙ ap (λ cs. option_map_or (λ m. any_below names modules wanted levels (path_after names path a) (inner_alone kept (record b { connections = cs }) m)) (lookup (nat_eq a.«module») modules) false) (sym alike.connections)

  -- Where it is.

  abbrev inside : ℕ → InstanceEntry → Bool
  inside fewer = any_inside names modules wanted fewer path kept

  pub any_here : is_wanted names wanted path kept ≡ true → true ≡ any_below names modules wanted levels path kept
  any_here found = step levels
    where
      step : (n : ℕ) → true ≡ any_below names modules wanted n path kept
      step zero = sym found
      step (suc n) = sym (ap (λ (b : Bool). b || list_any (inside n) kept.entry.instances) found)

  pub any_flat : levels ≡ 0 → is_wanted names wanted path kept ≡ false → false ≡ any_below names modules wanted levels path kept
  any_flat flat none = sym none ∙ ap (λ (n : ℕ). any_below names modules wanted n path kept) (sym flat)

  deeper : 0 < levels → any_below names modules wanted levels path kept ≡ (is_wanted names wanted path kept || list_any (inside (levels - 1)) kept.entry.instances)
  deeper more =
      let next : levels ≡ suc (levels - 1) = omega arith in
      ap (λ (n : ℕ). any_below names modules wanted n path kept) next

  inside_case : (fewer : ℕ) (i : InstanceEntry) (found : Option ModuleEntry) (inner : PlacedScope) (after : ℕ) → Some inner ≡ option_map (inner_alone kept i) found → after ≡ path_after names path i
      → option_map_or (λ m. any_below names modules wanted fewer (path_after names path i) (inner_alone kept i m)) found false ≡ any_below names modules wanted fewer after inner
  inside_case fewer i None inner after is on = absurd (cc)
  inside_case fewer i (Some m) inner after is on =
      let same : inner_alone kept i m ≡ inner = cc in
      ap (λ (s : PlacedScope). any_below names modules wanted fewer (path_after names path i) s) same ∙ ap (λ (n : ℕ). any_below names modules wanted fewer n inner) (sym on)

  -- the scope of an instance of a module that the text has
  pub inside_some : (fewer : ℕ) (i : InstanceEntry) (inner : PlacedScope) (after : ℕ) → Some inner ≡ option_map (inner_alone kept i) (lookup (nat_eq i.«module») modules) → after ≡ path_after names path i
      → inside fewer i ≡ any_below names modules wanted fewer after inner
  inside_some fewer i inner after is on = inside_case fewer i (lookup (nat_eq i.«module») modules) inner after is on

  inside_no : (fewer : ℕ) (i : InstanceEntry) (found : Option ModuleEntry) → ◌≡◌ {A = Option PlacedScope} None (option_map (inner_alone kept i) found)
      → option_map_or (λ m. any_below names modules wanted fewer (path_after names path i) (inner_alone kept i m)) found false ≡ false
  inside_no fewer i None is = refl
  inside_no fewer i (Some m) is = absurd (cc)

  -- of one that it has not
  pub inside_none : (fewer : ℕ) (i : InstanceEntry) → ◌≡◌ {A = Option PlacedScope} None (option_map (inner_alone kept i) (lookup (nat_eq i.«module») modules)) → inside fewer i ≡ false
  inside_none fewer i is = inside_no fewer i (lookup (nat_eq i.«module») modules) is

  -- one instance more that has it not
  pub none_next : (instances : List InstanceEntry) (place : ℕ) (i : InstanceEntry) → place < length instances → i ≡ get_or instances place i → inside levels i ≡ false
      → ((k : ℕ) → k < place → (d : InstanceEntry) → inside levels (get_or instances k d) ≡ false) → (k : ℕ) → k < place + 1 → (d : InstanceEntry) → inside levels (get_or instances k d) ≡ false
  none_next instances place i within is none before =
      below_more (λ (k : ℕ). (d : InstanceEntry) → inside levels (get_or instances k d) ≡ false) place before
      (λ d. ap (inside levels) (get_or_default instances place d i within ∙ sym is) ∙ none)

  module _ (instances : List InstanceEntry) (are : instances ≡ kept.entry.instances) (more : 0 < levels) (not_here : is_wanted names wanted path kept ≡ false) where
    all_of : any_below names modules wanted levels path kept ≡ list_any (inside (levels - 1)) instances
    all_of =
        deeper more
        ∙ ap (λ (b : Bool). b || list_any (inside (levels - 1)) kept.entry.instances) not_here
        ∙ ap (list_any (inside (levels - 1))) (sym are)

    pub found_inside : (k : ℕ) (d : InstanceEntry) → k < length instances → inside (levels - 1) (get_or instances k d) ≡ true → true ≡ any_below names modules wanted levels path kept
    found_inside k d within found = sym (all_of ∙ list_any_at (inside (levels - 1)) instances k d within found)

    pub none_inside : (place : ℕ) → length instances ≤ place → ((k : ℕ) → k < place → (d : InstanceEntry) → inside (levels - 1) (get_or instances k d) ≡ false)
        → false ≡ any_below names modules wanted levels path kept
    none_inside place past none = sym (all_of ∙ list_any_none (inside (levels - 1)) instances (λ k d within. none k (omega (arith, within, past)) d))
