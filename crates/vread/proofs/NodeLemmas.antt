-- What is kept of a node says what the node is.
use Rattle.std.proofs.Common.{◌≡◌, ℕ, ◌+◌, ◌<◌, ◌^◌, nat_lt, arith, Bool, true, false, ◌&&◌, ◌||◌, List, [], ◌∷◌, length, All, Option, Some, is_some, IsSomeAnd, true≢false, refl, sym, ap, subst, ◌∙◌}
use Rattle.std.specs.List.{list_any, slice_get}
use Rattle.std.specs.Option.{option_map_or}
use Rattle.std.proofs.lemmas.Bool.{or_parts}
use Rattle.std.proofs.lemmas.Bool.Decides.{nat_tests}
use Rattle.std.proofs.lemmas.List.Elements.{All-head}
use Rattle.std.proofs.lemmas.List.Folds.{list_any_none}
use Rattle.fourstate.specs.Nets.{rule_of}
use Rattle.fourstate.specs.declared.net.NetKind.{NetKind}
use Rattle.design.specs.Netlist as netlists
use Rattle.vtext.specs.Modules.{ModuleEntry}
use Rattle.elaboration.specs.declared.node.NetRun.{NetRun}
use Rattle.elaboration.specs.declared.node.NodeRef.{NodeRef}
use Rattle.elaboration.specs.declared.node.NodeRef.TheVariants.{Nets, Tied}
use Rattle.elaboration.specs.kept.Elaborations.{IsNode, IsRun}
use Rattle.elaboration.specs.Scopes.{Node, tied, wired}
use Rattle.elaboration.specs.Scopes as scopes
use Rattle.elaboration.specs.kept.SoundScopes.{IsSingleNode}
use Rattle.vread.specs.LateFaults as late
use Rattle.vread.specs.kept.Parts as parts
use Rattle.vread.specs.kept.Parts.{net_at}

some_there : (n : ℕ) → 0 < n → nat_lt 0 n ≡ true
some_there n there = grind (arith, nat_tests)

none_passes : (n : ℕ) → nat_lt 0 n && false ≡ false
none_passes n = with_test (nat_lt 0 n)
  where
    with_test : (b : Bool) → b && false ≡ false
    with_test true = refl
    with_test false = refl

-- of items that all do the same in a test, one passes where there is one and they do
any_alike : {X : Type 0} (p : X → Bool) (b : Bool) (xs : List X) → All (λ x. b ≡ p x) xs → nat_lt 0 (length xs) && b ≡ list_any p xs
any_alike p b [] all = refl
any_alike p true (x ∷ xs) all =
    ap (λ (t : Bool). t && true) (some_there (length (x ∷ xs)) (omega arith)) ∙ sym (ap (λ (t : Bool). t || list_any p xs) (sym (All-head (λ y. true ≡ p y) x xs all)))
any_alike p false (x ∷ xs) all = none_passes (length (x ∷ xs)) ∙ sym (list_any_none p (x ∷ xs) (λ k d within. sym (all k d within)))

-- Below, `flat` are the nets of the design.
module _ (flat : List netlists.NetEntry) where
  pub clashes_same : (kind : NetKind) (kept : NodeRef) (node : Node) → IsNode flat kept node → parts.clashes kind kept ≡ late.clashes kind node
  clashes_same kind (Nets run) (wired nets) is =
      let alike : Bool = late.is_clash (rule_of kind) (rule_of run.kind) in
      ap (λ (n : ℕ). nat_lt 0 n && alike) is.width
      ∙ any_alike (λ net. late.is_clash (rule_of kind) (rule_of net.kind)) alike nets
      (λ k d within. ap (λ (other : NetKind). late.is_clash (rule_of kind) (rule_of other)) (is.kinds k d within))
  clashes_same kind (Nets run) (tied value) is = absurd is
  clashes_same kind (Tied kept) (wired nets) is = absurd is
  clashes_same kind (Tied kept) (tied value) is = refl

  pub tied_same : (kept : NodeRef) (node : Node) → IsNode flat kept node → parts.is_tied kept ≡ late.is_constant_node node
  tied_same (Nets run) (wired nets) is = refl
  tied_same (Nets run) (tied value) is = absurd is
  tied_same (Tied kept) (wired nets) is = absurd is
  tied_same (Tied kept) (tied value) is = refl

  pub input_same : (kept : NodeRef) (node : Node) → IsNode flat kept node → parts.is_input_ref kept ≡ late.is_input_node node
  input_same (Nets run) (wired nets) is =
      ap (λ (n : ℕ). nat_lt 0 n && run.is_input) is.width ∙ any_alike (λ net. net.is_input) run.is_input nets is.inputs
  input_same (Nets run) (tied value) is = absurd is
  input_same (Tied kept) (wired nets) is = absurd is
  input_same (Tied kept) (tied value) is = refl

  -- What a terminal of a gate is, where there are not too many nets.
  module _ (few : length flat < 2 ^ 32) where
    none_single : IsSingleNode (wired []) → ⊥
    none_single single = omega (arith, single)

    many_single : (a b : netlists.NetEntry) (more : List netlists.NetEntry) → IsSingleNode (wired (a ∷ b ∷ more)) → ⊥
    many_single a b more single = omega (arith, single)

    -- a run of one net is at its place
    first_place : (run : NetRun) (net : netlists.NetEntry) → IsRun flat run (net ∷ []) → slice_get flat run.place ≡ Some net
    first_place run net is =
        let same : run.place + 0 ≡ run.place = omega arith in
        subst (λ (place : ℕ). slice_get flat place ≡ Some net) same (is.places few 0 net refl)

    place_name : (run : NetRun) (net : netlists.NetEntry) → IsRun flat run (net ∷ []) → net_at flat run.place ≡ net.name
    place_name run net is = ap (λ (found : Option netlists.NetEntry). option_map_or (λ n. n.name) found []) (first_place run net is)

    pub output_same : (names : List (List ℕ)) (modules : List (ℕ × ModuleEntry)) (kept : NodeRef) (node : Node) → IsNode flat kept node → IsSingleNode node → parts.output_of flat kept ≡ scopes.name_of_node names modules node
    output_same names modules (Nets run) (wired []) is single = absurd (none_single single)
    output_same names modules (Nets run) (wired (net ∷ [])) is single = place_name run net is
    output_same names modules (Nets run) (wired (a ∷ b ∷ more)) is single = absurd (many_single a b more single)
    output_same names modules (Nets run) (tied value) is single = absurd is
    output_same names modules (Tied kept) (wired nets) is single = absurd is
    output_same names modules (Tied kept) (tied value) is single = refl

    pub connection_same : (names : List (List ℕ)) (modules : List (ℕ × ModuleEntry)) (kept : NodeRef) (node : Node) → IsNode flat kept node → IsSingleNode node
        → parts.connection_of flat kept ≡ scopes.connection_of names modules node
    connection_same names modules (Nets run) (wired []) is single = absurd (none_single single)
    connection_same names modules (Nets run) (wired (net ∷ [])) is single =
        ap (λ (name : List ℕ). scopes.connection_of names modules (wired (netlists.new_net name net.kind net.is_input ∷ []))) (place_name run net is)
    connection_same names modules (Nets run) (wired (a ∷ b ∷ more)) is single = absurd (many_single a b more single)
    connection_same names modules (Nets run) (tied value) is single = absurd is
    connection_same names modules (Tied kept) (wired nets) is single = absurd is
    connection_same names modules (Tied kept) (tied value) is single = ap (λ v. scopes.connection_of names modules (tied v)) is

    pub readable : (kept : NodeRef) (node : Node) → IsNode flat kept node → IsSingleNode node → parts.IsReadable flat kept
    readable (Nets run) (wired []) is single = absurd (none_single single)
    readable (Nets run) (wired (net ∷ [])) is single = ap is_some (first_place run net is)
    readable (Nets run) (wired (a ∷ b ∷ more)) is single = absurd (many_single a b more single)
    readable (Nets run) (tied value) is single = absurd is
    readable (Tied kept) node is single = tt

    pub drivable : (kept : NodeRef) (node : Node) → IsNode flat kept node → IsSingleNode node → late.is_constant_node node ≡ false → late.is_input_node node ≡ false → parts.IsDrivable flat kept
    drivable (Nets run) (wired []) is single no_constant no_input = absurd (none_single single)
    drivable (Nets run) (wired (net ∷ [])) is single no_constant no_input =
        subst (λ (found : Option netlists.NetEntry). IsSomeAnd found (λ n. n.is_input ≡ false)) (sym (first_place run net is)) (or_parts net.is_input false no_input).0
    drivable (Nets run) (wired (a ∷ b ∷ more)) is single no_constant no_input = absurd (many_single a b more single)
    drivable (Nets run) (tied value) is single no_constant no_input = absurd is
    drivable (Tied kept) (wired nets) is single no_constant no_input = absurd is
    drivable (Tied kept) (tied value) is single no_constant no_input = absurd (true≢false no_constant)
