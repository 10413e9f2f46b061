-- The nets of scopes whose names are not too long have names that a design may have.
use Rattle.std.proofs.Common.{◌≡◌, ℕ, ◌+◌, ◌≤◌, nat_lt, nat_le, arith, IsTrue, Bool, true, false, true≢false, ◌&&◌, cond, List, [], ◌∷◌, ◌++◌, length, get_or, All, refl, sym, ap, ◌∙◌, length-append}
use Rattle.std.specs.Prelude.{filter, flat_map}
use Rattle.std.specs.List.{list_all, list_any}
use Rattle.std.proofs.lemmas.Bool.Decides.{nat_tests}
use Rattle.std.proofs.lemmas.Bool.{or_parts}
use Rattle.std.proofs.lemmas.List.Elements.{All-append, All-head, All-map, All-nil, All-tail}
use Rattle.std.proofs.lemmas.List.Folds.{list_all-append}
use Rattle.design.specs.declared.limits.TheConstants.{MAX_NAME}
use Rattle.design.specs.Names.{is_name, is_part, parts}
use Rattle.design.specs.Netlist as netlists
use Rattle.vtext.specs.declared.net.Net as nets
use Rattle.vtext.specs.Modules.{ModuleEntry}
use Rattle.vtext.specs.kept.Sound.{IsSoundNet}
use Rattle.elaboration.specs.Scopes.{Scope, flat_names, is_own, own_bits, own_net, own_nets}
use Rattle.elaboration.specs.kept.SoundScopes.{IsPath, IsSoundScope}
use Rattle.vread.specs.LateFaults as late
use Rattle.vread.specs.kept.Parts as kept_parts
use Rattle.vread.proofs.FaultLemmas.{none_of}

is_true : (b : Bool) → IsTrue b → b ≡ true
is_true b t = t

both_true : (a b : Bool) → a ≡ true → b ≡ true → IsTrue (a && b)
both_true true true e f = refl
both_true true false e f = absurd (true≢false (sym f))
both_true false b e f = absurd (true≢false (sym e))

all_parts : (ps : List (List ℕ)) → All (λ p. IsTrue (is_part p)) ps → list_all is_part ps ≡ true
all_parts [] all = refl
all_parts (p ∷ ps) all =
    ap (λ (b : Bool). b && list_all is_part ps) (is_true (is_part p) (All-head (λ q. IsTrue (is_part q)) p ps all)) ∙ all_parts ps (All-tail (λ q. IsTrue (is_part q)) p ps all)

short : (n : ℕ) → n ≤ MAX_NAME → nat_le n MAX_NAME ≡ true
short n few = grind (arith, nat_tests)

not_long : (n : ℕ) → nat_lt MAX_NAME n ≡ false → n ≤ MAX_NAME
not_long n e = grind (arith, nat_tests)

abbrev pub Named : netlists.NetEntry → Type 0
Named net = IsTrue (is_name net.name)

-- `whole` is a law of parts.
module _ (whole : (part : List ℕ) → IsTrue (is_part part) → parts part ≡ part ∷ []) where
  -- a part after a path is a name, if the whole is short enough
  pub path_name : (path : List ℕ) (instances : List (List ℕ)) (name : List ℕ) → IsPath path instances → IsTrue (is_part name) → kept_parts.is_long (length path) (length name) ≡ false → IsTrue (is_name (path ++ name))
  path_name path instances name is part fits =
      both_true (nat_le (length (path ++ name)) MAX_NAME) (list_all is_part (parts (path ++ name)))
      (short (length (path ++ name)) (omega (arith, not_long (length path + length name) fits, length-append path name)))
      (ap (list_all is_part) (is.parts_after name ∙ ap (λ ps. instances ++ ps) (whole name part))
      ∙ list_all-append is_part instances (name ∷ [])
      ∙ ap (λ (b : Bool). b && list_all is_part (name ∷ [])) (all_parts instances is.good)
      ∙ ap (λ (b : Bool). b && true) (is_true (is_part name) part))

  -- `flat_parts` says that names of bits are parts.
  module _ (names : List (List ℕ)) (modules : List (ℕ × ModuleEntry)) (flat_parts : (net : ℕ × nets.Net) → IsSoundNet names net → All (λ name. IsTrue (is_part name)) (flat_names names net)) where
    -- the bits of a net
    bits_named : (scope : Scope) → IsSoundScope names scope → (net : ℕ × nets.Net) → IsSoundNet names net → list_any (late.is_long names modules scope) (flat_names names net) ≡ false → All Named (own_bits names modules scope net)
    bits_named scope sound net good fits =
        All-map Named (own_net names modules scope net.1) (flat_names names net)
        (λ k d within.
        path_name scope.path sound.instances (get_or (flat_names names net) k d) sound.path (flat_parts net good k d within)
        (none_of (late.is_long names modules scope) (flat_names names net) fits k d within))

    -- those of a net that comes with the scope
    named_first : (scope : Scope) → IsSoundScope names scope → (net : ℕ × nets.Net) → IsSoundNet names net → late.is_long_net names modules scope net ≡ false
        → (rest : List (ℕ × nets.Net)) → All Named (flat_map (own_bits names modules scope) rest) → (b : Bool) → is_own names modules scope net ≡ b → All Named (flat_map (own_bits names modules scope) (cond b (net ∷ rest) rest))
    named_first scope sound net good fits rest others true own =
        All-append Named (own_bits names modules scope net) (flat_map (own_bits names modules scope) rest)
        (bits_named scope sound net good (sym (ap (λ (b : Bool). b && list_any (late.is_long names modules scope) (flat_names names net)) own) ∙ fits)) others
    named_first scope sound net good fits rest others false own = others

    own_named : (scope : Scope) → IsSoundScope names scope → (listed : List (ℕ × nets.Net)) → All (IsSoundNet names) listed → list_any (late.is_long_net names modules scope) listed ≡ false
        → All Named (flat_map (own_bits names modules scope) (filter (is_own names modules scope) listed))
    own_named scope sound [] good none = All-nil Named
    own_named scope sound (net ∷ listed) good none =
        let none_here = or_parts (late.is_long_net names modules scope net) (list_any (late.is_long_net names modules scope) listed) none in
        named_first scope sound net (All-head (IsSoundNet names) net listed good) none_here.0 (filter (is_own names modules scope) listed)
        (own_named scope sound listed (All-tail (IsSoundNet names) net listed good) none_here.1) (is_own names modules scope net) refl

    pub all_named : (scopes : List Scope) → All (IsSoundScope names) scopes → All (λ scope. late.is_long_named names modules scope ≡ false) scopes → All Named (flat_map (own_nets names modules) scopes)
    all_named [] sound fits = All-nil Named
    all_named (scope ∷ scopes) sound fits =
        let sound_here = All-head (IsSoundScope names) scope scopes sound in
        let none_here = or_parts (list_any (late.is_long_net names modules scope) scope.entry.nets) (list_any (late.is_long_gate names modules scope) scope.entry.gates)
        (All-head (λ (s : Scope). late.is_long_named names modules s ≡ false) scope scopes fits) in
        All-append Named (own_nets names modules scope) (flat_map (own_nets names modules) scopes)
        (own_named scope sound_here scope.entry.nets sound_here.sound.nets none_here.0)
        (all_named scopes (All-tail (IsSoundScope names) scope scopes sound) (All-tail (λ (s : Scope). late.is_long_named names modules s ≡ false) scope scopes fits))
