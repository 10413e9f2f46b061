-- Widths: what a terminal is in the design has as many nets as the terminal has bits, where each port has what its instance gives it.
use Rattle.std.proofs.Common.{◌≡◌, ℕ, zero, suc, ◌<◌, Bool, true, false, cond, not, ◌&&◌, ◌||◌, nat_eq, List, [], ◌∷◌, length, Option, Some, None, is_none, unwrap_or, IsSome, IsSomeAnd, MatchOption, All, true≢false, refl, sym, ap, subst, ◌∙◌, arith}
use Rattle.std.specs.Prelude.{option_and_then, option_map, position}
use Rattle.std.specs.List.{slice_get}
use Rattle.std.specs.Option.{option_map_or, option_or, option_to_list}
use Rattle.std.proofs.lemmas.Bool.{false≢true}
use Rattle.std.proofs.lemmas.Bool.Decides.{nat_tests}
use Rattle.std.proofs.lemmas.List.Elements.{All-head, All-tail}
use Rattle.fourstate.specs.declared.value.Value.TheVariants.{Unknown}
use Rattle.vtext.specs.declared.fault.ReadFaultKind.TheVariants.{PortKind, WidthMismatch}
use Rattle.vtext.specs.declared.gate.Terminal.{Terminal}
use Rattle.vtext.specs.declared.gate.Terminal.TheVariants.{Net, Bit, Constant}
use Rattle.vtext.specs.declared.module_instance.PortConnection.{PortConnection}
use Rattle.vtext.specs.declared.net.Net as nets
use Rattle.vtext.specs.declared.range.Range.{Range}
use Rattle.vtext.specs.Modules.{ModuleEntry}
use Rattle.vtext.specs.Nets.{is_scalar, is_used, net_of}
use Rattle.vtext.specs.Ranges.{has_bit, is_within, place_of_bit, width, width_of}
use Rattle.vtext.specs.kept.Sound.{IsJoinable, IsPortConnected, IsSingle}
use Rattle.design.specs.Netlist.{NetEntry}
use Rattle.elaboration.specs.Ports.{connection_fault, connections_fault, has_stranger, is_for, is_output, is_tied, is_width_wrong, joined_from, only_port, port_at, width_at}
use Rattle.elaboration.specs.Scopes.{Node, Scope, bit_node, node_at, node_for, node_of, own_bits, tied, wired}
use Rattle.elaboration.specs.kept.SoundScopes.{IsSingleNode}
use Rattle.elaboration.proofs.KeptSlots.{bits_count}
use Rattle.elaboration.proofs.PairLemmas.{position_first}

-- so many nets, or a constant for one
abbrev pub HasWidth : Node → ℕ → Type 0
HasWidth (wired nets) w = length nets ≡ w
HasWidth (tied value) w = 1 ≡ w

pub single_of : (node : Node) → HasWidth node 1 → IsSingleNode node
single_of (wired nets) has = has
single_of (tied value) has = tt

pub or_parts : (a b : Bool) → (a || b) ≡ false → (a ≡ false) × (b ≡ false)
or_parts true b e = absurd (true≢false e)
or_parts false b e = (refl, e)

pub or_none : {X : Type 0} (a b : Option X) → option_or a b ≡ None → (a ≡ None) × (b ≡ None)
or_none None b e = (refl, e)
or_none (Some x) b e = absurd cc

same_of : (a b : ℕ) → nat_eq a b ≡ true → a ≡ b
same_of a b e = grind (arith, nat_tests)

-- One bit.

within_width : (range : Range) (i : ℕ) → is_within range i ≡ true → place_of_bit range i < width range
within_width range i within = grind (arith, nat_tests)

one_bit : (nets : List NetEntry) (k : ℕ) → k < length nets → length (option_to_list (slice_get nets k)) ≡ 1
one_bit [] k inside = absurd (omega (arith, inside))
one_bit (net ∷ nets) zero inside = refl
one_bit (net ∷ nets) (suc k) inside = one_bit nets k (omega (arith, inside))

bit_width : (range : Option Range) (i : ℕ) (node : Node) → has_bit range i ≡ true → HasWidth node (width_of range) → HasWidth (bit_node range i node) 1
bit_width None i node has w = absurd (false≢true has)
bit_width (Some range) i (wired nets) has w = one_bit nets (place_of_bit range i) (subst (λ n. place_of_bit range i < n) (sym w) (within_width range i has))
bit_width (Some range) i (tied value) has w = refl

module _ (names : List (List ℕ)) (modules : List (ℕ × ModuleEntry)) where
  -- What is given.

  abbrev pub GivenWidth : Option Node → ℕ → Type 0
  GivenWidth given w = MatchOption given (Unit {0}) (λ node. HasWidth node w)

  -- each port that is given has its net's width
  abbrev pub AreGiven : Scope → Type 0
  AreGiven scope = (n : ℕ) (net : nets.Net) → net_of scope.entry.nets n ≡ Some net → GivenWidth (scope.given n) (width_of net.range)

  module _ (scope : Scope) (given : AreGiven scope) where
    node_width : (n : ℕ) (net : nets.Net) → net_of scope.entry.nets n ≡ Some net → HasWidth (node_of names modules scope (n, net)) (width_of net.range)
    node_width n net found = step (scope.given n) (given n net found)
      where
        step : (o : Option Node) → GivenWidth o (width_of net.range) → HasWidth (unwrap_or o (wired (own_bits names modules scope (n, net)))) (width_of net.range)
        step None w = bits_count names modules [] scope (n, net)
        step (Some node) w = w

    for_width : (n : ℕ) (net : nets.Net) → net_of scope.entry.nets n ≡ Some net → HasWidth (node_for names modules scope n) (width_of net.range)
    for_width n net found =
        subst (λ (o : Option nets.Net). HasWidth (option_map_or (λ x. node_of names modules scope (n, x)) o (tied Unknown)) (width_of net.range)) (sym found) (node_width n net found)

    -- of a terminal that a port may be connected to
    pub terminal_width : (terminal : Terminal) → IsJoinable scope.entry.nets terminal → HasWidth (node_at names modules scope terminal) (width_at scope.entry.nets terminal)
    terminal_width (Constant value) is = refl
    terminal_width (Net n) is = step (net_of scope.entry.nets n) refl is
      where
        step : (o : Option nets.Net) → net_of scope.entry.nets n ≡ o → IsSome o → HasWidth (node_for names modules scope n) (width_of (option_and_then (λ net. net.range) (net_of scope.entry.nets n)))
        step None found there = absurd (false≢true there)
        step (Some net) found there =
            subst (λ (o : Option nets.Net). HasWidth (node_for names modules scope n) (width_of (option_and_then (λ net. net.range) o))) (sym found) (for_width n net found)
    terminal_width (Bit n i) is = step (net_of scope.entry.nets n) refl is
      where
        step : (o : Option nets.Net) → net_of scope.entry.nets n ≡ o → IsSomeAnd o (λ net. has_bit net.range i ≡ true)
            → HasWidth (bit_node (option_and_then (λ net. net.range) (net_of scope.entry.nets n)) i (node_for names modules scope n)) 1
        step None found there = absurd there
        step (Some net) found there =
            subst (λ (o : Option nets.Net). HasWidth (bit_node (option_and_then (λ net. net.range) o) i (node_for names modules scope n)) 1) (sym found)
            (bit_width net.range i (node_for names modules scope n) there (for_width n net found))

    -- a terminal of a gate
    pub terminal_single : (terminal : Terminal) → IsSingle scope.entry.nets terminal → IsSingleNode (node_at names modules scope terminal)
    terminal_single (Constant value) is = tt
    terminal_single (Bit n i) is = single_of (node_at names modules scope (Bit n i)) (terminal_width (Bit n i) is)
    terminal_single (Net n) is = step (net_of scope.entry.nets n) refl is
      where
        scalar : (used : Bool) (range : Option Range) → (used && is_none range) ≡ true → width_of range ≡ 1
        scalar true None e = refl
        scalar true (Some range) e = absurd (false≢true e)
        scalar false range e = absurd (false≢true e)

        step : (o : Option nets.Net) → net_of scope.entry.nets n ≡ o → IsSomeAnd o (λ net. is_scalar net ≡ true) → IsSingleNode (node_for names modules scope n)
        step None found there = absurd there
        step (Some net) found there =
            single_of (node_for names modules scope n) (subst (HasWidth (node_for names modules scope n)) (scalar (is_used net) net.range there) (for_width n net found))

-- Connections: `outer` are the nets of the module that the instance is in.

module _ (outer : List (ℕ × nets.Net)) (m : ModuleEntry) (n : ℕ) (net : nets.Net) (known : net_of m.nets n ≡ Some net) where
  -- the net at the place of this name is this one
  placed_net : (listed : List (ℕ × nets.Net)) (place : ℕ) → net_of listed n ≡ Some net → position (λ o. nat_eq n o.0) listed ≡ Some place → option_map (λ o. o.1) (slice_get listed place) ≡ Some net
  placed_net [] place found e = absurd cc
  placed_net (x ∷ xs) place found e = step (nat_eq n x.0) refl found (sym (position_first (λ (o : ℕ × nets.Net). nat_eq n o.0) x xs) ∙ e) (placed_net xs)
    where
      step : (b : Bool) → nat_eq n x.0 ≡ b → cond b (Some x.1) (net_of xs n) ≡ Some net → cond b (Some 0) (option_map suc (position (λ o. nat_eq n o.0) xs)) ≡ Some place
          → ((p : ℕ) → net_of xs n ≡ Some net → position (λ o. nat_eq n o.0) xs ≡ Some p → option_map (λ o. o.1) (slice_get xs p) ≡ Some net)
          → option_map (λ o. o.1) (slice_get (x ∷ xs) place) ≡ Some net
      step true is found e others = let here : 0 ≡ place = cc in ap (λ (p : ℕ). option_map (λ (o : ℕ × nets.Net). o.1) (slice_get (x ∷ xs) p)) (sym here) ∙ found
      step false is found e others = behind (position (λ (o : ℕ × nets.Net). nat_eq n o.0) xs) refl e
        where
          behind : (o : Option ℕ) → position (λ o. nat_eq n o.0) xs ≡ o → option_map suc o ≡ Some place → option_map (λ o. o.1) (slice_get (x ∷ xs) place) ≡ Some net
          behind None at e = absurd cc
          behind (Some p) at e = let next : suc p ≡ place = cc in ap (λ (k : ℕ). option_map (λ (o : ℕ × nets.Net). o.1) (slice_get (x ∷ xs) k)) (sym next) ∙ others p found at

  module _ (place : ℕ) (there : position (λ o. nat_eq n o.0) m.nets ≡ Some place) where
    -- the connection is for this net
    net_for : (at : ℕ) (c : PortConnection) → is_for c at place n ≡ true → option_map_or (net_of m.nets) c.port (option_map (λ o. o.1) (slice_get m.nets at)) ≡ Some net
    net_for at c is = step c.port is
      where
        step : (port : Option ℕ) → option_map_or (nat_eq n) port (nat_eq place at) ≡ true → option_map_or (net_of m.nets) port (option_map (λ o. o.1) (slice_get m.nets at)) ≡ Some net
        step None e = ap (λ (k : ℕ). option_map (λ (o : ℕ × nets.Net). o.1) (slice_get m.nets k)) (sym (same_of place at e)) ∙ placed_net m.nets place known there
        step (Some name) e = ap (net_of m.nets) (sym (same_of n name e)) ∙ known

    -- and the port of the connection, if it has one
    port_for : (at : ℕ) (c : PortConnection) → is_for c at place n ≡ true → is_none (port_at m at c) ≡ false → port_at m at c ≡ Some net
    port_for at c is some = only net.port (ap (option_and_then only_port) (net_for at c is))
      where
        only : (port : Bool) → port_at m at c ≡ cond port (Some net) None → port_at m at c ≡ Some net
        only true e = e
        only false e = absurd (true≢false (sym (ap is_none e) ∙ some))

    width_fits : (c : PortConnection) (terminal : Terminal) → c.terminal ≡ Some terminal → connection_fault outer c net ≡ None → width_at outer terminal ≡ width_of net.range
    width_fits c terminal is none = step (nat_eq (width_at outer terminal) (width_of net.range)) refl
        (ap (λ (t : Option Terminal). cond (is_width_wrong outer t net) (Some WidthMismatch) (cond (is_output net.direction && is_tied c.terminal) (Some PortKind) None)) (sym is) ∙ none)
      where
        step : (b : Bool) → nat_eq (width_at outer terminal) (width_of net.range) ≡ b → cond (not b) (Some WidthMismatch) (cond (is_output net.direction && is_tied c.terminal) (Some PortKind) None) ≡ None
            → width_at outer terminal ≡ width_of net.range
        step true e none = same_of (width_at outer terminal) (width_of net.range) e
        step false e none = absurd cc

    pub record IsJoined (terminal : Terminal) : Type 0 where
      pub joinable : IsJoinable outer terminal
      pub width : width_at outer terminal ≡ width_of net.range

    pub joined_ok : (at : ℕ) (connections : List PortConnection) → has_stranger m at connections ≡ false → connections_fault outer m at connections ≡ None → All (IsPortConnected outer) connections
        → MatchOption (joined_from connections at place n) (Unit {0}) IsJoined
    joined_ok at [] strange none sound = tt
    joined_ok at (c ∷ cs) strange none sound =
        let known = or_parts (is_none (port_at m at c)) (has_stranger m (suc at) cs) strange in
        let faults = or_none (option_and_then (connection_fault outer c) (port_at m at c)) (connections_fault outer m (suc at) cs) none in
        step (is_for c at place n) refl known.0 faults.0 (joined_ok (suc at) cs known.1 faults.1 (All-tail (IsPortConnected outer) c cs sound))
      where
        here : (t : Option Terminal) → c.terminal ≡ t → is_for c at place n ≡ true → is_none (port_at m at c) ≡ false → option_and_then (connection_fault outer c) (port_at m at c) ≡ None
            → MatchOption t (Unit {0}) (IsJoinable outer) → MatchOption t (Unit {0}) IsJoined
        here None is_t is some fits joins = tt
        here (Some terminal) is_t is some fits joins = record {
          joinable = joins;
          width = width_fits c terminal is_t (sym (ap (option_and_then (connection_fault outer c)) (port_for at c is some)) ∙ fits);
        }

        step : (b : Bool) → is_for c at place n ≡ b → is_none (port_at m at c) ≡ false → option_and_then (connection_fault outer c) (port_at m at c) ≡ None
            → MatchOption (joined_from cs (suc at) place n) (Unit {0}) IsJoined → MatchOption (cond b c.terminal (joined_from cs (suc at) place n)) (Unit {0}) IsJoined
        step true is some fits rest = here c.terminal refl is some fits (All-head (IsPortConnected outer) c cs sound)
        step false is some fits rest = rest
