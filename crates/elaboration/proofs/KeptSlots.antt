-- What is kept of the nets of a scope is what they are in the design.
use Rattle.std.proofs.Common.{◌≡◌, ℕ, zero, suc, ◌+◌, ◌-◌, ◌^◌, ◌<◌, ◌≤◌, min, cond, Bool, false, List, [], ◌∷◌, ◌++◌, length, map, Option, Some, None, is_none, unwrap_or, All, refl, sym, ap, subst, ◌∙◌, arith, append_assoc, length-append, ◌&&◌}
use Rattle.std.specs.Prelude.{flat_map, filter}
use Rattle.std.specs.List.{AllZip, slice_get}
use Rattle.std.proofs.lemmas.List.{length-map}
use Rattle.std.proofs.lemmas.List.Elements.{All-cons, All-nil}
use Rattle.std.specs.Option.{option_map_or}
use Rattle.std.proofs.lemmas.Option.{slice_get_within}
use Rattle.design.specs.Netlist.{NetEntry}
use Rattle.vtext.specs.declared.net.Net as nets
use Rattle.vtext.specs.Modules.{ModuleEntry}
use Rattle.vtext.specs.Names.{name_at}
use Rattle.vtext.specs.Bits.{bit_bytes}
use Rattle.vtext.specs.Nets.{is_input, net_kind}
use Rattle.vtext.specs.Ranges.{indexes, indexes_from, width, width_of}
use Rattle.vtext.specs.declared.range.Range.{Range}
use Rattle.elaboration.specs.declared.node.NodeRef.{NodeRef}
use Rattle.elaboration.specs.kept.Elaborations.{IsNode, IsSlot}
use Rattle.elaboration.specs.declared.node.NodeRef.TheVariants.{Nets, Tied}
use Rattle.elaboration.specs.kept.Numbered.{Start, is_own_slot, next_place, place_after, slot_node, slot_of, slots_from}
use Rattle.elaboration.specs.Scopes.{Node, Scope, flat_names, is_own, own_bits, own_net, wired}

-- Numbers and lists.

abbrev pub most : ℕ
most = 2 ^ 32 - 1

pub count_two : (a x y all top : ℕ) → all ≡ x + y → min (min (a + x) top + y) top ≡ min (a + all) top
count_two a x y all top e = omega arith

get_front : (xs ys : List NetEntry) (k : ℕ) (net : NetEntry) → slice_get xs k ≡ Some net → slice_get (xs ++ ys) k ≡ Some net
get_front [] ys k net e = absurd cc
get_front (x ∷ xs) ys zero net e = e
get_front (x ∷ xs) ys (suc k) net e = get_front xs ys k net e

get_behind : (xs ys : List NetEntry) (k : ℕ) → slice_get (xs ++ ys) (length xs + k) ≡ slice_get ys k
get_behind [] ys k = ap (slice_get ys) (omega arith)
get_behind (x ∷ xs) ys k = let on : length (x ∷ xs) + k ≡ suc (length xs + k) = omega arith in ap (slice_get (x ∷ (xs ++ ys))) on ∙ get_behind xs ys k

-- What a connected port is.

given_node : (top : Bool) (place : ℕ) (net : nets.Net) (kept : NodeRef) → slot_node (slot_of top place net (Some kept)) ≡ kept
given_node top place net (Nets run) = refl
given_node top place net (Tied value) = refl

given_own : (top : Bool) (place : ℕ) (net : nets.Net) (kept : NodeRef) → is_own_slot (slot_of top place net (Some kept)) ≡ false
given_own top place net (Nets run) = refl
given_own top place net (Tied value) = refl

-- Nets of the design that stand from a place on: all that is said of places holds where there are not too many nets.

module _ (names : List (List ℕ)) (modules : List (ℕ × ModuleEntry)) (flat : List NetEntry) where
  pub record At (place : ℕ) (more : List NetEntry) : Type 0 where
    pub stand : length flat < 2 ^ 32 → (k : ℕ) (net : NetEntry) → slice_get more k ≡ Some net → slice_get flat (place + k) ≡ Some net

  at_front : (place : ℕ) (xs ys : List NetEntry) → At place (xs ++ ys) → length flat < 2 ^ 32 → (k : ℕ) (net : NetEntry) → slice_get xs k ≡ Some net
      → slice_get flat (place + k) ≡ Some net
  at_front place xs ys at few k net there = at.stand few k net (get_front xs ys k net there)

  at_append : (place : ℕ) (xs ys : List NetEntry) → At place (xs ++ ys) → At (min (place + length xs) most) ys
  at_append place xs ys at = record {
    stand = λ few k other e.
        let found : slice_get flat (place + (length xs + k)) ≡ Some other = at.stand few (length xs + k) other (get_behind xs ys k ∙ e) in
        let within : place + (length xs + k) < length flat = slice_get_within flat (place + (length xs + k)) other found in
        let next : min (place + length xs) most + k ≡ place + (length xs + k) = omega arith in
        ap (slice_get flat) next ∙ found;
  }

  -- The bits of a net.

  indexes_count : (range : Range) (place count : ℕ) → length (indexes_from range place count) ≡ count
  indexes_count range place zero = refl
  indexes_count range place (suc count) = ap suc (indexes_count range (suc place) count)

  pub bits_count : (scope : Scope) (net : ℕ × nets.Net) → length (own_bits names modules scope net) ≡ width_of net.1.range
  bits_count scope net = length-map (flat_names names net) (own_net names modules scope net.1) ∙ step net.1.range
    where
      step : (range : Option Range) → length (option_map_or (λ range. map (bit_bytes (name_at names net.0)) (indexes range)) range (name_at names net.0 ∷ [])) ≡ width_of range
      step None = refl
      step (Some range) = length-map (indexes range) (bit_bytes (name_at names net.0)) ∙ indexes_count range 0 (width range)

  bits_all : (P : NetEntry → Type 0) (scope : Scope) (net : ℕ × nets.Net) → ((name : List ℕ) → P (own_net names modules scope net.1 name)) → All P (own_bits names modules scope net)
  bits_all P scope net holds = step (flat_names names net)
    where
      step : (bytes : List (List ℕ)) → All P (map (own_net names modules scope net.1) bytes)
      step [] = All-nil P
      step (name ∷ more) = All-cons P (own_net names modules scope net.1 name) (map (own_net names modules scope net.1) more) (holds name) (step more)

  -- What ports are connected to.

  abbrev pub IsGiven : Option NodeRef → Option Node → Type 0
  IsGiven (Some kept) (Some node) = IsNode flat kept node
  IsGiven None None = Unit {0}
  IsGiven kept given = ⊥

  pub record IsStart (start : Start) (scope : Scope) : Type 0 where
    pub entry : start.entry ≡ scope.entry
    pub path : start.path ≡ scope.path
    pub top : start.top ≡ scope.top
    pub given : AllZip (λ g net. IsGiven g (scope.given net.0)) start.given scope.entry.nets

  -- One scope.

  module _ (scope : Scope) where
    abbrev owned : List (ℕ × nets.Net) → List NetEntry
    owned listed = flat_map (own_bits names modules scope) (filter (is_own names modules scope) listed)

    pub record AreSlots (place : ℕ) (listed : List (ℕ × nets.Net)) (given : List (Option NodeRef)) (rest : List NetEntry) : Type 0 where
      pub slots : AllZip (IsSlot names modules flat scope) (slots_from scope.top place listed given) listed
      pub next : At (place_after place listed given) rest
      pub count : place_after place listed given ≡ min (place + length (owned listed)) most

    -- a connected port
    slot_given : (place : ℕ) (net : ℕ × nets.Net) (more : List (ℕ × nets.Net)) (kept : NodeRef) (node : Node) (given : List (Option NodeRef)) (rest : List NetEntry)
        → scope.given net.0 ≡ Some node → IsNode flat kept node → (owned more ≡ owned (net ∷ more) → AreSlots place more given rest) → AreSlots place (net ∷ more) (Some kept ∷ given) rest
    slot_given place net more kept node given rest e is others =
        let skip : owned more ≡ owned (net ∷ more) =
        ap (λ (o : Option Node). flat_map (own_bits names modules scope) (cond (is_none o) (net ∷ filter (is_own names modules scope) more) (filter (is_own names modules scope) more))) (sym e) in
        let tail = others skip in
        record {
          slots = (
            record {
              node = subst (λ (k : NodeRef). IsNode flat k (unwrap_or (scope.given net.0) (wired (own_bits names modules scope net)))) (sym (given_node scope.top place net.1 kept))
                  (subst (λ (o : Option Node). IsNode flat kept (unwrap_or o (wired (own_bits names modules scope net)))) (sym e) is);
              own = given_own scope.top place net.1 kept ∙ ap (λ (o : Option Node). is_none o) (sym e);
            },
            tail.slots,
          );
          next = tail.next;
          count = tail.count ∙ ap (λ (ns : List NetEntry). min (place + length ns) most) skip;
        }

    -- a net of its own
    slot_own : (place : ℕ) (net : ℕ × nets.Net) (more : List (ℕ × nets.Net)) (given : List (Option NodeRef)) (rest : List NetEntry)
        → scope.given net.0 ≡ None → At place (owned (net ∷ more) ++ rest)
        → (At (next_place place net.1 None) (owned more ++ rest) → AreSlots (next_place place net.1 None) more given rest)
        → AreSlots place (net ∷ more) (None ∷ given) rest
    slot_own place net more given rest e at others =
        let mine : List NetEntry = own_bits names modules scope net in
        let size : length mine ≡ width_of net.1.range = bits_count scope net in
        let first : owned (net ∷ more) ≡ mine ++ owned more =
        ap (λ (o : Option Node). flat_map (own_bits names modules scope) (cond (is_none o) (net ∷ filter (is_own names modules scope) more) (filter (is_own names modules scope) more))) e in
        let here : At place (mine ++ (owned more ++ rest)) =
        subst (λ (ns : List NetEntry). At place ns) (ap (λ (ns : List NetEntry). ns ++ rest) first ∙ append_assoc mine (owned more) rest) at in
        let after : At (next_place place net.1 None) (owned more ++ rest) =
        subst (λ (n : ℕ). At (min (place + n) most) (owned more ++ rest)) size (at_append place mine (owned more ++ rest) here) in
        let tail = others after in
        let many : length (owned (net ∷ more)) ≡ width_of net.1.range + length (owned more) =
        ap length first ∙ length-append mine (owned more) ∙ ap (λ n. n + length (owned more)) size in
        record {
          slots = (
            record {
              node = subst (λ (o : Option Node). IsNode flat (slot_node (slot_of scope.top place net.1 None)) (unwrap_or o (wired mine))) (sym e)
                  (record {
                    width = sym size;
                    kinds = bits_all (λ net_entry. net_kind net.1 ≡ net_entry.kind) scope net (λ name. refl);
                    inputs = bits_all (λ net_entry. (scope.top && is_input net.1) ≡ net_entry.is_input) scope net (λ name. refl);
                    places = λ few k other there. at_front place mine (owned more ++ rest) here few k other there;
                  });
              own = ap (λ (o : Option Node). is_none o) (sym e);
            },
            tail.slots,
          );
          next = tail.next;
          count = tail.count ∙ count_two place (width_of net.1.range) (length (owned more)) (length (owned (net ∷ more))) most many;
        }

    one_net : (place : ℕ) (net : ℕ × nets.Net) (more : List (ℕ × nets.Net)) (g : Option NodeRef) (given : List (Option NodeRef)) (rest : List NetEntry) (node : Option Node)
        → scope.given net.0 ≡ node → IsGiven g node → At place (owned (net ∷ more) ++ rest)
        → place ≤ most → ((from : ℕ) → from ≤ most → At from (owned more ++ rest) → AreSlots from more given rest) → AreSlots place (net ∷ more) (g ∷ given) rest
    one_net place net more (Some kept) given rest (Some node) e is at small others =
        slot_given place net more kept node given rest e is (λ skip. others place small (subst (λ (ns : List NetEntry). At place (ns ++ rest)) (sym skip) at))
    one_net place net more (Some kept) given rest None e is at small others = absurd is
    one_net place net more None given rest (Some node) e is at small others = absurd is
    one_net place net more None given rest None e is at small others = slot_own place net more given rest e at (others (next_place place net.1 None) (omega arith))

    pub slots_ok : (place : ℕ) (listed : List (ℕ × nets.Net)) (given : List (Option NodeRef)) (rest : List NetEntry) → place ≤ most
        → AllZip (λ g net. IsGiven g (scope.given net.0)) given listed → At place (owned listed ++ rest) → AreSlots place listed given rest
    slots_ok place [] [] rest small zip at = record { slots = tt; next = at; count = omega arith }
    slots_ok place [] (g ∷ given) rest small zip at = absurd zip
    slots_ok place (net ∷ more) [] rest small zip at = absurd zip
    slots_ok place (net ∷ more) (g ∷ given) rest small zip at =
        one_net place net more g given rest (scope.given net.0) refl zip.0 at small (λ from low here. slots_ok from more given rest low zip.1 here)
