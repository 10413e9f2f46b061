-- Which gates the old design has.
use Rattle.std.proofs.Common.{◌≡◌, ℕ, zero, suc, ◌+◌, ◌∙◌, ap, sym, refl, List, [], ◌∷◌, Bool, true, false, cond, map, take, Option, Some, None, add-one, not, option_map}
use Rattle.std.specs.Prelude.{slice_get, slice_index_or, ◌≢◌, ◌&&◌, AllPairs, IfSome, IsSome, is_some}
use Rattle.std.specs.Cmp.Lexicographic.{pointwise}
use Rattle.std.specs.List.{find, list_any}
use Rattle.std.proofs.Math.Bool.{and-false}
use Rattle.std.proofs.lemmas.Bool.{and_parts, not-false, false_from_ne_true}
use Rattle.std.proofs.lemmas.List.Folds.{list_any_at}
use Rattle.std.proofs.lemmas.Option.{same_Some}
use Rattle.fourstate.specs.kept.DelayLaws.{same_delays_equal}
use Rattle.fourstate.specs.Delays.{same_delays}
use Rattle.fourstate.specs.kept.GateLaws.{same_kind_equal}
use Rattle.fourstate.specs.Gates.{same_kind}
use Rattle.fourstate.specs.kept.ValueLaws.{is_same}
use Rattle.catalog.proofs.ListLemmas.{AllPairs-tail, find_at, find_passes}
use Rattle.design.specs.Connections.{Connection, to_net, to_constant}
use Rattle.design.specs.kept.Lawful.{IsDesign}
use Rattle.design.specs.Names.{same_name}
use Rattle.design.specs.Netlist.{GateEntry, Netlist, gate_named, has_gate}
use Rattle.design.proofs.LookLemmas.{any_found, some_map}
use Rattle.design.proofs.NameLemmas.{name_is}
use Rattle.scratch.proofs.Driven.{either}
use Rattle.scratch.proofs.Stirred.{same_self_name}
use Rattle.rundiff.specs.Dirty.{is_new, same_connection, same_gate}
use Rattle.rundiff.proofs.Lists.{found_any, found_in, pairs_head}

same_connection_equal : (a b : Connection) → same_connection a b ≡ true → a ≡ b
same_connection_equal (to_net a) (to_net b) is = ap to_net (name_is a b is)
same_connection_equal (to_constant v) (to_constant w) is = ap to_constant (is_same v w is)
same_connection_equal (to_net a) (to_constant w) is = cc
same_connection_equal (to_constant v) (to_net b) is = cc

same_inputs_equal : (xs ys : List Connection) → pointwise same_connection xs ys ≡ true → xs ≡ ys
same_inputs_equal [] [] h = refl
same_inputs_equal [] (y ∷ ys) h = cc
same_inputs_equal (x ∷ xs) [] h = cc
same_inputs_equal (x ∷ xs) (y ∷ ys) h =
    let parts = and_parts (same_connection x y) (pointwise same_connection xs ys) h in
    let one = same_connection_equal x y parts.0 in let rest = same_inputs_equal xs ys parts.1 in λ i. one i ∷ rest i

pub same_gate_equal : (a b : GateEntry) → same_gate a b ≡ true → a ≡ b
same_gate_equal a b is =
    let four = and_parts (same_name a.name b.name && same_kind a.kind b.kind && same_delays a.delays b.delays && same_name a.output b.output) (pointwise same_connection a.inputs b.inputs) is in
    let three = and_parts (same_name a.name b.name && same_kind a.kind b.kind && same_delays a.delays b.delays) (same_name a.output b.output) four.0 in
    let two = and_parts (same_name a.name b.name && same_kind a.kind b.kind) (same_delays a.delays b.delays) three.0 in
    let one = and_parts (same_name a.name b.name) (same_kind a.kind b.kind) two.0 in
    let name = name_is a.name b.name one.0 in
    let kind = same_kind_equal a.kind b.kind one.1 in
    let delays = same_delays_equal a.delays b.delays two.1 in
    let output = name_is a.output b.output three.1 in
    let inputs = same_inputs_equal a.inputs b.inputs four.1 in
    λ i. record { name = name i; kind = kind i; delays = delays i; output = output i; inputs = inputs i }

-- what one test finds another one finds, which passes no other element
find_by : {X : Type 0} (p q : X → Bool) (xs : List X) (x : X) → find p xs ≡ Some x → q x ≡ true → AllPairs (λ a b. q b ≡ true → q a ≡ false) xs → find q xs ≡ Some x
find_by p q [] x is passes apart = absurd (cc)
find_by {X} p q (y ∷ ys) x is passes apart =
    let R : X → X → Type 0 = λ a b. q b ≡ true → q a ≡ false in
    elim (p y) as (λ b. cond {A = Option X} b (Some y) (find p ys) ≡ Some x → cond {A = Option X} (q y) (Some y) (find q ys) ≡ Some x) [
      | true ↦ λ here. let e : y ≡ x = cc in let on : q y ≡ true = ap q e ∙ passes in rw on here
      | false ↦ λ later.
          let off : q y ≡ false = (found_in (λ b. q b ≡ true → q y ≡ false) p ys x (pairs_head R y ys apart) later).0 passes in
          rw off (find_by p q ys x later passes (AllPairs-tail R y ys apart))
    ] is

module _ (d : Netlist) (is : IsDesign d) (g : GateEntry) where
  abbrev at_name : GateEntry → Bool
  at_name h = same_name h.name g.name

  named_same : (h : GateEntry) → same_gate g h ≡ true → at_name h ≡ true
  named_same h same = ap (λ (x : GateEntry). at_name x) (sym (same_gate_equal g h same)) ∙ same_self_name g.name

  apart_back : (a b : GateEntry) → a.name ≢ b.name → at_name b ≡ true → at_name a ≡ false
  apart_back a b apart on = false_from_ne_true (at_name a) (λ too. apart (name_is a.name g.name too ∙ sym (name_is b.name g.name on)))

  -- a gate that the design has is the one of its name
  is_named : list_any (same_gate g) d.gates ≡ true → gate_named d g.name ≡ Some g
  is_named on =
      let some = found_any (same_gate g) d.gates on in
      let same = find_passes (same_gate g) d.gates some.0 some.1 in
      find_by (same_gate g) at_name d.gates some.0 some.1 (named_same some.0 same)
      (λ i j x order low. apart_back (slice_index_or d.gates i x) (slice_index_or d.gates j x) (is.distinct_gates i j x order low))
      ∙ ap (λ (x : GateEntry). Some x) (sym (same_gate_equal g some.0 same))

  pub known_gate : is_new d g ≡ false → gate_named d g.name ≡ Some g
  known_gate known = is_named (not-false (list_any (same_gate g) d.gates) known)

  -- a gate whose name no gate has is new
  pub unnamed_new : gate_named d g.name ≡ None → is_new d g ≡ true
  unnamed_new none =
      ap not (false_from_ne_true (list_any (same_gate g) d.gates) (λ on. let no : ◌≡◌ {A = Option GateEntry} None (Some g) = sym none ∙ is_named on in cc))

  -- whether a gate is new shows at the gate of its name
  pub new_by_name : (h : GateEntry) → gate_named d g.name ≡ Some h → is_new d g ≡ not (same_gate g h)
  new_by_name h found =
      ap not (either (same_gate g h)
      (λ yes. let at = find_at at_name d.gates h found in list_any_at (same_gate g) d.gates at.0 h at.1 (ap (same_gate g) at.2 ∙ yes) ∙ sym yes)
      (λ no.
      false_from_ne_true (list_any (same_gate g) d.gates) (λ on.
      let some = found_any (same_gate g) d.gates on in let same = find_passes (same_gate g) d.gates some.0 some.1 in
      let e : some.0 ≡ h = sym (same_gate_equal g some.0 same) ∙ same_Some g h (sym (is_named on) ∙ found) in
      let yes = ap (same_gate g) (sym e) ∙ same in cc) ∙ sym no))

-- what is known of the gate of a name is so of a gate with this name that is not new
pub of_known : (d : Netlist) → IsDesign d → (P : GateEntry → Type 0) (name : List ℕ) → ((g : GateEntry) → gate_named d name ≡ Some g → P g) → (g : GateEntry) → name ≡ g.name → is_new d g ≡ false → P g
of_known d is P name all g named known = all g (ap (gate_named d) named ∙ known_gate d is g known)

-- a key under which a gate was found by name
pub keys_there : {X : Type 0} (f : X → GateEntry) (at : ℕ → Option X) (d : Netlist) (name : List ℕ) (o : Option ℕ) →
    IfSome o (λ key. option_map f (at key) ≡ gate_named d name) → is_some o ≡ has_gate d name → IfSome o (λ key. IsSome (at key))
keys_there f at d name None found there = tt
keys_there f at d name (Some key) found there = sym (some_map f (at key)) ∙ ap (λ (o : Option GateEntry). is_some o) found ∙ sym (any_found (λ g. same_name g.name name) d.gates) ∙ sym there

-- Two lists, element by element.

module _ {X Y Z : Type 0} (p : Z → Z → Bool) (f : X → Z) (h : Y → Z) (x : X) (y : Y) where
  pub mismatch : (xs : List X) (ys : List Y) (i : ℕ) → slice_get xs i ≡ Some x → slice_get ys i ≡ Some y → p (f x) (h y) ≡ false → pointwise p (map f xs) (map h ys) ≡ false
  mismatch [] ys i at_x at_y off = absurd (cc)
  mismatch (w ∷ xs) [] i at_x at_y off = absurd (cc)
  mismatch (w ∷ xs) (z ∷ ys) zero at_x at_y off =
      let e : w ≡ x = cc in let d : z ≡ y = cc in
      let here : p (f w) (h z) ≡ false = ap (λ (v : X). p (f v) (h z)) e ∙ ap (λ (v : Y). p (f x) (h v)) d ∙ off in rw here refl
  mismatch (w ∷ xs) (z ∷ ys) (suc i) at_x at_y off = let rest = mismatch xs ys i at_x at_y off in rw rest (and-false (p (f w) (h z)))

  pub match_more : (xs : List X) (ys : List Y) (i : ℕ) → slice_get xs i ≡ Some x → slice_get ys i ≡ Some y → pointwise p (map f (take i xs)) (map h (take i ys)) ≡ true → p (f x) (h y) ≡ true →
      pointwise p (map f (take (i + 1) xs)) (map h (take (i + 1) ys)) ≡ true
  match_more [] ys i at_x at_y so_far on = absurd (cc)
  match_more (w ∷ xs) [] i at_x at_y so_far on = absurd (cc)
  match_more (w ∷ xs) (z ∷ ys) zero at_x at_y so_far on =
      let e : w ≡ x = cc in let d : z ≡ y = cc in
      let here : p (f w) (h z) ≡ true = ap (λ (v : X). p (f v) (h z)) e ∙ ap (λ (v : Y). p (f x) (h v)) d ∙ on in rw here refl
  match_more (w ∷ xs) (z ∷ ys) (suc i) at_x at_y so_far on =
      let parts = and_parts (p (f w) (h z)) (pointwise p (map f (take i xs)) (map h (take i ys))) so_far in
      let rest = match_more xs ys i at_x at_y parts.1 on in
      rw add-one (rw parts.0 (rw add-one at rest))
