-- Nets and gates that a design may have, one after another.
use Rattle.std.proofs.Common.{◌≡◌, ◌≢◌, ℕ, suc, ◌<◌, arith, IsTrue, false, List, [], ◌∷◌, ◌++◌, length, get_or, All, AllPairs, sym, ap, subst, ◌∙◌, append_assoc, length-append}
use Rattle.std.specs.List.{list_any}
use Rattle.std.proofs.lemmas.List.Elements.{All-cons, All-head, All-nil, All-tail}
use Rattle.std.proofs.lemmas.List.Kept.{AllPairs-cons}
use Rattle.std.proofs.lemmas.List.Folds.{list_any_none}
use Rattle.design.specs.declared.limits.TheConstants.{MAX_GATES, MAX_NETS}
use Rattle.design.specs.Names.{is_name, same_name}
use Rattle.design.specs.Netlist as netlist
use Rattle.vread.specs.kept.Parts.{AreDistinctGates, AreFitNets}
use Rattle.vread.proofs.Lists.{names_differ}

module _ {X : Type 0} (P : X → Type 0) where
  pub all_left : (xs ys : List X) → All P (xs ++ ys) → All P xs
  all_left [] ys all = All-nil P
  all_left (x ∷ xs) ys all = All-cons P x xs (All-head P x (xs ++ ys) all) (all_left xs ys (All-tail P x (xs ++ ys) all))

  pub all_last : (xs : List X) (y : X) → All P (xs ++ y ∷ []) → P y
  all_last [] y all = All-head P y [] all
  all_last (x ∷ xs) y all = all_last xs y (All-tail P x (xs ++ y ∷ []) all)

module _ {X : Type 0} (R : X → X → Type 0) where
  head : (x : X) (xs : List X) → AllPairs R (x ∷ xs) → All (R x) xs
  head x xs pairs = λ k d within. pairs 0 (suc k) d (omega arith) (omega arith)

  tail : (x : X) (xs : List X) → AllPairs R (x ∷ xs) → AllPairs R xs
  tail x xs pairs = λ i j d before within. pairs (suc i) (suc j) d (omega arith) (omega arith)

  pub pairs_left : (xs ys : List X) → AllPairs R (xs ++ ys) → AllPairs R xs
  pairs_left [] ys pairs = λ i j d before within. absurd (omega arith)
  pairs_left (x ∷ xs) ys pairs = AllPairs-cons R x xs (all_left (R x) xs ys (head x (xs ++ ys) pairs)) (pairs_left xs ys (tail x (xs ++ ys) pairs))

  pub pairs_last : (xs : List X) (y : X) → AllPairs R (xs ++ y ∷ []) → All (λ x. R x y) xs
  pairs_last [] y pairs = All-nil (λ x. R x y)
  pairs_last (x ∷ xs) y pairs = All-cons (λ z. R z y) x xs (all_last (R x) xs y (head x (xs ++ y ∷ []) pairs)) (pairs_last xs y (tail x (xs ++ y ∷ []) pairs))

-- Nets.

pub nets_left : (ns more : List netlist.NetEntry) → AreFitNets (ns ++ more) → AreFitNets ns
nets_left ns more fit = record {
  named = all_left (λ n. IsTrue (is_name n.name)) ns more fit.named;
  distinct = pairs_left (λ a b. a.name ≢ b.name) ns more fit.distinct;
  room = omega (arith, fit.room, length-append ns more);
}

module _ (ns : List netlist.NetEntry) (n : netlist.NetEntry) (fit : AreFitNets (ns ++ n ∷ [])) where
  pub net_absent : (name : List ℕ) → name ≡ n.name → list_any (λ m. same_name m.name name) ns ≡ false
  net_absent name same =
      ap (λ (x : List ℕ). list_any (λ m. same_name m.name x) ns) same
      ∙ list_any_none (λ m. same_name m.name n.name) ns
      (λ k d within. names_differ (get_or ns k d).name n.name (pairs_last (λ a b. a.name ≢ b.name) ns n fit.distinct k d within))

  pub net_room : length ns < MAX_NETS
  net_room = omega (arith, fit.room, length-append ns (n ∷ []))

-- a part of those that are still to come
pub fit_part : (ns part rest all : List netlist.NetEntry) → ns ++ (part ++ rest) ≡ all → AreFitNets all → AreFitNets (ns ++ part)
fit_part ns part rest all e fit = nets_left (ns ++ part) rest (subst (λ (l : List netlist.NetEntry). AreFitNets l) (sym e ∙ sym (append_assoc ns part rest)) fit)

-- Gates.

pub gates_left : (gs more : List netlist.GateEntry) → AreDistinctGates (gs ++ more) → AreDistinctGates gs
gates_left gs more fit = record {
  distinct = pairs_left (λ a b. a.name ≢ b.name) gs more fit.distinct;
  room = omega (arith, fit.room, length-append gs more);
}

module _ (gs : List netlist.GateEntry) (g : netlist.GateEntry) (fit : AreDistinctGates (gs ++ g ∷ [])) where
  pub gate_absent : (name : List ℕ) → name ≡ g.name → list_any (λ m. same_name m.name name) gs ≡ false
  gate_absent name same =
      ap (λ (x : List ℕ). list_any (λ m. same_name m.name x) gs) same
      ∙ list_any_none (λ m. same_name m.name g.name) gs
      (λ k d within. names_differ (get_or gs k d).name g.name (pairs_last (λ a b. a.name ≢ b.name) gs g fit.distinct k d within))

  pub gate_room : length gs < MAX_GATES
  gate_room = omega (arith, fit.room, length-append gs (g ∷ []))

pub gates_part : (gs part rest all : List netlist.GateEntry) → gs ++ (part ++ rest) ≡ all → AreDistinctGates all → AreDistinctGates (gs ++ part)
gates_part gs part rest all e fit = gates_left (gs ++ part) rest (subst (λ (l : List netlist.GateEntry). AreDistinctGates l) (sym e ∙ sym (append_assoc gs part rest)) fit)
