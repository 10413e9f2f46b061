-- Nets by their keys and by their names.
use Rattle.std.proofs.Common.{◌≡◌, ◌≢◌, ◌∙◌, ap, sym, subst, refl, ℕ, suc, Bool, true, false, cond, List, [], ◌∷◌, map, Option, Some, None, All, arith}
use Rattle.std.specs.Prelude.{◌==◌, AllPairs, IsSome}
use Rattle.std.specs.List.{find}
use Rattle.std.specs.Option.{option_map, option_map_or}
use Rattle.std.proofs.lemmas.Bool.{eq-eqb, eqb-true, ne_eqb, false_from_ne_true}
use Rattle.std.proofs.lemmas.List.Elements.{All-head, All-tail}
use Rattle.std.proofs.lemmas.Slice.Eq.{bytes_eq-Decides}
use Rattle.design.specs.Names.{same_name}
use Rattle.design.specs.Keys.{Keyed, name_of, netlist}
use Rattle.design.specs.kept.Keys.{AreKeys, net_by_key, net_key}
use Rattle.design.specs.kept.Lawful.{IsDesign}
use Rattle.design.specs.Netlist.{NetEntry, net_named}

-- What a test finds in a list.

pub passes : {E : Type 0} (test : E → Bool) (es : List E) (e : E) → find test es ≡ Some e → test e ≡ true
passes test [] e found = absurd (cc)
passes {E} test (w ∷ es) e found = by_test (test w) refl (λ rest. passes test es e rest) found
  where
    by_test : (b : Bool) → test w ≡ b → (find test es ≡ Some e → test e ≡ true) → cond {A = Option E} b (Some w) (find test es) ≡ Some e → test e ≡ true
    by_test true on later is = let one : w ≡ e = cc in subst (λ (x : E). test x ≡ true) one on
    by_test false off later is = later is

-- of a list of parts
pub find_part : {E X : Type 0} (test : X → Bool) (part : E → X) (es : List E) → find test (map part es) ≡ option_map part (find (λ e. test (part e)) es)
find_part test part [] = refl
find_part {E} {X} test part (w ∷ es) = by_test (test (part w)) (find_part test part es)
  where
    by_test : (b : Bool) → find test (map part es) ≡ option_map part (find (λ e. test (part e)) es) →
        cond {A = Option X} b (Some (part w)) (find test (map part es)) ≡ option_map part (cond {A = Option E} b (Some w) (find (λ e. test (part e)) es))
    by_test true rest = refl
    by_test false rest = rest

pairs_head : {X : Type 0} (R : X → X → Type 0) (y : X) (ys : List X) → AllPairs R (y ∷ ys) → All (R y) ys
pairs_head R y ys all = λ k d within. all 0 (suc k) d (omega arith) (omega arith)

pairs_tail : {X : Type 0} (R : X → X → Type 0) (y : X) (ys : List X) → AllPairs R (y ∷ ys) → AllPairs R ys
pairs_tail R y ys all = λ i j d order within. all (suc i) (suc j) d (omega arith) (omega arith)

module _ {E X : Type 0} (part : E → X) where
  of_found : (P : X → Type 0) (test : E → Bool) (es : List E) (e : E) → All P (map part es) → find test es ≡ Some e → P (part e)
  of_found P test [] e all found = absurd (cc)
  of_found P test (w ∷ es) e all found = by_test (test w) (λ rest. of_found P test es e (All-tail P (part w) (map part es) all) rest) found
    where
      by_test : (b : Bool) → (find test es ≡ Some e → P (part e)) → cond {A = Option E} b (Some w) (find test es) ≡ Some e → P (part e)
      by_test true later is = let one : w ≡ e = cc in subst (λ (x : E). P (part x)) one (All-head P (part w) (map part es) all)
      by_test false later is = later is

  -- what one test finds another finds too that only this passes
  pub found_again : (R : X → X → Type 0) (same : E → E → Bool) → ((e : E) → same e e ≡ true) → ((w e : E) → R (part w) (part e) → same w e ≡ false) →
      (test : E → Bool) (es : List E) (e : E) → AllPairs R (map part es) → find test es ≡ Some e → find (λ w. same w e) es ≡ Some e
  found_again R same itself apart test [] e pairs found = absurd (cc)
  found_again R same itself apart test (w ∷ es) e pairs found =
      by_test (test w) (λ rest. found_again R same itself apart test es e (pairs_tail R (part w) (map part es) pairs) rest) found
    where
      by_test : (b : Bool) → (find test es ≡ Some e → find (λ x. same x e) es ≡ Some e) → cond {A = Option E} b (Some w) (find test es) ≡ Some e → cond {A = Option E} (same w e) (Some w) (find (λ x. same x e) es) ≡ Some e
      by_test true later is =
          let one : w ≡ e = cc in
          subst (λ (x : E). cond {A = Option E} (same w x) (Some w) (find (λ y. same y x) es) ≡ Some x) one
          (ap (λ (b : Bool). cond {A = Option E} b (Some w) (find (λ y. same y w) es)) (itself w))
      by_test false later is =
          let differs : same w e ≡ false = apart w e (of_found (R (part w)) test es e (pairs_head R (part w) (map part es) pairs) is) in
          ap (λ (b : Bool). cond {A = Option E} b (Some w) (find (λ x. same x e) es)) differs
          ∙ later is

-- The nets of a design.

name_itself : (name : List ℕ) → same_name name name ≡ true
name_itself name = (bytes_eq-Decides name name).1 refl

name_differs : (a b : List ℕ) → a ≢ b → same_name a b ≡ false
name_differs a b apart = false_from_ne_true (same_name a b) (λ is. apart ((bytes_eq-Decides a b).0 is))

-- the net of a name, under its key
pub record IsNamed (d : Keyed) (name : List ℕ) (key : ℕ) (n : NetEntry) : Type 0 where
  pub under : net_by_key d key ≡ Some n
  pub named : n.name ≡ name

pub named_net : (d : Keyed) → AreKeys d → (name : List ℕ) (key : ℕ) → net_key d name ≡ Some key → (n : NetEntry) × IsNamed d name key n
named_net d keys name key is = by_found (find test d.nets) refl is
  where
    test : ℕ × NetEntry → Bool
    test e = same_name e.1.name name

    by_found : (o : Option (ℕ × NetEntry)) → find test d.nets ≡ o → option_map (λ e. e.0) o ≡ Some key → (n : NetEntry) × IsNamed d name key n
    by_found None found is = absurd (cc)
    by_found (Some e) found is =
        let one : e.0 ≡ key = cc in
        let again : find (λ w. w.0 == e.0) d.nets ≡ Some e =
        found_again (λ (w : ℕ × NetEntry). w.0) (λ a b. a ≢ b) (λ w x. w.0 == x.0) (λ w. eq-eqb w.0 w.0 refl) (λ w x apart. ne_eqb w.0 x.0 apart) test d.nets e keys.distinct_nets found in (
          e.1,
          record {
            under = subst (λ (k : ℕ). net_by_key d k ≡ Some e.1) one (ap (option_map (λ (w : ℕ × NetEntry). w.1)) again);
            named = (bytes_eq-Decides e.1.name name).0 (passes test d.nets e found);
          },
        )

distinct_names : (d : Keyed) → IsDesign (netlist d) → AllPairs (λ (a b : NetEntry). a.name ≢ b.name) (map (λ (e : ℕ × NetEntry). e.1) d.nets)
unfolding netlist
distinct_names d is = is.distinct_nets

pub key_of_net : (d : Keyed) → IsDesign (netlist d) → (key : ℕ) (n : NetEntry) → net_by_key d key ≡ Some n → net_key d n.name ≡ Some key
key_of_net d is key n under = by_found (find test d.nets) refl under
  where
    test : ℕ × NetEntry → Bool
    test e = e.0 == key

    by_found : (o : Option (ℕ × NetEntry)) → find test d.nets ≡ o → option_map (λ e. e.1) o ≡ Some n → net_key d n.name ≡ Some key
    by_found None found none = absurd (cc)
    by_found (Some e) found some =
        let one : e.1 ≡ n = cc in
        let at : e.0 ≡ key = eqb-true e.0 key (passes test d.nets e found) in
        let again : find (λ w. same_name w.1.name e.1.name) d.nets ≡ Some e =
        found_again (λ (w : ℕ × NetEntry). w.1) (λ a b. a.name ≢ b.name) (λ w x. same_name w.1.name x.1.name) (λ w. name_itself w.1.name) (λ w x apart. name_differs w.1.name x.1.name apart)
        test d.nets e (distinct_names d is) found in
        subst (λ (m : NetEntry). net_key d m.name ≡ Some key) one (ap (option_map (λ (w : ℕ × NetEntry). w.0)) again ∙ ap (λ (k : ℕ). Some k) at)

net_named_is : (d : Keyed) (name : List ℕ) → net_named (netlist d) name ≡ option_map (λ (e : ℕ × NetEntry). e.1) (find (λ (e : ℕ × NetEntry). same_name e.1.name name) d.nets)
unfolding netlist
net_named_is d name = find_part (λ (n : NetEntry). same_name n.name name) (λ (e : ℕ × NetEntry). e.1) d.nets

pub no_net : (d : Keyed) (name : List ℕ) → net_key d name ≡ None → net_named (netlist d) name ≡ None
no_net d name is = net_named_is d name ∙ by_found (find (λ (e : ℕ × NetEntry). same_name e.1.name name) d.nets) is
  where
    by_found : (o : Option (ℕ × NetEntry)) → option_map (λ e. e.0) o ≡ None → option_map (λ e. e.1) o ≡ None
    by_found None none = refl
    by_found (Some e) none = absurd (cc)

pub no_key : (d : Keyed) (name : List ℕ) → net_named (netlist d) name ≡ None → net_key d name ≡ None
no_key d name none = by_found (find (λ (e : ℕ × NetEntry). same_name e.1.name name) d.nets) (sym (net_named_is d name) ∙ none)
  where
    by_found : (o : Option (ℕ × NetEntry)) → option_map (λ e. e.1) o ≡ None → option_map (λ e. e.0) o ≡ None
    by_found None is = refl
    by_found (Some e) is = absurd (cc)

-- a name that a net has under its key
pub name_at : (d : Keyed) (key : ℕ) (n : NetEntry) → net_by_key d key ≡ Some n → name_of d.nets key ≡ n.name
name_at d key n under = ap (λ (o : Option NetEntry). option_map_or (λ m. m.name) o []) under

pub there : {A : Type 0} (o : Option A) → IsSome o → (x : A) × (o ≡ Some x)
there (Some x) is = (x, refl)
there None is = absurd (cc)
