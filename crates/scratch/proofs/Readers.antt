-- Which gates read and drive the net at a place: with names apart a net is found at its own place.
use Rattle.std.proofs.Common.{◌≡◌, ◌≢◌, ◌<◌, ◌≤◌, ◌∙◌, sym, ap, subst, refl, Bool, true, false, cond, ℕ, zero, suc, ◌+◌, List, [], ◌∷◌, ◌++◌, map, Option, Some, None, slice_get, length, AllPairs, arith, ◌⊎◌, inl, inr, nat_lt}
use Rattle.std.specs.Prelude.{nat_eq, ◌||◌, ◌&&◌}
use Rattle.std.specs.Cmp.{both_ways}
use Rattle.std.specs.Cmp.Lexicographic.{same_text}
use Rattle.std.specs.List.{list_any, position_from}
use Rattle.std.specs.Option.{option_map_or, option_map}
use Rattle.std.proofs.lemmas.Option.{slice_get-map, slice_get_past, slice_get_within, get_or_from_slice_get}
use Rattle.std.proofs.Math.ListN.{set}
use Rattle.std.proofs.lemmas.Bool.Decides.{nat_tests}
use Rattle.std.proofs.lemmas.List.Folds.{list_any-append}
use Rattle.std.proofs.lemmas.Bool.{eqb-true}
use Rattle.std.proofs.Math.Bool.{or-false, and-false, and-true}
use Rattle.fourstate.specs.declared.value.Value.TheVariants.{Unknown}
use Rattle.design.specs.Connections.{Connection, to_net, to_constant}
use Rattle.design.specs.Names.{same_name}
use Rattle.design.specs.Netlist.{NetEntry, GateEntry, Netlist, is_at_net, reads}
use Rattle.smallvec.specs.SmallVec.{SmallVec}
use Rattle.scratch.specs.kept.Cells.{CellRecord}
use Rattle.scratch.specs.kept.Kept.{cell_of, input_of, is_at, output_at, places_at}
use Rattle.scratch.specs.kept.Places.{drives_at, has, reads_at}
use Rattle.scratch.specs.declared.wiring.Input.TheVariants.{At, Fixed}
use Rattle.scratch.proofs.Among.{nat_itself}
use Rattle.scratch.proofs.Between.{set_apart, set_here}
use Rattle.scratch.proofs.Stirred.{same_self_name}

first_by : (name : List ℕ) (a p : ℕ) (m : NetEntry) (nets : List NetEntry) (b : Bool) → same_name m.name name ≡ b → position_from (λ x. same_name x.name name) (a + 1) nets ≡ Some p → m.name ≢ name →
    cond b (Some a) (position_from (λ x. same_name x.name name) (a + 1) nets) ≡ Some p
first_by name a p m nets true is rest other = absurd (other (same_text m.name name (sym is)))
first_by name a p m nets false is rest other = rest

position_there : (a : ℕ) (nets : List NetEntry) (k : ℕ) (n : NetEntry) → AllPairs (λ n m. n.name ≢ m.name) nets → slice_get nets k ≡ Some n → position_from (λ x. same_name x.name n.name) a nets ≡ Some (a + k)
position_there a [] k n apart at = absurd (cc)
position_there a (m ∷ nets) zero n apart at =
    let e : m ≡ n = cc in let z : a ≡ a + 0 = omega arith in
    ap (λ (b : Bool). cond b (Some a) (position_from (λ x. same_name x.name n.name) (a + 1) nets)) (ap (λ x. same_name x.name n.name) e ∙ same_self_name n.name) ∙ ap (λ x. Some x) z
position_there a (m ∷ nets) (suc k) n apart at =
    let within = slice_get_within nets k n at in
    let other : m.name ≢ n.name = subst (λ x. m.name ≢ x.name) (get_or_from_slice_get nets k n n at) (apart 0 (suc k) n (omega arith) (omega arith)) in
    let sum : a + 1 + k ≡ a + suc k = omega arith in
    first_by n.name a (a + suc k) m nets (same_name m.name n.name) refl
    (position_there (a + 1) nets k n (λ i j d low high. apart (suc i) (suc j) d (omega arith) (omega arith)) at ∙ ap (λ x. Some x) sum) other

at_by : {X : Type 0} (test : X → Bool) (a p : ℕ) (x : X) (xs : List X) (b : Bool) → test x ≡ b → cond b (Some a) (position_from test (a + 1) xs) ≡ Some p →
    (position_from test (a + 1) xs ≡ Some p → (k : ℕ) × (y : X) × (p ≡ a + 1 + k) × (slice_get xs k ≡ Some y) × (test y ≡ true)) → (k : ℕ) × (y : X) × (p ≡ a + k) × (slice_get (x ∷ xs) k ≡ Some y) × (test y ≡ true)
at_by test a p x xs true is h later = let e : a ≡ p = cc in (0, x, omega arith, refl, is)
at_by test a p x xs false is h later = let f = later h in let e = f.2 in (suc f.0, f.1, omega arith, f.3, f.4)

position_at : {X : Type 0} (test : X → Bool) (a p : ℕ) (xs : List X) → position_from test a xs ≡ Some p → (k : ℕ) × (y : X) × (p ≡ a + k) × (slice_get xs k ≡ Some y) × (test y ≡ true)
position_at test a p [] h = absurd (cc)
position_at test a p (x ∷ xs) h = at_by test a p x xs (test x) refl h (position_at test (a + 1) p xs)

module _ (d : Netlist) (apart : AllPairs (λ n m. n.name ≢ m.name) d.nets) where
  -- the place of a net by its name
  found : (m : ℕ) (n : NetEntry) (name : List ℕ) → slice_get d.nets m ≡ Some n → same_name name n.name ≡ true → position_from (λ x. same_name x.name name) 0 d.nets ≡ Some m
  found m n name net h =
      let same : name ≡ n.name = same_text name n.name (sym h) in
      let z : 0 + m ≡ m = omega arith in
      ap (λ name. position_from (λ x. same_name x.name name) 0 d.nets) same ∙ position_there 0 d.nets m n apart net ∙ ap (λ x. Some x) z

  out_by : (outputs : List ℕ) (k m : ℕ) (o : Option NetEntry) (q : Option GateEntry) (w : Option ℕ) → slice_get d.nets m ≡ o → slice_get outputs k ≡ w →
      option_map (λ out. Some out) w ≡ option_map (λ g. position_from (λ n. same_name n.name g.output) 0 d.nets) q →
      option_map_or (λ n. option_map_or (λ g. same_name g.output n.name) q false) o false ≡ true → has m (option_map_or (λ m. m ∷ []) w []) ≡ true
  out_by outputs k m None q w net gate are h = absurd (cc)
  out_by outputs k m (Some n) None w net gate are h = absurd (cc)
  out_by outputs k m (Some n) (Some g) None net gate are h = absurd (cc)
  out_by outputs k m (Some n) (Some g) (Some out) net gate are h =
      let place : Some out ≡ position_from (λ x. same_name x.name g.output) 0 d.nets = cc in
      let both : Some out ≡ Some m = place ∙ found m n g.output net h in
      let one : m ≡ out = cc in
      ap (λ (b : Bool). b || false) (ap (nat_eq m) (sym one) ∙ nat_itself m)

  -- where the places of the outputs are listed, each gate has that of its net
  pub outputs_are : (outputs : List ℕ) → map (λ out. Some out) outputs ≡ map (λ g. position_from (λ n. same_name n.name g.output) 0 d.nets) d.gates → (k m : ℕ) → drives_at d k m ≡ true → has m (output_at outputs k) ≡ true
  outputs_are outputs are k m h =
      out_by outputs k m (slice_get d.nets m) (slice_get d.gates k) (slice_get outputs k) refl refl
      (sym (slice_get-map (λ out. Some out) outputs k) ∙ ap (λ l. slice_get l k) are ∙ slice_get-map (λ g. position_from (λ n. same_name n.name g.output) 0 d.nets) d.gates k) h

  driven_by : (k m : ℕ) (q : Option GateEntry) (w : Option ℕ) → option_map (λ out. Some out) w ≡ option_map (λ g. position_from (λ n. same_name n.name g.output) 0 d.nets) q →
      has m (option_map_or (λ m. m ∷ []) w []) ≡ true → option_map_or (λ n. option_map_or (λ g. same_name g.output n.name) q false) (slice_get d.nets m) false ≡ true
  driven_by k m q None are h = absurd (cc)
  driven_by k m None (Some out) are h = absurd (cc)
  driven_by k m (Some g) (Some out) are h =
      let is : position_from (λ n. same_name n.name g.output) 0 d.nets ≡ Some out = cc in
      let f = position_at (λ (x : NetEntry). same_name x.name g.output) 0 out d.nets is in
      let e : m ≡ out = eqb-true m out (sym (or-false (nat_eq m out)) ∙ h) in let sum = f.2 in
      let place : f.0 ≡ m = omega arith in
      let net : slice_get d.nets m ≡ Some f.1 = ap (slice_get d.nets) (sym place) ∙ f.3 in
      let named : f.1.name ≡ g.output = same_text f.1.name g.output (sym f.4) in
      ap (λ o. option_map_or (λ n. same_name g.output n.name) o false) net ∙ ap (same_name g.output) named ∙ same_self_name g.output

  -- and the gate drives the net whose place is listed
  pub driven_are : (outputs : List ℕ) → map (λ out. Some out) outputs ≡ map (λ g. position_from (λ n. same_name n.name g.output) 0 d.nets) d.gates → (k m : ℕ) → has m (output_at outputs k) ≡ true → drives_at d k m ≡ true
  driven_are outputs are k m h =
      driven_by k m (slice_get d.gates k) (slice_get outputs k)
      (sym (slice_get-map (λ out. Some out) outputs k) ∙ ap (λ l. slice_get l k) are ∙ slice_get-map (λ g. position_from (λ n. same_name n.name g.output) 0 d.nets) d.gates k) h

  there : (m : ℕ) (n : NetEntry) (name : List ℕ) → slice_get d.nets m ≡ Some n → same_name name n.name ≡ true → is_at m (input_of d (to_net name)) ≡ true
  there m n name net h = ap (λ o. is_at m (option_map_or At o (Fixed Unknown))) (found m n name net h) ∙ nat_itself m

  back_by : (m : ℕ) (n : NetEntry) (name : List ℕ) (o : Option ℕ) → slice_get d.nets m ≡ Some n → position_from (λ x. same_name x.name name) 0 d.nets ≡ o → is_at m (option_map_or At o (Fixed Unknown)) ≡ true → same_name name n.name ≡ true
  back_by m n name None net is h = absurd (cc)
  back_by m n name (Some p) net is h =
      let f = position_at (λ (x : NetEntry). same_name x.name name) 0 p d.nets is in
      let e : m ≡ p = eqb-true m p h in let sum = f.2 in
      let place : f.0 ≡ m = omega arith in
      let both : Some f.1 ≡ Some n = sym f.3 ∙ ap (slice_get d.nets) place ∙ net in
      let one : f.1 ≡ n = cc in
      let named : n.name ≡ name = ap (λ (x : NetEntry). x.name) (sym one) ∙ same_text f.1.name name (sym f.4) in
      ap (same_name name) named ∙ same_self_name name

  input_reads : (m : ℕ) (n : NetEntry) → slice_get d.nets m ≡ Some n → (terminal : Connection) → is_at m (input_of d terminal) ≡ is_at_net n.name terminal
  input_reads m n net (to_net name) =
      both_ways (is_at m (input_of d (to_net name))) (same_name name n.name) (λ h. back_by m n name (position_from (λ x. same_name x.name name) 0 d.nets) net refl h) (λ h. there m n name net h)
  input_reads m n net (to_constant v) = refl

  inputs_read : (m : ℕ) (n : NetEntry) → slice_get d.nets m ≡ Some n → (terminals : List Connection) → list_any (is_at m) (map (input_of d) terminals) ≡ list_any (is_at_net n.name) terminals
  inputs_read m n net [] = refl
  inputs_read m n net (x ∷ xs) = ap (λ (b : Bool). b || list_any (is_at m) (map (input_of d) xs)) (input_reads m n net x) ∙ ap (λ (b : Bool). is_at_net n.name x || b) (inputs_read m n net xs)

  cell_by : (m : ℕ) (n : NetEntry) → slice_get d.nets m ≡ Some n → (q : Option GateEntry) →
      option_map_or (λ (cell : CellRecord). list_any (is_at m) cell.inputs) (option_map (cell_of d) q) false ≡ option_map_or (λ g. reads g n.name) q false
  cell_by m n net None = refl
  cell_by m n net (Some g) = inputs_read m n net g.inputs

  -- the cells read the nets that the gates read
  cells_read : (cells : List CellRecord) → cells ≡ map (cell_of d) d.gates → (k m : ℕ) (n : NetEntry) → slice_get d.nets m ≡ Some n →
      option_map_or (λ (cell : CellRecord). list_any (is_at m) cell.inputs) (slice_get cells k) false ≡ reads_at d k m
  cells_read cells are k m n net =
      ap (λ l. option_map_or (λ (cell : CellRecord). list_any (is_at m) cell.inputs) (slice_get l k) false) are
      ∙ ap (λ o. option_map_or (λ (cell : CellRecord). list_any (is_at m) cell.inputs) o false) (slice_get-map (cell_of d) d.gates k)
      ∙ cell_by m n net (slice_get d.gates k)
      ∙ ap (λ o. option_map_or (λ n. option_map_or (λ g. reads g n.name) (slice_get d.gates k) false) o false) (sym net)

none_beyond : {X : Type 0} (xs : List X) (m : ℕ) → slice_get xs m ≡ None → length xs ≤ m
none_beyond [] m h = omega arith
none_beyond (x ∷ xs) zero h = absurd (cc)
none_beyond (x ∷ xs) (suc m) h = let rest = none_beyond xs m h in omega arith

module _ (all : List (SmallVec ℕ)) (net place : ℕ) (old new : SmallVec ℕ) (there : slice_get all net ≡ Some old) (grows : new.items ≡ old.items ++ place ∷ []) where
  push_by : (k m : ℕ) (b : Bool) → nat_eq m net ≡ b → has k (places_at (set all net new) m) ≡ (has k (places_at all m) || (nat_eq k place && b))
  push_by k m true same =
      let e : m ≡ net = eqb-true m net same in
      ap (λ z. has k (places_at (set all net new) z)) e
      ∙ ap (λ o. has k (option_map_or (λ (v : SmallVec ℕ). v.items) o [])) (set_here all net new (slice_get_within all net old there))
      ∙ ap (has k) grows ∙ list_any-append (nat_eq k) old.items (place ∷ [])
      ∙ ap (λ (b : Bool). has k old.items || b) (or-false (nat_eq k place) ∙ sym (and-true (nat_eq k place)))
      ∙ ap (λ o. has k (option_map_or (λ (v : SmallVec ℕ). v.items) o []) || (nat_eq k place && true)) (sym there)
      ∙ ap (λ z. has k (places_at all z) || (nat_eq k place && true)) (sym e)
  push_by k m false apart =
      ap (λ o. has k (option_map_or (λ (v : SmallVec ℕ). v.items) o [])) (set_apart all net m new apart)
      ∙ sym (ap (λ (b : Bool). has k (places_at all m) || b) (and-false (nat_eq k place)) ∙ or-false (has k (places_at all m)))

  -- one reader more
  pub push_reader : (k m : ℕ) → has k (places_at (set all net new) m) ≡ (has k (places_at all m) || (nat_eq k place && nat_eq m net))
  push_reader k m = push_by k m (nat_eq m net) refl

-- an empty list more
pub none_more : (all : List (SmallVec ℕ)) (v : SmallVec ℕ) → v.items ≡ [] → ((k m : ℕ) → has k (places_at all m) ≡ false) → (k m : ℕ) → has k (places_at (all ++ v ∷ []) m) ≡ false
none_more [] v e none k zero = ap (has k) e
none_more [] v e none k (suc m) = refl
none_more (w ∷ all) v e none k zero = none k 0
none_more (w ∷ all) v e none k (suc m) = none_more all v e (λ j i. none j (suc i)) k m

more_by : (f : ℕ → Bool) (k p : ℕ) (y : Bool) → f p ≡ y → (k < p) ⊎ ((p < k) ⊎ (k ≡ p)) → ((nat_lt k p && f k) || (nat_eq k p && y)) ≡ (nat_lt k (p + 1) && f k)
more_by f k p y is (inl low) =
    let a : nat_lt k p ≡ true = grind (arith, nat_tests) in let b : nat_eq k p ≡ false = grind (arith, nat_tests) in let c : nat_lt k (p + 1) ≡ true = grind (arith, nat_tests) in
    ap (λ (x : Bool). (x && f k) || (nat_eq k p && y)) a ∙ ap (λ (x : Bool). f k || (x && y)) b ∙ or-false (f k) ∙ sym (ap (λ (x : Bool). x && f k) c)
more_by f k p y is (inr (inl high)) =
    let a : nat_lt k p ≡ false = grind (arith, nat_tests) in let b : nat_eq k p ≡ false = grind (arith, nat_tests) in let c : nat_lt k (p + 1) ≡ false = grind (arith, nat_tests) in
    ap (λ (x : Bool). (x && f k) || (nat_eq k p && y)) a ∙ ap (λ (x : Bool). x && y) b ∙ sym (ap (λ (x : Bool). x && f k) c)
more_by f k p y is (inr (inr e)) =
    let a : nat_lt k p ≡ false = grind (arith, nat_tests) in let b : nat_eq k p ≡ true = grind (arith, nat_tests) in let c : nat_lt k (p + 1) ≡ true = grind (arith, nat_tests) in
    ap (λ (x : Bool). (x && f k) || (nat_eq k p && y)) a ∙ ap (λ (x : Bool). x && y) b ∙ sym is ∙ ap f (sym e) ∙ sym (ap (λ (x : Bool). x && f k) c)

pub one_cell_more : (f : ℕ → Bool) (k p : ℕ) (y : Bool) → f p ≡ y → ((nat_lt k p && f k) || (nat_eq k p && y)) ≡ (nat_lt k (p + 1) && f k)
one_cell_more f k p y is = more_by f k p y is (search arith)

pub none_first : (k : ℕ) (x : Bool) → false ≡ (nat_lt k 0 && x)
none_first k x = let z : nat_lt k 0 ≡ false = grind (arith, nat_tests) in sym (ap (λ (b : Bool). b && x) z)

module _ (d : Netlist) (apart : AllPairs (λ n m. n.name ≢ m.name) d.nets) (cells : List CellRecord) (are : cells ≡ map (cell_of d) d.gates) (all : List (SmallVec ℕ)) (as_many : length all ≡ length d.nets) (p : ℕ) (past : length cells ≤ p)
    (so_far : (k m : ℕ) → m < length d.nets → has k (places_at all m) ≡ (nat_lt k p && option_map_or (λ (cell : CellRecord). list_any (is_at m) cell.inputs) (slice_get cells k) false)) where
  whole_by : (k : ℕ) (o : Option CellRecord) (f : CellRecord → Bool) → slice_get cells k ≡ o → (nat_lt k p && option_map_or f o false) ≡ option_map_or f o false
  whole_by k None f at = and-false (nat_lt k p)
  whole_by k (Some c) f at =
      let within = slice_get_within cells k c at in
      let low : nat_lt k p ≡ true = grind (arith, nat_tests) in
      ap (λ (b : Bool). b && f c) low

  all_by : (k m : ℕ) (o : Option NetEntry) → slice_get d.nets m ≡ o → has k (places_at all m) ≡ reads_at d k m
  all_by k m (Some n) net =
      so_far k m (slice_get_within d.nets m n net)
      ∙ whole_by k (slice_get cells k) (λ (cell : CellRecord). list_any (is_at m) cell.inputs) refl ∙ cells_read d apart cells are k m n net
  all_by k m None net =
      let beyond : length all ≤ m = rw as_many (none_beyond d.nets m net) in
      ap (λ o. has k (option_map_or (λ (v : SmallVec ℕ). v.items) o [])) (slice_get_past all m beyond)
      ∙ sym (ap (λ o. option_map_or (λ n. option_map_or (λ g. reads g n.name) (slice_get d.gates k) false) o false) net)

  pub readers_are : (k m : ℕ) → has k (places_at all m) ≡ reads_at d k m
  readers_are k m = all_by k m (slice_get d.nets m) refl
