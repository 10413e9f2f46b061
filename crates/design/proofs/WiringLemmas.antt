-- Lists of gate keys: which are changed by terminals, and what they are after an edit of the gates.
use Rattle.std.proofs.Common.{◌≡◌, ℕ, ◌+◌, ◌<◌, Bool, true, false, not, cond, ◌==◌, ◌&&◌, ◌||◌, List, [], ◌∷◌, ◌++◌, length, get_or, take, None, sym, refl, ap, subst, ◌∙◌}
use Rattle.std.proofs.lemmas.Bool.{eq-eqb}
use Rattle.std.proofs.lemmas.List.{append-nil, take_more}
use Rattle.std.proofs.lemmas.List.Elements.{filter-append}
use Rattle.std.proofs.lemmas.List.Folds.{list_any-append}
use Rattle.std.specs.List.{filter}
use Rattle.catalog.specs.Catalog.{record_at}
use Rattle.catalog.specs.kept.Catalog.{keys_of, with_record, without_key}
use Rattle.design.specs.declared.terminal.Terminal.{Terminal}
use Rattle.design.specs.kept.Keys.{is_among, is_at, keys_where}
use Rattle.design.specs.kept.Lists as Lists
use Rattle.design.specs.kept.Lists.{AreChanged, IsInOrder, list_of, with_key_in}
use Rattle.design.proofs.EntryLemmas.{Apart, Each, absent, each_here, each_weaker, filter_filter, filter_map, filter_within}
use Rattle.design.proofs.OrderLemmas.{where_with, with_in_order, without_in_order}

-- Terminals, one after another.

among_more : (inputs : List Terminal) (i k : ℕ) (terminal : Terminal) → i < length inputs → terminal ≡ get_or inputs i terminal → is_among (take (i + 1) inputs) k ≡ (is_among (take i inputs) k || is_at terminal k)
among_more inputs i k terminal within here =
    ap (λ l. is_among l k) (take_more inputs i terminal within)
    ∙ list_any-append (λ t. is_at t k) (take i inputs) (get_or inputs i terminal ∷ [])
    ∙ ap (λ (b : Bool). is_among (take i inputs) k || b) (or_none (is_at (get_or inputs i terminal) k) ∙ ap (λ t. is_at t k) (sym here))
  where
    or_none : (b : Bool) → (b || false) ≡ b
    or_none true = refl
    or_none false = refl

-- one terminal more, where the change once more is the change
pub among_turn : (inputs : List Terminal) (i : ℕ) (terminal : Terminal) (change : List ℕ → List ℕ) (lists before after : List (List ℕ)) → ((list : List ℕ) → change (change list) ≡ change list) → i < length inputs → terminal ≡ get_or inputs i terminal →
    AreChanged (is_among (take i inputs)) change lists before → AreChanged (is_at terminal) change before after → AreChanged (is_among (take (i + 1) inputs)) change lists after
among_turn inputs i terminal change lists before after twice within here so_far now k =
    now k ∙ ap (λ (l : List ℕ). cond (is_at terminal k) (change l) l) (so_far k) ∙ step (is_among (take i inputs) k) (is_at terminal k) (list_of lists k)
    ∙ ap (λ (b : Bool). cond b (change (list_of lists k)) (list_of lists k)) (sym (among_more inputs i k terminal within here))
  where
    step : (a b : Bool) (l : List ℕ) → cond b (change (cond a (change l) l)) (cond a (change l) l) ≡ cond (a || b) (change l) l
    step true true l = twice l
    step true false l = refl
    step false true l = refl
    step false false l = refl

pub without_twice : (key : ℕ) (list : List ℕ) → Lists.without_key (Lists.without_key list key) key ≡ Lists.without_key list key
without_twice key list = filter_filter (λ k. not (k == key)) (λ k. not (k == key)) list ∙ filter_within (λ k. not (k == key) && not (k == key)) (λ k. not (k == key)) list (each_here (λ k. (not (k == key) && not (k == key)) ≡ not (k == key)) (λ k. and_twice (not (k == key))) list)
  where
    and_twice : (b : Bool) → (b && b) ≡ b
    and_twice true = refl
    and_twice false = refl

pub changed_in_order : {X : Type 0} (es : List (ℕ × X)) (test : ℕ → Bool) (key : ℕ) (lists new : List (List ℕ)) → Apart (λ e. e.0) es → ((k : ℕ) → IsInOrder (keys_of es) (list_of lists k)) → AreChanged test (with_key_in (keys_of es) key) lists new → (k : ℕ) → IsInOrder (keys_of es) (list_of new k)
changed_in_order es test key lists new apart ordered changed k = subst (IsInOrder (keys_of es)) (sym (changed k)) (step (test k))
  where
    step : (b : Bool) → IsInOrder (keys_of es) (cond b (with_key_in (keys_of es) key (list_of lists k)) (list_of lists k))
    step true = with_in_order es key (list_of lists k) apart
    step false = ordered k

-- lists without a key are in order, as an addition asks
pub left_in_order : (keys : List ℕ) (test : ℕ → Bool) (key : ℕ) (lists less : List (List ℕ)) → ((k : ℕ) → IsInOrder keys (list_of lists k)) → AreChanged test (λ list. Lists.without_key list key) lists less → (k : ℕ) → IsInOrder keys (list_of less k)
left_in_order keys test key lists less was changed k = subst (IsInOrder keys) (sym (changed k)) (step (test k))
  where
    step : (b : Bool) → IsInOrder keys (cond b (Lists.without_key (list_of lists k) key) (list_of lists k))
    step true = without_in_order keys (list_of lists k) key (was k)
    step false = was k

-- Edits of the gates: q says which gates a list has the keys of.

-- without a key
pub where_without : {X : Type 0} (q : ℕ × X → Bool) (es : List (ℕ × X)) (key : ℕ) → Lists.without_key (keys_where q es) key ≡ keys_where (λ e. not (e.0 == key) && q e) es
where_without q es key = filter_map (λ k. not (k == key)) (λ e. e.0) (filter q es) ∙ ap (λ l. keys_of l) (filter_filter (λ e. not (e.0 == key)) q es)

-- taken away
pub others_without : {X : Type 0} (q : ℕ × X → Bool) (es : List (ℕ × X)) (key : ℕ) → keys_where (λ e. not (e.0 == key) && q e) es ≡ keys_where q (without_key es key)
others_without {X} q es key =
    ap (λ l. keys_of l) (filter_within (λ e. not (e.0 == key) && q e) (λ e. q e && not (e.0 == key)) es (each_here (λ e. (not (e.0 == key) && q e) ≡ (q e && not (e.0 == key))) (λ e. and_turned (not (e.0 == key)) (q e)) es)
    ∙ sym (filter_filter q (λ e. not (e.0 == key)) es))
  where
    and_turned : (a b : Bool) → (a && b) ≡ (b && a)
    and_turned true true = refl
    and_turned true false = refl
    and_turned false true = refl
    and_turned false false = refl

-- not among those that pass
pub others_same : {X : Type 0} (q : ℕ × X → Bool) (es : List (ℕ × X)) (key : ℕ) → Each (λ e. (e.0 == key) ≡ true → q e ≡ false) es → keys_where q es ≡ keys_where (λ e. not (e.0 == key) && q e) es
others_same {X} q es key off = ap (λ l. keys_of l) (filter_within q (λ e. not (e.0 == key) && q e) es (each_weaker (λ e. (e.0 == key) ≡ true → q e ≡ false) (λ e. q e ≡ (not (e.0 == key) && q e)) (λ e h. step e (e.0 == key) h) es off))
  where
    step : (e : ℕ × X) (b : Bool) → (b ≡ true → q e ≡ false) → q e ≡ (not b && q e)
    step e true h = h refl
    step e false h = refl

-- among those that pass
pub others_with : {X : Type 0} (q : ℕ × X → Bool) (es : List (ℕ × X)) (key : ℕ) → Apart (λ e. e.0) es → Each (λ e. (e.0 == key) ≡ true → q e ≡ true) es → with_key_in (keys_of es) key (keys_where (λ e. not (e.0 == key) && q e) es) ≡ keys_where q es
others_with {X} q es key apart on =
    where_with (λ e. not (e.0 == key) && q e) key es apart
    ∙ ap (λ l. keys_of l) (filter_within (λ e. e.0 == key || (not (e.0 == key) && q e)) q es (each_weaker (λ e. (e.0 == key) ≡ true → q e ≡ true) (λ e. (e.0 == key || (not (e.0 == key) && q e)) ≡ q e) (λ e h. step e (e.0 == key) h) es on))
  where
    step : (e : ℕ × X) (b : Bool) → (b ≡ true → q e ≡ true) → (b || (not b && q e)) ≡ q e
    step e true h = sym (h refl)
    step e false h = refl

-- put in place of another
pub others_replaced : {X : Type 0} (q : ℕ × X → Bool) (es : List (ℕ × X)) (key : ℕ) (y : X) → keys_where (λ e. not (e.0 == key) && q e) (with_record es key y) ≡ keys_where (λ e. not (e.0 == key) && q e) es
others_replaced q [] key y = refl
others_replaced {X} q (e ∷ es) key y = step (e.0 == key) refl (others_replaced q es key y)
  where
    step : (b : Bool) → (e.0 == key) ≡ b → keys_where (λ f. not (f.0 == key) && q f) (with_record es key y) ≡ keys_where (λ f. not (f.0 == key) && q f) es →
        keys_where (λ f. not (f.0 == key) && q f) (with_record (e ∷ es) key y) ≡ keys_where (λ f. not (f.0 == key) && q f) (e ∷ es)
    step true at rest = rw at rest
    step false at rest = rw at (two (q e) rest)
      where
        two : (b : Bool) → keys_where (λ f. not (f.0 == key) && q f) (with_record es key y) ≡ keys_where (λ f. not (f.0 == key) && q f) es →
            keys_of (cond b ((e.0, e.1) ∷ filter (λ f. not (f.0 == key) && q f) (with_record es key y)) (filter (λ f. not (f.0 == key) && q f) (with_record es key y))) ≡ keys_of (cond b (e ∷ filter (λ f. not (f.0 == key) && q f) es) (filter (λ f. not (f.0 == key) && q f) es))
        two true rest = ap (λ l. e.0 ∷ l) rest
        two false rest = rest

-- added
pub others_added : {X : Type 0} (q : ℕ × X → Bool) (es : List (ℕ × X)) (key : ℕ) (y : X) → record_at es key ≡ None → keys_where q es ≡ keys_where (λ e. not (e.0 == key) && q e) (es ++ (key, y) ∷ [])
others_added {X} q es key y h =
    let off : filter (λ e. not (e.0 == key) && q e) ((key, y) ∷ []) ≡ [] = ap (λ (b : Bool). cond (not b && q (key, y)) ((key, y) ∷ []) []) (eq-eqb key key refl) in
    ap (λ l. keys_of l)
    (filter_within q (λ e. not (e.0 == key) && q e) es (each_weaker (λ e. (e.0 == key) ≡ false) (λ e. q e ≡ (not (e.0 == key) && q e)) (λ e at. ap (λ (b : Bool). not b && q e) (sym at)) es (absent es key h))
    ∙ sym (append-nil (filter (λ e. not (e.0 == key) && q e) es)) ∙ ap (λ l. filter (λ e. not (e.0 == key) && q e) es ++ l) (sym off) ∙ sym (filter-append (λ e. not (e.0 == key) && q e) es ((key, y) ∷ [])))

-- the same keys where each record passes as before
pub where_replaced : {X : Type 0} (q : X → Bool) (es : List (ℕ × X)) (key : ℕ) (x y : X) → Each (λ e. (e.0 == key) ≡ true → e.1 ≡ x) es → q y ≡ q x → keys_where (λ e. q e.1) (with_record es key y) ≡ keys_where (λ e. q e.1) es
where_replaced q [] key x y alone same = refl
where_replaced {X} q (e ∷ es) key x y alone same = step (e.0 == key) refl (where_replaced q es key x y alone.1 same)
  where
    two : (m : X) → q m ≡ q e.1 → keys_where (λ f. q f.1) (with_record es key y) ≡ keys_where (λ f. q f.1) es → keys_of (cond (q m) ((e.0, m) ∷ filter (λ f. q f.1) (with_record es key y)) (filter (λ f. q f.1) (with_record es key y))) ≡ keys_of (cond (q e.1) (e ∷ filter (λ f. q f.1) es) (filter (λ f. q f.1) es))
    two m alike rest = ap (λ (b : Bool). keys_of (cond b ((e.0, m) ∷ filter (λ f. q f.1) (with_record es key y)) (filter (λ f. q f.1) (with_record es key y)))) alike ∙ three (q e.1) rest
      where
        three : (b : Bool) → keys_where (λ f. q f.1) (with_record es key y) ≡ keys_where (λ f. q f.1) es → keys_of (cond b ((e.0, m) ∷ filter (λ f. q f.1) (with_record es key y)) (filter (λ f. q f.1) (with_record es key y))) ≡ keys_of (cond b (e ∷ filter (λ f. q f.1) es) (filter (λ f. q f.1) es))
        three true rest = ap (λ l. e.0 ∷ l) rest
        three false rest = rest

    step : (b : Bool) → (e.0 == key) ≡ b → keys_where (λ f. q f.1) (with_record es key y) ≡ keys_where (λ f. q f.1) es → keys_where (λ f. q f.1) (with_record (e ∷ es) key y) ≡ keys_where (λ f. q f.1) (e ∷ es)
    step true at rest = rw at (two y (same ∙ ap q (sym (alone.0 at))) rest)
    step false at rest = rw at (two e.1 refl rest)
