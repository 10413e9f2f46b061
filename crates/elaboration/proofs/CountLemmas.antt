-- Counts that go no further than a number.
use Rattle.std.proofs.Common.{◌≡◌, ℕ, ◌+◌, ◌<◌, ◌≤◌, Bool, true, false, ◌||◌, nat_lt, min, List, length, map, take, get_or, sym, ap, ◌∙◌, arith}
use Rattle.std.specs.List.{sum_by}
use Rattle.std.proofs.lemmas.Bool.Decides.{nat_tests}
use Rattle.std.proofs.lemmas.List.Sums.{sum_by_more}
use Rattle.std.proofs.lemmas.List.{get_or-map, take_all}
use Rattle.vtext.specs.Modules.{ModuleEntry}
use Rattle.elaboration.specs.declared.counts.TheConstants.{MANY}
use Rattle.elaboration.specs.declared.limits.TheConstants.{MAX_DEPTH, MAX_INSTANCES}
use Rattle.elaboration.specs.Levels.{has_many_instances, instance_count, is_deeper}

-- one more, of which so many are below
pub count_more : (most total sum below inner : ℕ) → total ≡ min most sum → below ≡ min most inner → min most (total + 1 + below) ≡ min most (sum + (1 + inner))
count_more most total sum below inner before more = omega arith

pub count_next : {X : Type 0} (most : ℕ) (inner : X → ℕ) (xs : List X) (i : ℕ) (x : X) (total below : ℕ) → i < length xs → x ≡ get_or xs i x
    → total ≡ min most (sum_by (λ y. 1 + inner y) (take i xs)) → below ≡ min most (inner x)
    → min most (total + 1 + below) ≡ min most (sum_by (λ y. 1 + inner y) (take (i + 1) xs))
count_next {X} most inner xs i x total below within is before more =
    count_more most total (sum_by (λ (y : X). 1 + inner y) (take i xs)) below (inner x) before more
    ∙ ap (λ (y : X). min most (sum_by (λ (z : X). 1 + inner z) (take i xs) + (1 + inner y))) is
    ∙ ap (min most) (sym (sum_by_more (λ (y : X). 1 + inner y) xs i x within))

pub count_end : {X : Type 0} (most : ℕ) (f : X → ℕ) (xs : List X) (i total : ℕ) → length xs ≤ i → total ≡ min most (sum_by f (take i xs)) → total ≡ min most (sum_by f xs)
count_end most f xs i total past before = before ∙ ap (λ ys. min most (sum_by f ys)) (take_all i xs past)

module _ (modules : List (ℕ × ModuleEntry)) (place : ℕ) (d : ℕ × ModuleEntry) (within : place < length modules) where
  deep_at : (levels : ℕ) (deep : List Bool) → deep ≡ map (λ (m : ℕ × ModuleEntry). is_deeper modules levels m.1) modules → get_or deep place false ≡ is_deeper modules levels (get_or modules place d).1
  deep_at levels deep table =
      ap (λ bs. get_or bs place false) table
      ∙ get_or-map (λ (m : ℕ × ModuleEntry). is_deeper modules levels m.1) modules place d false within

  counted_at : (levels : ℕ) (counts : List ℕ) → counts ≡ map (λ (m : ℕ × ModuleEntry). min MANY (instance_count modules levels m.1)) modules
      → get_or counts place 0 ≡ min MANY (instance_count modules levels (get_or modules place d).1)
  counted_at levels counts table =
      ap (λ ns. get_or ns place 0) table
      ∙ get_or-map (λ (m : ℕ × ModuleEntry). min MANY (instance_count modules levels m.1)) modules place d 0 within

  over : (c n : ℕ) → c ≡ min MANY (min MANY n) → nat_lt MAX_INSTANCES c ≡ nat_lt MAX_INSTANCES n
  over c n e = grind (arith, nat_tests)

  or_true : (a b : Bool) → a ≡ true → true ≡ (a || b)
  or_true a b e = sym (ap (λ (c : Bool). c || b) e)

  or_of : (a b c : Bool) → a ≡ false → b ≡ c → b ≡ (a || c)
  or_of a b c e same = same ∙ sym (ap (λ (x : Bool). x || c) e)

  pub many_deep : (deep : List Bool) (set : Bool) → deep ≡ map (λ (m : ℕ × ModuleEntry). is_deeper modules MAX_DEPTH m.1) modules → set ≡ get_or deep place false → set ≡ true
      → true ≡ has_many_instances modules (get_or modules place d).1
  unfolding has_many_instances
  many_deep deep set table is set_true =
      let entry = (get_or modules place d).1 in
      or_true (is_deeper modules MAX_DEPTH entry) (nat_lt MAX_INSTANCES (instance_count modules MAX_DEPTH entry)) (sym (deep_at MAX_DEPTH deep table) ∙ sym is ∙ set_true)

  pub many_counted : (deep : List Bool) (set : Bool) (counts : List ℕ) (count : ℕ) → deep ≡ map (λ (m : ℕ × ModuleEntry). is_deeper modules MAX_DEPTH m.1) modules → set ≡ get_or deep place false → set ≡ false
      → counts ≡ map (λ (m : ℕ × ModuleEntry). min MANY (instance_count modules MAX_DEPTH m.1)) modules → count ≡ min MANY (get_or counts place 0)
      → nat_lt MAX_INSTANCES count ≡ has_many_instances modules (get_or modules place d).1
  unfolding has_many_instances
  many_counted deep set counts count table is unset count_table is_count =
      let entry = (get_or modules place d).1 in
      or_of (is_deeper modules MAX_DEPTH entry) (nat_lt MAX_INSTANCES count) (nat_lt MAX_INSTANCES (instance_count modules MAX_DEPTH entry)) (sym (deep_at MAX_DEPTH deep table) ∙ sym is ∙ unset)
      (over count (instance_count modules MAX_DEPTH entry) (is_count ∙ ap (min MANY) (counted_at MAX_DEPTH counts count_table)))
