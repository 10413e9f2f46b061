-- What modules reach, through one module more.
use Rattle.std.proofs.Common.{◌≡◌, ℕ, zero, suc, ◌+◌, ◌-◌, ◌≤◌, Bool, true, false, ◌||◌, ◌&&◌, List, [], ◌∷◌, Result, Ok, Err, length, take, get_or, nat_eq, ◌<◌, cond, Option, Some, refl, sym, ap, ◌∙◌, arith}
use Rattle.std.specs.List.{list_any, slice_get}
use Rattle.std.specs.Map.{lookup}
use Rattle.std.specs.Result.{OnOk}
use Rattle.std.proofs.lemmas.Bool.Decides.{nat_tests}
use Rattle.std.proofs.lemmas.List.Folds.{list_any_at, list_any_more}
use Rattle.std.proofs.lemmas.Option.{get_or_from_slice_get, slice_get_within}
use Rattle.vtext.specs.Modules.{ModuleEntry}
use Rattle.elaboration.specs.Tops.{instantiates, reaches}

-- a test that answers alike finds alike
pub any_same : {X : Type 0} (p q : X → Bool) → ((x : X) → p x ≡ q x) → (xs : List X) → list_any p xs ≡ list_any q xs
any_same p q same [] = refl
any_same p q same (x ∷ xs) = ap (λ (b : Bool). b || list_any p xs) (same x) ∙ ap (λ (b : Bool). q x || b) (any_same p q same xs)

or_assoc : (a b c : Bool) → ((a || b) || c) ≡ (a || (b || c))
or_assoc true b c = refl
or_assoc false b c = refl

-- one item more of which some are found
pub any_next : {X : Type 0} (p : X → Bool) (xs : List X) (i : ℕ) (d : X) → i < length xs → (a b now : Bool) → now ≡ (b || p (get_or xs i d)) → b ≡ (a || list_any p (take i xs))
    → now ≡ (a || list_any p (take (i + 1) xs))
any_next p xs i d within a b now made before =
    made
    ∙ ap (λ (c : Bool). c || p (get_or xs i d)) before
    ∙ or_assoc a (list_any p (take i xs)) (p (get_or xs i d))
    ∙ ap (λ (c : Bool). a || c) (sym (list_any_more p xs i d within))

pub on_ok : {T E P Q : Type 0} (r : Result T E) → (P → Q) → OnOk r P → OnOk r Q
on_ok (Ok t) f h = f h
on_ok (Err e) f h = h

-- one of two is so
pub either : {P : Type 0} (a b : Bool) → (a || b) ≡ true → (a ≡ true → P) → (b ≡ true → P) → P
either true b e f g = f refl
either false b e f g = g e

or_true : (a b : Bool) → b ≡ true → (a || b) ≡ true
or_true true b e = refl
or_true false b e = e

-- what is found is the first, or found among the others
pub first_or : {X P : Type 0} (b : Bool) (first found : X) (others : Option X) → cond b (Some first) others ≡ Some found → (b ≡ true → first ≡ found → P) → (others ≡ Some found → P) → P
first_or true first found others e here there = let same : first ≡ found = cc in here refl same
first_or false first found others e here there = there e

pub is_same : (a b : ℕ) → nat_eq a b ≡ true → a ≡ b
is_same a b e = grind (arith, nat_tests)

key_there : (keys : List ℕ) (place name : ℕ) → slice_get keys place ≡ Some name → list_any (nat_eq name) keys ≡ true
key_there keys place name key =
    let at : get_or keys place 0 ≡ name = get_or_from_slice_get keys place name 0 key in
    let same : nat_eq name (get_or keys place 0) ≡ true = grind (arith, nat_tests) in
    list_any_at (nat_eq name) keys place 0 (slice_get_within keys place name key) same

any_inner : (is_reached : ℕ → Bool) (modules : List (ℕ × ModuleEntry)) (name to : ℕ) (entry : ModuleEntry) → is_reached name ≡ true → Some entry ≡ lookup (nat_eq name) modules
    → instantiates entry to ≡ true → list_any (λ (m : ℕ × ModuleEntry). is_reached m.0 && instantiates m.1 to) modules ≡ true
any_inner is_reached [] name to entry reached found there = absurd (cc)
any_inner is_reached (m ∷ ms) name to entry reached found there =
    let more : Bool = list_any (λ (m : ℕ × ModuleEntry). is_reached m.0 && instantiates m.1 to) ms in
    first_or (nat_eq name m.0) m.1 entry (lookup (nat_eq name) ms) (sym found)
    (λ (e : nat_eq name m.0 ≡ true) (is : m.1 ≡ entry).
    ap (λ (n : ℕ). (is_reached n && instantiates m.1 to) || more) (sym (is_same name m.0 e))
    ∙ ap (λ (x : ModuleEntry). (is_reached name && instantiates x to) || more) is
    ∙ ap (λ (b : Bool). (b && instantiates entry to) || more) reached
    ∙ ap (λ (b : Bool). b || more) there)
    (λ (e : lookup (nat_eq name) ms ≡ Some entry).
    or_true (is_reached m.0 && instantiates m.1 to) more (any_inner is_reached ms name to entry reached (sym e) there))

module _ (modules : List (ℕ × ModuleEntry)) (from : ℕ) where
  -- names that are reached through so many modules, and those of instances in theirs, are reached through one more
  pub reached_on : (is_reached : ℕ → Bool) (between : ℕ) → ((name : ℕ) → is_reached name ≡ reaches modules from between name) → (name : ℕ)
      → (is_reached name || list_any (λ (m : ℕ × ModuleEntry). is_reached m.0 && instantiates m.1 name) modules) ≡ reaches modules from (suc between) name
  reached_on is_reached between same name =
      ap (λ (b : Bool). b || list_any (λ (m : ℕ × ModuleEntry). is_reached m.0 && instantiates m.1 name) modules) (same name)
      ∙ ap (λ (b : Bool). reaches modules from between name || b)
      (any_same (λ (m : ℕ × ModuleEntry). is_reached m.0 && instantiates m.1 name) (λ (m : ℕ × ModuleEntry). reaches modules from between m.0 && instantiates m.1 name)
      (λ m. ap (λ (b : Bool). b && instantiates m.1 name) (same m.0)) modules)

  -- the same of sets as code keeps them
  pub reached_by : (before reached now : List ℕ) (between : ℕ) → before ≡ reached → ((name : ℕ) → list_any (nat_eq name) reached ≡ reaches modules from between name)
      → ((name : ℕ) → list_any (nat_eq name) now ≡ (list_any (nat_eq name) reached || list_any (λ (m : ℕ × ModuleEntry). list_any (nat_eq m.0) before && instantiates m.1 name) modules))
      → (name : ℕ) → list_any (nat_eq name) now ≡ reaches modules from (suc between) name
  reached_by before reached now between e same made name =
      made name
      ∙ ap (λ (keys : List ℕ). list_any (nat_eq name) reached || list_any (λ (m : ℕ × ModuleEntry). list_any (nat_eq m.0) keys && instantiates m.1 name) modules) e
      ∙ reached_on (λ n. list_any (nat_eq n) reached) between same name

  -- where one more module reaches no more, no more modules do
  pub reached_all : (between more : ℕ) → ((name : ℕ) → reaches modules from (suc between) name ≡ reaches modules from between name) → (name : ℕ)
      → reaches modules from (more + between) name ≡ reaches modules from between name
  reached_all between zero stays name = let none : zero + between ≡ between = omega arith in ap (λ (n : ℕ). reaches modules from n name) none
  reached_all between (suc more) stays name =
      let next : suc more + between ≡ suc (more + between) = omega arith in
      ap (λ (n : ℕ). reaches modules from n name) next
      ∙ sym (reached_on (reaches modules from between) (more + between) (λ n. sym (reached_all between more stays n)) name)
      ∙ stays name

  -- so all that is reached is reached by then
  pub reached_in_all : (reached now : List ℕ) (between : ℕ) → between ≤ length modules → ((name : ℕ) → list_any (nat_eq name) reached ≡ reaches modules from between name)
      → ((name : ℕ) → list_any (nat_eq name) now ≡ reaches modules from (suc between) name) → ((name : ℕ) → list_any (nat_eq name) now ≡ list_any (nat_eq name) reached)
      → (name : ℕ) → list_any (nat_eq name) now ≡ reaches modules from (length modules) name
  reached_in_all reached now between within before after same name =
      let left : ℕ = length modules - between in
      let all : left + between ≡ length modules = omega (arith, within) in
      same name ∙ before name
      ∙ sym (reached_all between left (λ n. sym (after n) ∙ same n ∙ before n) name)
      ∙ ap (λ (n : ℕ). reaches modules from n name) all

  -- what is reached is reached through more modules too
  reaches_more : (between more to : ℕ) → reaches modules from between to ≡ true → reaches modules from (more + between) to ≡ true
  reaches_more between zero to there = let none : zero + between ≡ between = omega arith in ap (λ (n : ℕ). reaches modules from n to) none ∙ there
  reaches_more between (suc more) to there =
      let next : suc more + between ≡ suc (more + between) = omega arith in
      ap (λ (n : ℕ). reaches modules from n to) next
      ∙ ap (λ (b : Bool). b || list_any (λ (m : ℕ × ModuleEntry). reaches modules from (more + between) m.0 && instantiates m.1 to) modules) (reaches_more between more to there)

  pub reaches_in_all : (between to : ℕ) → between ≤ length modules → reaches modules from between to ≡ true → reaches modules from (length modules) to ≡ true
  reaches_in_all between to within there =
      let left : ℕ = length modules - between in
      let all : left + between ≡ length modules = omega (arith, within) in
      sym (ap (λ (n : ℕ). reaches modules from n to) all) ∙ reaches_more between left to there

  -- what a module that is reached has an instance of is reached through one more
  pub reached_inner : (between : ℕ) (keys : List ℕ) (place name to : ℕ) (entry : ModuleEntry) → slice_get keys place ≡ Some name → Some entry ≡ lookup (nat_eq name) modules
      → ((n : ℕ) → list_any (nat_eq n) keys ≡ true → reaches modules from between n ≡ true) → (list_any (nat_eq to) keys || instantiates entry to) ≡ true
      → reaches modules from (suc between) to ≡ true
  reached_inner between keys place name to entry key found reached there =
      let inner : List (ℕ × ModuleEntry) → Bool = λ ms. list_any (λ (m : ℕ × ModuleEntry). reaches modules from between m.0 && instantiates m.1 to) ms in
      either (list_any (nat_eq to) keys) (instantiates entry to) there
      (λ (e : list_any (nat_eq to) keys ≡ true). ap (λ (b : Bool). b || inner modules) (reached to e))
      (λ (e : instantiates entry to ≡ true).
      or_true (reaches modules from between to) (inner modules)
      (any_inner (reaches modules from between) modules name to entry (reached name (key_there keys place name key)) found e))
