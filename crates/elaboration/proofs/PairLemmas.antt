-- Lists whose items differ in pairs; places in lists.
use Rattle.std.proofs.Common.{◌≡◌, ℕ, suc, ◌+◌, Bool, true, false, cond, List, [], ◌∷◌, Option, Some, refl, sym, ap, ◌∙◌, arith, All, AllPairs, subst, ◌≢◌, ◌++◌, map, get_or, nat_eq, append_assoc}
use Rattle.std.specs.Prelude.{flat_map, option_map, position}
use Rattle.std.specs.List.{position_from}
use Rattle.std.specs.Map.{lookup}
use Rattle.std.proofs.lemmas.List.Elements.{All-append, All-cons, All-head, All-map, All-nil, All-tail, All-weaker}
use Rattle.std.proofs.lemmas.List.Kept.{AllPairs-cons}
use Rattle.std.proofs.lemmas.Bool.Decides.{nat_tests}
use Rattle.std.proofs.lemmas.Iterator.Adapters.{position_from-zero}

module _ {X : Type 0} (R : X → X → Type 0) where
  pub pairs_head : (x : X) (xs : List X) → AllPairs R (x ∷ xs) → All (R x) xs
  pairs_head x xs pairs = λ k d within. pairs 0 (suc k) d (omega arith) (omega arith)

  pub pairs_tail : (x : X) (xs : List X) → AllPairs R (x ∷ xs) → AllPairs R xs
  pairs_tail x xs pairs = λ i j d before within. pairs (suc i) (suc j) d (omega arith) (omega arith)

module _ {X : Type 0} (p : X → Bool) where
  cond_suc : (b : Bool) (i : ℕ) (o : Option ℕ) → cond b (Some (suc i)) (option_map suc o) ≡ option_map suc (cond b (Some i) o)
  cond_suc true i o = refl
  cond_suc false i o = refl

  -- one place on
  pub position_on : (i : ℕ) (xs : List X) → position_from p (suc i) xs ≡ option_map suc (position_from p i xs)
  position_on i [] = refl
  position_on i (x ∷ xs) =
      let next : suc i + 1 ≡ suc (i + 1) = omega arith in
      ap (λ n. cond (p x) (Some (suc i)) (position_from p n xs)) next
      ∙ ap (λ o. cond (p x) (Some (suc i)) o) (position_on (i + 1) xs)
      ∙ cond_suc (p x) i (position_from p (i + 1) xs)

  pub position_first : (x : X) (xs : List X) → position p (x ∷ xs) ≡ cond (p x) (Some 0) (option_map suc (position p xs))
  position_first x xs =
      let one : 0 + 1 ≡ 1 = omega arith in
      position_from-zero p (x ∷ xs)
      ∙ ap (λ n. cond (p x) (Some 0) (position_from p n xs)) one
      ∙ ap (λ o. cond (p x) (Some 0) o) (position_on 0 xs ∙ ap (option_map suc) (sym (position_from-zero p xs)))

-- what holds of all holds of what is found
module _ {M : Type 0} (P : M → Type 0) (test : ℕ → Bool) where
  found_first : (b : Bool) (x : M) (rest : Option M) (m : M) → P x → (Some m ≡ rest → P m) → Some m ≡ cond b (Some x) rest → P m
  found_first true x rest m holds others e = let same : x ≡ m = cc in subst P same holds
  found_first false x rest m holds others e = others e

  pub found_holds : (modules : List (ℕ × M)) (m : M) → All (λ (o : ℕ × M). P o.1) modules → Some m ≡ lookup test modules → P m
  found_holds [] m all e = absurd (cc)
  found_holds (x ∷ modules) m all e =
      found_first (test x.0) x.1 (lookup test modules) m (All-head (λ (o : ℕ × M). P o.1) x modules all)
      (λ f. found_holds modules m (All-tail (λ (o : ℕ × M). P o.1) x modules all) f) e

pub flat_append : {A B : Type 0} (f : A → List B) (xs ys : List A) → flat_map f (xs ++ ys) ≡ flat_map f xs ++ flat_map f ys
flat_append f [] ys = refl
flat_append f (x ∷ xs) ys = ap (λ bs. f x ++ bs) (flat_append f xs ys) ∙ sym (append_assoc (f x) (flat_map f xs) (flat_map f ys))

pub differ : (a b : ℕ) → a ≢ b → nat_eq a b ≡ false
differ a b apart = grind (arith, nat_tests)

-- Pairs of two lists.

module _ {X : Type 0} (R : X → X → Type 0) where
  pub no_pairs : AllPairs R []
  no_pairs = λ i j d before within. absurd (omega arith)

  pub pairs_append : (xs ys : List X) → AllPairs R xs → AllPairs R ys → All (λ x. All (R x) ys) xs → AllPairs R (xs ++ ys)
  pairs_append [] ys first second across = second
  pairs_append (x ∷ xs) ys first second across =
      AllPairs-cons R x (xs ++ ys)
      (All-append (R x) xs ys (pairs_head R x xs first) (All-head (λ (a : X). All (R a) ys) x xs across))
      (pairs_append xs ys (pairs_tail R x xs first) second (All-tail (λ (a : X). All (R a) ys) x xs across))

-- each of some items differs from each of others, where they have what does
pub all_across : {X : Type 0} (P Q : X → Type 0) (R : X → X → Type 0) → ((x y : X) → P x → Q y → R x y) → (xs ys : List X) → All P xs → All Q ys → All (λ x. All (R x) ys) xs
all_across {X} P Q R apart xs ys first second = All-weaker P (λ (x : X). All (R x) ys) (λ x p. All-weaker Q (R x) (λ y q. apart x y p q) ys second) xs first

pub pairs_map : {X Y : Type 0} (f : X → Y) (P : X → Type 0) (R : X → X → Type 0) (S : Y → Y → Type 0) → ((x y : X) → P x → P y → R x y → S (f x) (f y)) → (xs : List X) → All P xs → AllPairs R xs → AllPairs S (map f xs)
pairs_map f P R S keeps [] all pairs = no_pairs S
pairs_map {X} {Y} f P R S keeps (x ∷ xs) all pairs =
    AllPairs-cons S (f x) (map f xs)
    (All-map (S (f x)) f xs (λ k d within. keeps x (get_or xs k d) (All-head P x xs all) (All-tail P x xs all k d within) (pairs_head R x xs pairs k d within)))
    (pairs_map f P R S keeps xs (All-tail P x xs all) (pairs_tail R x xs pairs))

pub pairs_of_map : {X Y : Type 0} (f : X → Y) (xs : List X) → AllPairs (λ a b. a ≢ b) (map f xs) → AllPairs (λ a b. f a ≢ f b) xs
pairs_of_map f [] pairs = no_pairs (λ a b. f a ≢ f b)
pairs_of_map {X} {Y} f (x ∷ xs) pairs =
    AllPairs-cons (λ a b. f a ≢ f b) x xs (unmap (λ y. f x ≢ y) xs (pairs_head (λ (a b : Y). a ≢ b) (f x) (map f xs) pairs))
    (pairs_of_map f xs (pairs_tail (λ (a b : Y). a ≢ b) (f x) (map f xs) pairs))
  where
    unmap : (P : Y → Type 0) (zs : List X) → All P (map f zs) → All (λ z. P (f z)) zs
    unmap P [] all = All-nil (λ z. P (f z))
    unmap P (z ∷ zs) all = All-cons (λ z. P (f z)) z zs (All-head P (f z) (map f zs) all) (unmap P zs (All-tail P (f z) (map f zs) all))

-- Lists of lists.

-- what holds of all items of each list holds of all
pub all_flat : {X Y : Type 0} (f : X → List Y) (P : X → Type 0) (Q : Y → Type 0) → ((x : X) → P x → All Q (f x)) → (xs : List X) → All P xs → All Q (flat_map f xs)
all_flat f P Q each [] all = All-nil Q
all_flat f P Q each (x ∷ xs) all = All-append Q (f x) (flat_map f xs) (each x (All-head P x xs all)) (all_flat f P Q each xs (All-tail P x xs all))

-- items of one list differ, and those of two
pub pairs_flat : {X Y : Type 0} (f : X → List Y) (P : X → Type 0) (R : X → X → Type 0) (S : Y → Y → Type 0) → ((x : X) → P x → AllPairs S (f x))
    → ((x y : X) → P x → P y → R x y → All (λ u. All (S u) (f y)) (f x)) → (xs : List X) → All P xs → AllPairs R xs → AllPairs S (flat_map f xs)
pairs_flat f P R S within across [] all pairs = no_pairs S
pairs_flat {X} {Y} f P R S within across (x ∷ xs) all pairs =
    pairs_append S (f x) (flat_map f xs) (within x (All-head P x xs all)) (pairs_flat f P R S within across xs (All-tail P x xs all) (pairs_tail R x xs pairs))
    (λ k d inside. all_flat f (λ (y : X). P y × R x y) (S (get_or (f x) k d)) (λ y both. across x y (All-head P x xs all) both.0 both.1 k d inside) xs
    (λ j e there. (All-tail P x xs all j e there, pairs_head R x xs pairs j e there)))
