-- Nets by their names.
use Rattle.std.proofs.Common.{◌≡◌, ◌≢◌, ◌+◌, ◌<◌, ℕ, zero, suc, List, [], ◌∷◌, ◌++◌, Bool, true, false, Option, Some, None, AllPairs, IfNone, IfSome, length, map, slice_get, refl, ap, add-one, arith, sym, subst, ◌∙◌, take}
use Rattle.std.specs.List.{AllByRecursion, find, list_any, slice_index_or}
use Rattle.std.specs.Cmp.Lexicographic.{bytes_decides}
use Rattle.std.proofs.lemmas.Bool.{or_left, or_parts, or_right}
use Rattle.design.specs.Names.{same_name}
use Rattle.design.specs.Netlist.{NetEntry, Netlist, net_named}
use Rattle.differences.specs.kept.Found.{IsPlaceOf, name_at, names_in}

pub name_is : (a b : List ℕ) → same_name a b ≡ true → a ≡ b
name_is a b h = (bytes_decides a b).0 h

pub name_itself : (a : List ℕ) → same_name a a ≡ true
name_itself a = (bytes_decides a a).1 refl

name_differs : (a b : List ℕ) → a ≢ b → same_name a b ≡ false
name_differs a b apart =
    elim (same_name a b) as (λ r. same_name a b ≡ r → same_name a b ≡ false) [ true ↦ λ h. absurd (apart (name_is a b h)) | false ↦ λ h. h ] refl

-- What a search finds.

pub none_found : (p : NetEntry → Bool) (xs : List NetEntry) → list_any p xs ≡ false → find p xs ≡ None
none_found p [] h = refl
none_found p (x ∷ xs) h = let both = or_parts (p x) (list_any p xs) h in rw both.0 (none_found p xs both.1)

pub some_found : (p : NetEntry → Bool) (xs : List NetEntry) (i : ℕ) (x : NetEntry) → slice_get xs i ≡ Some x → p x ≡ true → (y : NetEntry) × (find p xs ≡ Some y)
some_found p [] i x at passes = absurd (cc)
some_found p (y ∷ xs) zero x at passes = let e : x ≡ y = cc in let here : p y ≡ true = rw e at passes in (y, rw here refl)
some_found p (y ∷ xs) (suc i) x at passes =
    elim (p y) as (λ b. p y ≡ b → (z : NetEntry) × (find p (y ∷ xs) ≡ Some z)) [
      | true ↦ λ h. (y, rw h refl)
      | false ↦ λ h. let rest = some_found p xs i x at passes in (rest.0, rw h rest.1)
    ] refl

pub each_got : (P : NetEntry → Type 0) (xs : List NetEntry) → ((i : ℕ) (x : NetEntry) → slice_get xs i ≡ Some x → P x) → AllByRecursion P xs
each_got P [] got = tt
each_got P (x ∷ xs) got = (got 0 x refl, each_got P xs (λ i y at. got (suc i) y at))

each_at : (P : NetEntry → Type 0) (xs : List NetEntry) (i : ℕ) (x : NetEntry) → AllByRecursion P xs → slice_get xs i ≡ Some x → P x
each_at P [] i x all at = absurd (cc)
each_at P (y ∷ xs) zero x all at = let e : y ≡ x = cc in subst P e all.0
each_at P (y ∷ xs) (suc i) x all at = each_at P xs i x all.1 at

each_by : (P : NetEntry → Type 0) (xs : List NetEntry) → ((i : ℕ) (d : NetEntry) → i < length xs → P (slice_index_or xs i d)) → AllByRecursion P xs
each_by P [] each = tt
each_by P (x ∷ xs) each = (each 0 x (omega arith), each_by P xs (λ i d within. each (suc i) d (omega arith)))

abbrev AreNamedApart : List NetEntry → Type 0
AreNamedApart [] = Unit {0}
AreNamedApart (x ∷ xs) = AllByRecursion (λ y. x.name ≢ y.name) xs × AreNamedApart xs

named_apart : (xs : List NetEntry) → AllPairs (λ n m. n.name ≢ m.name) xs → AreNamedApart xs
named_apart [] pairs = tt
named_apart (x ∷ xs) pairs = (
  each_by (λ y. x.name ≢ y.name) xs (λ i d within. pairs 0 (suc i) d (omega arith) (omega arith)),
  named_apart xs (λ i j d before within. pairs (suc i) (suc j) d (omega arith) (omega arith)),
)

found_by_name : (xs : List NetEntry) (i : ℕ) (n : NetEntry) (name : List ℕ) → AreNamedApart xs → slice_get xs i ≡ Some n → n.name ≡ name → find (λ m. same_name m.name name) xs ≡ Some n
found_by_name [] i n name apart at is = absurd (cc)
found_by_name (x ∷ xs) zero n name apart at is =
    let e : x ≡ n = cc in
    let same : x.name ≡ name = ap (λ (m : NetEntry). m.name) e ∙ is in
    let here : same_name x.name name ≡ true = (bytes_decides x.name name).1 same in
    rw here (ap Some e)
found_by_name (x ∷ xs) (suc i) n name apart at is =
    let other : x.name ≢ n.name = each_at (λ y. x.name ≢ y.name) xs i n apart.0 at in
    let here : same_name x.name name ≡ false = name_differs x.name name (λ e. other (e ∙ sym is)) in
    rw here (found_by_name xs i n name apart.1 at is)

-- the net at a place is the one of its name
pub net_of_name : (xs : List NetEntry) (i : ℕ) (n : NetEntry) (name : List ℕ) → AllPairs (λ n m. n.name ≢ m.name) xs → slice_get xs i ≡ Some n → n.name ≡ name → find (λ m. same_name m.name name) xs ≡ Some n
net_of_name xs i n name pairs at is = found_by_name xs i n name (named_apart xs pairs) at is

-- Names by place.

pub name_at_place : (xs : List NetEntry) (i : ℕ) (n : NetEntry) → slice_get xs i ≡ Some n → slice_get (map (λ m. m.name) xs) i ≡ Some n.name
name_at_place [] i n at = absurd (cc)
name_at_place (x ∷ xs) zero n at = let e : x ≡ n = cc in ap (λ (m : NetEntry). Some m.name) e
name_at_place (x ∷ xs) (suc i) n at = name_at_place xs i n at

pub got_left : (xs ys : List (List ℕ)) (i : ℕ) (x : List ℕ) → slice_get xs i ≡ Some x → slice_get (xs ++ ys) i ≡ Some x
got_left [] ys i x at = absurd (cc)
got_left (y ∷ xs) ys zero x at = at
got_left (y ∷ xs) ys (suc i) x at = got_left xs ys i x at

pub got_right : (xs ys : List (List ℕ)) (i k : ℕ) (x : List ℕ) → i ≡ length xs + k → slice_get ys k ≡ Some x → slice_get (xs ++ ys) i ≡ Some x
got_right [] ys i k x is at = let e : i ≡ k = omega arith in subst (λ (n : ℕ). slice_get ys n ≡ Some x) (sym e) at
got_right (y ∷ xs) ys zero k x is at = absurd (omega arith)
got_right (y ∷ xs) ys (suc i) k x is at = got_right xs ys i k x (omega arith) at

pub got_is : (xs : List (List ℕ)) (i : ℕ) (x : List ℕ) → slice_get xs i ≡ Some x → slice_index_or xs i [] ≡ x
got_is [] i x at = absurd (cc)
got_is (y ∷ xs) zero x at = cc
got_is (y ∷ xs) (suc i) x at = got_is xs i x at

pub got_within : (xs : List (List ℕ)) (i : ℕ) (x : List ℕ) → slice_get xs i ≡ Some x → i < length xs
got_within [] i x at = absurd (cc)
got_within (y ∷ xs) zero x at = omega arith
got_within (y ∷ xs) (suc i) x at = let rest = got_within xs i x at in omega arith

-- one more element
pub take_one_more : (xs : List (List ℕ)) (i : ℕ) (x : List ℕ) → slice_get xs i ≡ Some x → take (i + 1) xs ≡ take i xs ++ x ∷ []
take_one_more [] i x at = absurd (cc)
take_one_more (y ∷ xs) zero x at = let e : y ≡ x = cc in rw e refl
take_one_more (y ∷ xs) (suc i) x at = let more = take_one_more xs i x at in rw add-one (ap (λ ws. y ∷ ws) (rw add-one at more))

-- Places of names.

pub any_at : (p : NetEntry → Bool) (xs : List NetEntry) (i : ℕ) (x : NetEntry) → slice_get xs i ≡ Some x → p x ≡ true → list_any p xs ≡ true
any_at p [] i x at passes = absurd (cc)
any_at p (y ∷ xs) zero x at passes = let e : y ≡ x = cc in let here : p y ≡ true = subst (λ (z : NetEntry). p z ≡ true) (sym e) passes in or_left (p y) (list_any p xs) here
any_at p (y ∷ xs) (suc i) x at passes = or_right (p y) (list_any p xs) (any_at p xs i x at passes)

pub net_there : (xs : List NetEntry) (i : ℕ) → i < length xs → (n : NetEntry) × (slice_get xs i ≡ Some n)
net_there [] i lt = absurd (omega arith)
net_there (x ∷ xs) zero lt = (x, refl)
net_there (x ∷ xs) (suc i) lt = net_there xs i (omega arith)

pub place_from : (d : Netlist) (name : List ℕ) (o : Option ℕ) → IfSome o (λ p. p < length d.nets) → IfSome o (λ p. slice_get d.nets p ≡ net_named d name) → IfNone o (net_named d name ≡ None) → IsPlaceOf d name o
place_from d name None within net absent = absent
place_from d name (Some p) within net absent = (within, net)

pub named_as : (d : Netlist) (place : ℕ) (n : NetEntry) → slice_get d.nets place ≡ Some n → name_at d place ≡ n.name
named_as d place n at = got_is (names_in d) place n.name (name_at_place d.nets place n at)
