-- Where lists of points part: what comes after a moment decides what a stimulus gives from it on.
use Rattle.std.proofs.Common.{◌≡◌, ℕ, zero, suc, ◌+◌, ◌-◌, ◌<◌, ◌≤◌, add-one, append_assoc, length-drop, subst, take, nat_le, nat_lt, Bool, true, false, cond, List, [], ◌∷◌, ◌++◌, length, get_or, drop, All, None, sym, refl, ap, ◌∙◌, arith}
use Rattle.std.specs.Prelude.{IfSome, slice_get, slice_index_or}
use Rattle.std.proofs.lemmas.List.{take-append-drop}
use Rattle.std.proofs.lemmas.Bool.{le-leb, leb-false, leb-true, lt-leb}
use Rattle.std.proofs.lemmas.Bool.Decides.{nat_tests}
use Rattle.std.proofs.lemmas.List.Elements.{All-cons, All-weaker, filter-append}
use Rattle.std.specs.List.{AllWithin, filter, flat_map, last_or}
use Rattle.std.specs.List.Sorted.{IsPartitionPoint}
use Rattle.std.specs.Option.{option_map_or}
use Rattle.fourstate.specs.declared.value.Value.{Value}
use Rattle.fourstate.specs.declared.value.Value.TheVariants.{Unknown}
use Rattle.design.specs.kept.Lawful.{AreRising}
use Rattle.design.specs.Netlist.{stimulus}
use Rattle.design.specs.kept.Pieces.{IsHome}
use Rattle.design.proofs.PieceLemmas.{kept_all, kept_none, last_of, nil_right, rising_right}
use Rattle.design.proofs.PointLemmas.{rising_head, rising_tail}

-- the points up to a moment, and those after one
abbrev pub until : ℕ → List (ℕ × Value) → List (ℕ × Value)
until m points = filter (λ p. nat_le p.0 m) points

abbrev pub behind : ℕ → List (ℕ × Value) → List (ℕ × Value)
behind t points = filter (λ p. nat_lt t p.0) points

after_on : (t m : ℕ) → t < m → nat_lt t m ≡ true
after_on t m low = grind (arith, nat_tests)

after_off : (t m : ℕ) → m ≤ t → nat_lt t m ≡ false
after_off t m high = grind (arith, nat_tests)

split_at : (xs : List (ℕ × Value)) (t m : ℕ) → AreRising xs → t ≤ m → until m xs ≡ until t xs ++ until m (behind t xs)
split_at [] t m rising order = refl
split_at (x ∷ xs) t m rising order = by (nat_le x.0 t) refl (split_at xs t m (rising_tail x xs rising) order)
  where
    by : (b : Bool) → nat_le x.0 t ≡ b → until m xs ≡ until t xs ++ until m (behind t xs) → until m (x ∷ xs) ≡ until t (x ∷ xs) ++ until m (behind t (x ∷ xs))
    by true low rest =
        let early : x.0 ≤ t = leb-true x.0 t low in
        let kept : until t (x ∷ xs) ≡ x ∷ until t xs = ap (λ b. cond b (x ∷ until t xs) (until t xs)) low in
        let gone : behind t (x ∷ xs) ≡ behind t xs = ap (λ b. cond b (x ∷ behind t xs) (behind t xs)) (after_off t x.0 early) in
        ap (λ b. cond b (x ∷ until m xs) (until m xs)) (le-leb x.0 m (omega arith)) ∙ ap (λ l. x ∷ l) rest
        ∙ sym (ap (λ l. l ++ until m (behind t (x ∷ xs))) kept ∙ ap (λ l. x ∷ (until t xs ++ until m l)) gone)
    by false high rest =
        let late : t < x.0 = leb-false x.0 t high in
        let all : All (λ p. t < p.0) (x ∷ xs) = All-cons (λ p. t < p.0) x xs late (All-weaker (λ q. x.0 < q.0) (λ q. t < q.0) (λ q more. omega arith) xs (rising_head x xs rising)) in
        let none : until t (x ∷ xs) ≡ [] = kept_none (λ p. nat_le p.0 t) (λ p. t < p.0) (x ∷ xs) (λ q more. lt-leb q.0 t (omega arith)) all in
        let whole : behind t (x ∷ xs) ≡ x ∷ xs = kept_all (λ p. nat_lt t p.0) (λ p. t < p.0) (x ∷ xs) (λ q more. after_on t q.0 more) all in
        sym (ap (λ l. l ++ until m (behind t (x ∷ xs))) none ∙ ap (until m) whole)

abbrev value_of : List (ℕ × Value) → Value
value_of points = option_map_or (λ p. p.1) (last_or None points) Unknown

same_end : (before before' after : List (ℕ × Value)) → value_of before ≡ value_of before' → value_of (before ++ after) ≡ value_of (before' ++ after)
same_end before before' [] same = ap value_of (nil_right before) ∙ same ∙ sym (ap value_of (nil_right before'))
same_end before before' (p ∷ ps) same =
    ap (λ o. option_map_or (λ p. p.1) o Unknown) (last_of None before p ps) ∙ sym (ap (λ o. option_map_or (λ p. p.1) o Unknown) (last_of None before' p ps))

-- two stimuli that are the same at a moment are so as long as the same points come after it
pub same_from : (xs ys : List (ℕ × Value)) (t m : ℕ) → AreRising xs → AreRising ys → t ≤ m → stimulus xs t ≡ stimulus ys t → until m (behind t xs) ≡ until m (behind t ys) → stimulus xs m ≡ stimulus ys m
same_from xs ys t m rising rising' order same after =
    ap value_of (split_at xs t m rising order) ∙ same_end (until t xs) (until t ys) (until m (behind t xs)) same
    ∙ ap (λ l. value_of (until t ys ++ l)) after ∙ sym (ap value_of (split_at ys t m rising' order))

-- The points of the piece where a moment belongs, and those of the pieces behind it.

past : (xs : List (ℕ × Value)) (t n : ℕ) → AllWithin (λ p. nat_le p.0 t ≡ true) xs 0 n → AllWithin (λ p. nat_le p.0 t ≡ false) xs n (length xs) → behind t xs ≡ drop n xs
past [] t zero pass fail = refl
past [] t (suc n) pass fail = refl
past (x ∷ xs) t zero pass fail =
    let late : t < x.0 = leb-false x.0 t (fail zero x (omega arith) (omega arith)) in
    ap (λ b. cond b (x ∷ behind t xs) (behind t xs)) (after_on t x.0 late)
    ∙ ap (λ l. x ∷ l) (past xs t zero (λ k d low high. absurd (omega arith)) (λ k d low high. fail (suc k) d (omega arith) (omega arith)))
past (x ∷ xs) t (suc n) pass fail =
    let early : x.0 ≤ t = leb-true x.0 t (pass zero x (omega arith) (omega arith)) in
    ap (λ b. cond b (x ∷ behind t xs) (behind t xs)) (after_off t x.0 early)
    ∙ past xs t n (λ k d low high. pass (suc k) d (omega arith) (omega arith)) (λ k d low high. fail (suc k) d (omega arith) (omega arith))

pub later_part : {C : Type 0} (items : C → List (ℕ × Value)) (t : ℕ) (cs : List C) (h n : ℕ) (old : C) → IsHome items t cs h → old ≡ get_or cs h old →
    IsPartitionPoint (λ p. nat_le p.0 t ≡ true) (λ p. nat_le p.0 t ≡ false) (items old) n → drop n (items old) ++ flat_map items (drop (suc h) cs) ≡ behind t (flat_map items cs)
later_part items t [] h n old home e split = absurd home
later_part items t (c ∷ cs) zero n old home e split =
    ap (λ l. l ++ flat_map items cs) (sym (past (items old) t n split.0 split.1)) ∙ ap (λ o. behind t (items o) ++ flat_map items cs) e
    ∙ ap (λ l. behind t (items c) ++ l) (sym (kept_all (λ p. nat_lt t p.0) (λ p. t < p.0) (flat_map items cs) (λ q more. after_on t q.0 more) home))
    ∙ sym (filter-append (λ p. nat_lt t p.0) (items c) (flat_map items cs))
later_part items t (c ∷ cs) (suc h) n old home e split =
    later_part items t cs h n old home.1 e split
    ∙ ap (λ l. l ++ behind t (flat_map items cs)) (sym (kept_none (λ p. nat_lt t p.0) (λ p. p.0 < t) (items c) (λ q less. after_off t q.0 (omega arith)) home.0))
    ∙ sym (filter-append (λ p. nat_lt t p.0) (items c) (flat_map items cs))

-- before its first point a list has none
pub none_yet : (xs rest : List (ℕ × Value)) (m : ℕ) → (length xs ≡ 0 → rest ≡ []) → AreRising (xs ++ rest) → IfSome (slice_get xs 0) (λ p. m < p.0) → until m (xs ++ rest) ≡ []
none_yet [] rest m ended rising first = ap (until m) (ended refl)
none_yet (x ∷ xs) rest m ended rising first =
    let late : m < x.0 = first in
    let all : All (λ p. m < p.0) (x ∷ (xs ++ rest)) =
    All-cons (λ p. m < p.0) x (xs ++ rest) late (All-weaker (λ q. x.0 < q.0) (λ q. m < q.0) (λ q more. omega arith) (xs ++ rest) (rising_head x (xs ++ rest) rising)) in
    kept_none (λ p. nat_le p.0 m) (λ p. m < p.0) (x ∷ (xs ++ rest)) (λ q more. lt-leb q.0 m (omega arith)) all

-- Points that two lists share.

one_more : {X : Type 0} (xs ys : List X) (i : ℕ) (d e : X) → i < length xs → i < length ys → slice_index_or xs i d ≡ slice_index_or ys i e → take i xs ≡ take i ys → take (suc i) xs ≡ take (suc i) ys
one_more [] ys i d e low low' same alike = absurd (omega arith)
one_more (x ∷ xs) [] i d e low low' same alike = absurd (omega arith)
one_more (x ∷ xs) (y ∷ ys) zero d e low low' same alike = ap (λ z. z ∷ []) same
one_more (x ∷ xs) (y ∷ ys) (suc i) d e low low' same alike =
    let first : x ≡ y = cc in
    let rest : take i xs ≡ take i ys = cc in
    let more : take (suc i) xs ≡ take (suc i) ys = one_more xs ys i d e (omega arith) (omega arith) same rest in
    cc

pub take_one_more : {X : Type 0} (xs ys : List X) (i : ℕ) (d e : X) → i < length xs → i < length ys → slice_index_or xs i d ≡ slice_index_or ys i e → take i xs ≡ take i ys → take (i + 1) xs ≡ take (i + 1) ys
take_one_more xs ys i d e low low' same alike = ap (λ n. take n xs) (add-one i) ∙ one_more xs ys i d e low low' same alike ∙ sym (ap (λ n. take n ys) (add-one i))

take_all : {X : Type 0} (ys : List X) (k : ℕ) → length ys ≤ k → take k ys ≡ ys
take_all [] zero low = refl
take_all [] (suc k) low = refl
take_all (y ∷ ys) zero low = absurd (omega arith)
take_all (y ∷ ys) (suc k) low = ap (λ l. y ∷ l) (take_all ys k (omega arith))

-- what is left of a slice from an index on
pub from_index : {X : Type 0} (xs : List X) (n : ℕ) → take (length xs - n) (drop n xs) ≡ drop n xs
from_index xs n = take_all (drop n xs) (length xs - n) (omega (arith, length-drop n xs))

-- points that both lists begin with go to those that they share
pub shared_more : (whole before xs rest now : List (ℕ × Value)) (n : ℕ) → whole ≡ before ++ (xs ++ rest) → now ≡ drop n xs ++ rest → whole ≡ (before ++ take n xs) ++ now
shared_more whole before xs rest now n at is =
    at ∙ ap (λ l. before ++ (l ++ rest)) (sym (take-append-drop n xs)) ∙ ap (λ l. before ++ l) (append_assoc (take n xs) (drop n xs) rest)
    ∙ sym (append_assoc before (take n xs) (drop n xs ++ rest)) ∙ ap (λ l. (before ++ take n xs) ++ l) (sym is)

-- the pieces behind the first one
pub behind_first : {C X : Type 0} (items : C → List X) (cs : List C) (first : C) → 0 < length cs → first ≡ get_or cs 0 first → flat_map items cs ≡ items first ++ flat_map items (drop 1 cs)
behind_first items [] first some at = absurd (omega arith)
behind_first items (c ∷ cs) first some at = ap (λ d. items d ++ flat_map items cs) (sym at)

-- two lists that share their first points and have no other ones up to a moment have the same ones up to it
pub same_until : (whole whole' shared rest rest' : List (ℕ × Value)) (m : ℕ) → whole ≡ shared ++ rest → whole' ≡ shared ++ rest' → until m rest ≡ [] → until m rest' ≡ [] → until m whole ≡ until m whole'
same_until whole whole' shared rest rest' m is is' none none' =
    ap (until m) is ∙ filter-append (λ p. nat_le p.0 m) shared rest ∙ ap (λ l. until m shared ++ l) (none ∙ sym none')
    ∙ sym (ap (until m) is' ∙ filter-append (λ p. nat_le p.0 m) shared rest')

pub rising_rest : (whole shared rest : List (ℕ × Value)) → whole ≡ shared ++ rest → AreRising whole → AreRising rest
rising_rest whole shared rest is rising = rising_right shared rest (subst AreRising is rising)

empty_left : {X : Type 0} (xs ys : List X) → length xs ≡ 0 → xs ++ ys ≡ ys
empty_left [] ys none = refl
empty_left (x ∷ xs) ys none = absurd (omega arith)

-- the first piece in the place of points of which none are left
pub refilled : {C : Type 0} (items : C → List (ℕ × Value)) (cs rest : List C) (first : C) (left points : List (ℕ × Value)) → length left ≡ 0 → 0 < length cs → first ≡ get_or cs 0 first →
    points ≡ items first → rest ≡ drop 1 cs → points ++ flat_map items rest ≡ left ++ flat_map items cs
refilled items cs rest first left points none some at these behind_it =
    ap (λ l. l ++ flat_map items rest) these ∙ ap (λ l. items first ++ flat_map items l) behind_it ∙ sym (behind_first items cs first some at) ∙ sym (empty_left left (flat_map items cs) none)

-- with no points and no pieces there is nothing
pub none_over : {C : Type 0} (items : C → List (ℕ × Value)) (cs : List C) → length cs ≡ 0 → flat_map items cs ≡ []
none_over items [] none = refl
none_over items (c ∷ cs) none = absurd (omega arith)
