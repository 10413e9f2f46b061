-- The lines of all differences of two designs.
use Rattle.std.proofs.Common.{◌≡◌, ◌<◌, ◌+◌, ◌++◌, ℕ, suc, min, not, List, [], ◌∷◌, Bool, true, false, Some, All, AllPairs, length, map, refl, ap, arith, sym, subst, ◌∙◌}
use Rattle.std.specs.List.{AllByRecursion, filter, flat_map, slice_index_or}
use Rattle.std.specs.List.Sorted.{IsPermutation}
use Rattle.std.proofs.Math.ListN.{get_or-append}
use Rattle.std.proofs.lemmas.List.{get_or-append-add, length-map}
use Rattle.std.proofs.lemmas.List.Concat.{flat_map-append}
use Rattle.std.proofs.lemmas.List.Elements.{All-from_recursion, filter-append, recursion_from_All}
use Rattle.std.proofs.lemmas.List.Sorted.{All-permutation}
use Rattle.design.specs.Names.{same_name}
use Rattle.design.specs.Netlist.{NetEntry, Netlist, has_net}
use Rattle.differences.specs.declared.room.Difference.{Difference}
use Rattle.differences.specs.Differences.{common_moments, difference_line, difference_lines, first_moment, is_moment, names_from}
use Rattle.differences.specs.kept.Found.{all_found, differences_in, line_of, moment_beyond, names_in}
use Rattle.differences.specs.kept.Order.{GoesFirst}
use Rattle.differences.proofs.FoundLemmas.{IsBetween, StandAt, between, early, found_lines, found_lines-append, join_each, join_numbered, lines_found, numbered, weaken_each}
use Rattle.differences.proofs.MomentLemmas.{moment_within, only_second}
use Rattle.differences.proofs.NameLemmas.{each_got, name_itself, none_found, some_found}
use Rattle.differences.proofs.OrderLemmas.{AreNumbered, in_order_is, is_at}

abbrev pub all_names : Netlist → Netlist → List (List ℕ)
all_names d e = names_in d ++ names_in e

pub as_many : (d : Netlist) → length (names_in d) ≡ length d.nets
as_many d = length-map d.nets (λ n. n.name)

-- Numbers and moments.

own_between : (d e : Netlist) → AllByRecursion (IsBetween 0 (length d.nets)) (differences_in (first_moment d e) 0 (names_in d))
own_between d e =
    let many = as_many d in
    let e' : 0 + length (names_in d) ≡ length d.nets = omega arith in
    subst (λ (n : ℕ). AllByRecursion (IsBetween 0 n) (differences_in (first_moment d e) 0 (names_in d))) e' (between (first_moment d e) 0 (names_in d))

beyond_between : (d e : Netlist) → AllByRecursion (IsBetween (length d.nets) (length d.nets + length e.nets)) (differences_in (moment_beyond d) (length d.nets) (names_in e))
beyond_between d e =
    subst (λ (n : ℕ). AllByRecursion (IsBetween (length d.nets) (length d.nets + n)) (differences_in (moment_beyond d) (length d.nets) (names_in e))) (as_many e)
    (between (moment_beyond d) (length d.nets) (names_in e))

all_numbered : (d e : Netlist) → AreNumbered (all_found d e)
all_numbered d e =
    join_numbered 0 (length d.nets) (length d.nets + length e.nets) (differences_in (first_moment d e) 0 (names_in d)) (differences_in (moment_beyond d) (length d.nets) (names_in e))
    (numbered (first_moment d e) 0 (names_in d)) (numbered (moment_beyond d) (length d.nets) (names_in e)) (own_between d e) (beyond_between d e)

all_below : (d e : Netlist) → AllByRecursion (λ x. x.number < length d.nets + length e.nets) (all_found d e)
all_below d e =
    let high = length d.nets + length e.nets in
    join_each (λ x. x.number < high) (differences_in (first_moment d e) 0 (names_in d)) (differences_in (moment_beyond d) (length d.nets) (names_in e))
    (weaken_each (IsBetween 0 (length d.nets)) (λ x. x.number < high) (differences_in (first_moment d e) 0 (names_in d)) (λ x both. omega (arith, both.1)) (own_between d e))
    (weaken_each (IsBetween (length d.nets) high) (λ x. x.number < high) (differences_in (moment_beyond d) (length d.nets) (names_in e)) (λ x both. both.1) (beyond_between d e))

-- each has a name, in whatever order they stand
pub each_named : (d e : Netlist) (sorted : List Difference) → IsPermutation (all_found d e) sorted → All (λ x. x.number < length d.nets + length e.nets) sorted
each_named d e sorted moved =
    let P : Difference → Type 0 = λ x. x.number < length d.nets + length e.nets in
    All-permutation P (all_found d e) sorted moved (All-from_recursion P (all_found d e) (all_below d e))

beyond_early : (d e : Netlist) (name : List ℕ) (t : ℕ) → moment_beyond d name ≡ Some t → t < suc (min d.horizon e.horizon)
beyond_early d e name t is =
    elim (has_net d name) as (λ b. has_net d name ≡ b → t < suc (min d.horizon e.horizon)) [
      | true ↦ λ h. absurd (let at = rw h at is in cc)
      | false ↦ λ h. let zero : 0 ≡ t = (let at = rw h at is in cc) in omega arith
    ] refl

all_early : (d e : Netlist) (sorted : List Difference) → IsPermutation (all_found d e) sorted → AllByRecursion (λ x. x.moment < suc (min d.horizon e.horizon)) sorted
all_early d e sorted moved =
    let end = suc (min d.horizon e.horizon) in
    let P : Difference → Type 0 = λ x. x.moment < end in
    let found : AllByRecursion P (all_found d e) = join_each P (differences_in (first_moment d e) 0 (names_in d)) (differences_in (moment_beyond d) (length d.nets) (names_in e))
    (early (first_moment d e) end 0 (names_in d) (moment_within d e)) (early (moment_beyond d) end (length d.nets) (names_in e) (beyond_early d e)) in
    recursion_from_All P sorted (All-permutation P (all_found d e) sorted moved (All-from_recursion P (all_found d e) found))

-- Names.

own_stand : (d e : Netlist) → StandAt (all_names d e) 0 (names_in d)
own_stand d e k lt = let at : 0 + k ≡ k = omega arith in subst (λ (n : ℕ). slice_index_or (all_names d e) n [] ≡ slice_index_or (names_in d) k []) (sym at) (get_or-append (names_in d) (names_in e) [] k lt)

beyond_stand : (d e : Netlist) → StandAt (all_names d e) (length d.nets) (names_in e)
beyond_stand d e k lt = subst (λ (n : ℕ). slice_index_or (all_names d e) (n + k) [] ≡ slice_index_or (names_in e) k []) (as_many d) (get_or-append-add (names_in d) (names_in e) k [])

-- Nets that only the other design has.

abbrev IsNew : Netlist → Netlist → NetEntry → Type 0
IsNew d e n = has_net d n.name ≡ false → first_moment d e n.name ≡ Some 0

each_new : (d e : Netlist) → AllByRecursion (IsNew d e) e.nets
each_new d e =
    each_got (IsNew d e) e.nets
    (λ i n at absent.
    let there = some_found (λ m. same_name m.name n.name) e.nets i n at (name_itself n.name) in
    let none = none_found (λ m. same_name m.name n.name) d.nets absent in
    only_second d e n.name there.0 none there.1)

new_names : (d e : Netlist) (t : ℕ) (nets : List NetEntry) → AllByRecursion (IsNew d e) nets
    → filter (λ name. is_moment t (moment_beyond d name)) (map (λ n. n.name) nets) ≡ filter (λ name. is_moment t (first_moment d e name)) (map (λ n. n.name) (filter (λ n. not (has_net d n.name)) nets))
new_names d e t [] each = refl
new_names d e t (n ∷ nets) each =
    let rest = new_names d e t nets each.1 in
    elim (has_net d n.name) as (λ b. has_net d n.name ≡ b → filter (λ name. is_moment t (moment_beyond d name)) (map (λ n. n.name) (n ∷ nets))
    ≡ filter (λ name. is_moment t (first_moment d e name)) (map (λ n. n.name) (filter (λ n. not (has_net d n.name)) (n ∷ nets)))) [
      | true ↦ λ h. rw h rest
      | false ↦ λ h. let first = each.0 h in rw (h, first, rest) refl
    ] refl

-- Lines.

lines_from : (d e : Netlist) (t : ℕ) → found_lines (all_names d e) t (all_found d e) ≡ flat_map (λ name. difference_line name t) (names_from d e t)
lines_from d e t =
    let line : List ℕ → List ℕ = λ name. difference_line name t in
    let test : List ℕ → Bool = λ name. is_moment t (first_moment d e name) in
    let own = lines_found (all_names d e) t (first_moment d e) 0 (names_in d) (own_stand d e) in
    let beyond = lines_found (all_names d e) t (moment_beyond d) (length d.nets) (names_in e) (beyond_stand d e) in
    let new : flat_map line (filter (λ name. is_moment t (moment_beyond d name)) (names_in e)) ≡ flat_map line (filter test (map (λ n. n.name) (filter (λ n. not (has_net d n.name)) e.nets)))
    = ap (flat_map line) (new_names d e t e.nets (each_new d e)) in
    found_lines-append (all_names d e) t (differences_in (first_moment d e) 0 (names_in d)) (differences_in (moment_beyond d) (length d.nets) (names_in e))
    ∙ rw (own, beyond, new) refl
    ∙ sym (ap (flat_map line) (filter-append test (names_in d) (map (λ n. n.name) (filter (λ n. not (has_net d n.name)) e.nets)))
    ∙ flat_map-append line (filter test (names_in d)) (filter test (map (λ n. n.name) (filter (λ n. not (has_net d n.name)) e.nets))))

flat_map_twice : (f : ℕ → List Difference) (g : Difference → List ℕ) (ts : List ℕ) → flat_map g (flat_map f ts) ≡ flat_map (λ t. flat_map g (f t)) ts
flat_map_twice f g [] = refl
flat_map_twice f g (t ∷ ts) = flat_map-append g (f t) (flat_map f ts) ∙ ap (λ ws. flat_map g (f t) ++ ws) (flat_map_twice f g ts)

flat_map_agree : (f g : ℕ → List ℕ) (ts : List ℕ) → ((t : ℕ) → f t ≡ g t) → flat_map f ts ≡ flat_map g ts
flat_map_agree f g [] same = refl
flat_map_agree f g (t ∷ ts) same = rw (same t, flat_map_agree f g ts same) refl

-- the lines of the differences in order are those of the definition
pub lines_are : (d e : Netlist) (sorted : List Difference) → AllPairs GoesFirst sorted → IsPermutation (all_found d e) sorted → flat_map (line_of (all_names d e)) sorted ≡ difference_lines d e
unfolding difference_lines
lines_are d e sorted order moved =
    let line = line_of (all_names d e) in
    ap (flat_map line) (in_order_is sorted (all_found d e) (suc (min d.horizon e.horizon)) order moved (all_numbered d e) (all_early d e sorted moved))
    ∙ flat_map_twice (λ t. filter (is_at t) (all_found d e)) line (common_moments d e)
    ∙ flat_map_agree (λ t. found_lines (all_names d e) t (all_found d e)) (λ t. flat_map (λ name. difference_line name t) (names_from d e t)) (common_moments d e) (lines_from d e)
