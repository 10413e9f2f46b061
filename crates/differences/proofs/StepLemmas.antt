-- Steps of the loops over nets and over differences.
use Rattle.std.proofs.Common.{◌≡◌, ◌<◌, ◌≤◌, ◌+◌, ◌++◌, ℕ, cond, List, [], ◌∷◌, Bool, Option, Some, None, length, slice_get, take, ap, append_assoc, append-nil, arith, sym, subst, ◌∙◌, flat_map}
use Rattle.std.specs.List.{slice_index_or}
use Rattle.std.proofs.lemmas.List.{length-append, length-take, take_more}
use Rattle.std.proofs.lemmas.List.Concat.{flat_map-append}
use Rattle.design.specs.Netlist.{Netlist, has_net}
use Rattle.design.specs.declared.limits.TheConstants.{MAX_NETS}
use Rattle.differences.specs.declared.room.Difference.{Difference}
use Rattle.differences.specs.declared.room.TheConstants.{MOST}
use Rattle.differences.specs.Differences.{difference_line}
use Rattle.differences.specs.kept.Found.{difference_of, differences_in, line_of, moment_beyond, name_at, names_in}
use Rattle.differences.proofs.FoundLemmas.{found_long, found_next}
use Rattle.differences.proofs.NameLemmas.{got_is, named_as, name_at_place, net_there}

-- There is room for one more.

pub room_left_behind : (first : List ℕ → Option ℕ) (number : ℕ) (d : Netlist) (base xs : List Difference) (place : ℕ) → xs ≡ base ++ differences_in first number (take place (names_in d))
    → length base ≤ number → number ≤ MAX_NETS → place < length d.nets → length d.nets ≤ MAX_NETS → length xs < MOST
room_left_behind first number d base xs place is low most within few =
    let long = found_long first number (take place (names_in d)) in
    let taken = length-take place (names_in d) in
    let sum = length-append base (differences_in first number (take place (names_in d))) in
    let all = ap (λ (ws : List Difference). length ws) is in
    omega arith

pub room_left : (first : List ℕ → Option ℕ) (d : Netlist) (xs : List Difference) (place : ℕ) → xs ≡ differences_in first 0 (take place (names_in d)) → place < length d.nets → length d.nets ≤ MAX_NETS → length xs < MOST
room_left first d xs place is within few = room_left_behind first 0 d [] xs place is (omega arith) (omega arith) within few

-- One net more.

name_there : (d : Netlist) (place : ℕ) → place < length d.nets → slice_get (names_in d) place ≡ Some (name_at d place)
name_there d place lt =
    let n = net_there d.nets place lt in
    name_at_place d.nets place n.0 n.1 ∙ ap Some (sym (named_as d place n.0 n.1))

pub next_found : (first : List ℕ → Option ℕ) (number here : ℕ) (d : Netlist) (place : ℕ) (o : Option ℕ) (xs ys base : List Difference) → here ≡ number + place → place < length d.nets → o ≡ first (name_at d place)
    → xs ≡ base ++ differences_in first number (take place (names_in d)) → ys ≡ xs ++ difference_of here o → ys ≡ base ++ differences_in first number (take (place + 1) (names_in d))
next_found first number here d place o xs ys base at within moment before after =
    let old = differences_in first number (take place (names_in d)) in
    let more = found_next first number (names_in d) place (name_at d place) o (name_there d place within) (sym moment) in
    after ∙ ap (λ (ws : List Difference). ws ++ difference_of here o) before ∙ append_assoc base old (difference_of here o)
    ∙ ap (λ (k : ℕ). base ++ (old ++ difference_of k o)) at ∙ ap (λ (ws : List Difference). base ++ ws) (sym more)

pub beyond_moment : (d : Netlist) (b : Bool) (name name' : List ℕ) → b ≡ has_net d name → name ≡ name' → cond b None (Some 0) ≡ moment_beyond d name'
beyond_moment d b name name' is same = ap (λ (r : Bool). cond r None (Some 0)) is ∙ ap (λ (bytes : List ℕ). moment_beyond d bytes) same

-- One line more.

pub one_line_more : (all : List (List ℕ)) (xs ys : List Difference) (i : ℕ) (d : Difference) (name : List ℕ) → ys ≡ xs → i < length ys → slice_get all (slice_index_or ys i d).number ≡ Some name
    → flat_map (line_of all) (take (i + 1) xs) ≡ flat_map (line_of all) (take i xs) ++ difference_line name (slice_index_or ys i d).moment
one_line_more all xs ys i d name same within at =
    let x = slice_index_or ys i d in
    let line : line_of all x ≡ difference_line name x.moment = ap (λ (bytes : List ℕ). difference_line bytes x.moment) (got_is all x.number name at) in
    let more : flat_map (line_of all) (take (i + 1) ys) ≡ flat_map (line_of all) (take i ys) ++ difference_line name x.moment
    = ap (flat_map (line_of all)) (take_more ys i d within) ∙ flat_map-append (line_of all) (take i ys) (x ∷ []) ∙ ap (λ (ws : List ℕ). flat_map (line_of all) (take i ys) ++ ws) (append-nil (line_of all x) ∙ line) in
    subst (λ (ws : List Difference). flat_map (line_of all) (take (i + 1) ws) ≡ flat_map (line_of all) (take i ws) ++ difference_line name x.moment) same more
