-- Beginnings of lists of commits.
use Rattle.std.proofs.Common.{◌≡◌, ◌<◌, ◌≤◌, ◌++◌, [], Bool, true, false, ℕ, List, length, take, drop, refl, sym, ap, ◌∙◌, arith, append_assoc, if◌then◌else◌}
use Rattle.std.specs.Prelude.{max, nat_le}
use Rattle.std.proofs.Math.Seq.{take-append_seam}
use Rattle.std.proofs.lemmas.Bool.Decides.{nat_tests}
use Rattle.std.proofs.lemmas.List.{append-nil, take-append-drop, take-take}
use Rattle.hubcore.specs.Lists.{EntryRecord, StartsWith, longer}

pub starts_same : (xs : List EntryRecord) → StartsWith xs xs
starts_same xs = ([], sym (append-nil xs))

pub starts_take : (xs : List EntryRecord) (n : ℕ) → StartsWith xs (take n xs)
starts_take xs n = (drop n xs, sym (take-append-drop n xs))

pub starts_on : (xs ys zs : List EntryRecord) → StartsWith xs ys → StartsWith ys zs → StartsWith xs zs
starts_on xs ys zs far near = (near.0 ++ far.0, far.1 ∙ ap (λ l. l ++ far.0) near.1 ∙ append_assoc zs near.0 far.0)

pub starts_more : (xs ys more : List EntryRecord) → StartsWith xs ys → StartsWith (xs ++ more) ys
starts_more xs ys more begins = starts_on (xs ++ more) xs ys (more, refl) begins

-- a beginning is as many from the front
taken_front : (xs front : List EntryRecord) → StartsWith xs front → take (length front) xs ≡ front
taken_front xs front begins = ap (take (length front)) begins.1 ∙ take-append_seam front begins.0

-- of two beginnings of one list the longer begins with the shorter
shorter_begins : (all one other : List EntryRecord) → StartsWith all one → StartsWith all other → length one ≤ length other → StartsWith other one
shorter_begins all one other p q le =
    let n = length one in
    let front : take n other ≡ one = ap (take n) (sym (taken_front all other q)) ∙ take-take n (length other) all le ∙ taken_front all one p in
    (drop n other, sym (take-append-drop n other) ∙ ap (λ l. l ++ drop n other) front)

has_both : (all one other : List EntryRecord) → StartsWith all one → StartsWith all other → (b : Bool) → nat_le (length other) (length one) ≡ b →
    StartsWith (if b then one else other) one × StartsWith (if b then one else other) other
has_both all one other p q true is =
    let le : length other ≤ length one = grind (arith, nat_tests) in
    (starts_same one, shorter_begins all other one q p le)
has_both all one other p q false is =
    let lt : length one < length other = grind (arith, nat_tests) in
    (shorter_begins all one other p q (omega (arith, lt)), starts_same other)

-- the longer of two beginnings of one list begins with both
pub longer_has_both : (all one other : List EntryRecord) → StartsWith all one → StartsWith all other →
    StartsWith (longer one other) one × StartsWith (longer one other) other
longer_has_both all one other p q = has_both all one other p q (nat_le (length other) (length one)) refl

either_begins : (all one other : List EntryRecord) → StartsWith all one → StartsWith all other → (b : Bool) → StartsWith all (if b then one else other)
either_begins all one other p q true = p
either_begins all one other p q false = q

pub longer_begins : (all one other : List EntryRecord) → StartsWith all one → StartsWith all other → StartsWith all (longer one other)
longer_begins all one other p q = either_begins all one other p q (nat_le (length other) (length one))

length_of_either : (one other : List EntryRecord) → (b : Bool) → nat_le (length other) (length one) ≡ b →
    length (if b then one else other) ≡ max (length one) (length other)
length_of_either one other true is = let le : length other ≤ length one = grind (arith, nat_tests) in omega (arith, le)
length_of_either one other false is = let lt : length one < length other = grind (arith, nat_tests) in omega (arith, lt)

pub length_of_longer : (one other : List EntryRecord) → length (longer one other) ≡ max (length one) (length other)
length_of_longer one other = length_of_either one other (nat_le (length other) (length one)) refl
