-- Beginnings of one list of commits.
use Rattle.std.proofs.Common.{◌≡◌, ◌<◌, ◌≤◌, ◌+◌, ◌++◌, ◌∷◌, [], Bool, true, false, ℕ, List, length, take, drop, refl, sym, ap, ◌∙◌, arith, append_assoc, length-append}
use Rattle.std.specs.Prelude.{MatchBool, nat_le}
use Rattle.std.proofs.Math.Seq.{take-append_seam}
use Rattle.std.proofs.lemmas.Bool.Decides.{nat_tests}
use Rattle.std.proofs.lemmas.List.{append-nil, take-append-drop, take-take}
use Rattle.hubcore.specs.Lists.{EntryRecord, StartsWith}
use Rattle.hub.specs.Desks.{GoesOn}
use Rattle.hub.specs.kept.Desks.{AreToldWithin}
use Rattle.hub.specs.kept.Issues.{IssueRecord, last_of}

pub starts_same : (log : List EntryRecord) → StartsWith log log
starts_same log = ([], sym (append-nil log))

pub starts_on : (log middle front : List EntryRecord) → StartsWith log middle → StartsWith middle front → StartsWith log front
starts_on log middle front far near = (near.0 ++ far.0, far.1 ∙ ap (λ l. l ++ far.0) near.1 ∙ append_assoc front near.0 far.0)

-- a beginning is as many from the front
taken : (log front : List EntryRecord) → StartsWith log front → take (length front) log ≡ front
taken log front begins = ap (take (length front)) begins.1 ∙ take-append_seam front begins.0

-- of two beginnings of one list the longer begins with the shorter
pub shorter_begins : (all one other : List EntryRecord) → StartsWith all one → StartsWith all other → length one ≤ length other → StartsWith other one
shorter_begins all one other p q le =
    let n = length one in
    let front : take n other ≡ one = ap (take n) (sym (taken all other q)) ∙ take-take n (length other) all le ∙ taken all one p in
    (drop n other, sym (take-append-drop n other) ∙ ap (λ l. l ++ drop n other) front)

-- a beginning as long as the list is the list
pub as_long : (log front : List EntryRecord) → StartsWith log front → length log ≤ length front → front ≡ log
as_long log front begins le = by_rest begins.0 begins.1
  where
    by_rest : (rest : List EntryRecord) → log ≡ front ++ rest → front ≡ log
    by_rest [] is = sym (is ∙ append-nil front)
    by_rest (e ∷ rest) is =
        let n : length log ≡ length front + length (e ∷ rest) = ap length is ∙ length-append front (e ∷ rest) in
        absurd (omega (arith, n, le))

-- lengths decide which of two beginnings of one list begins with the other
pub reaches : (all one other : List EntryRecord) (m n : ℕ) → m ≡ length other → n ≡ length one → StartsWith all one → StartsWith all other →
    (b : Bool) → nat_le m n ≡ b → MatchBool b (StartsWith one other) (StartsWith other one × (length one < length other))
reaches all one other m n e f p q true is = let le : m ≤ n = grind (arith, nat_tests) in shorter_begins all other one q p (omega (arith, e, f, le))
reaches all one other m n e f p q false is =
    let lt : n < m = grind (arith, nat_tests) in
    (shorter_begins all one other p q (omega (arith, e, f, lt)), omega (arith, e, f, lt))

-- of two beginnings of one list the one that is no shorter begins with the other
pub as_reached : (one other : List EntryRecord) (b : Bool) → MatchBool b (StartsWith one other) (StartsWith other one × (length one < length other)) →
    length other ≤ length one → StartsWith one other
as_reached one other true begins le = begins
as_reached one other false begins le = absurd (omega (arith, begins.1, le))

-- a list is no shorter than its beginning, so what was told within that is told within it
pub told_within : (shown front : List EntryRecord) (first second : ℕ) → StartsWith shown front → AreToldWithin front first second →
    AreToldWithin shown first second
told_within shown front first second begins was =
    let n : length shown ≡ length front + length begins.0 = ap length begins.1 ∙ length-append front begins.0 in
    record { first_is = omega (arith, n, was.first_is); second_is = omega (arith, n, was.second_is) }

-- what a receipt tells now goes on from what one told that was published then
pub goes_on : (log before was shown : List EntryRecord) → StartsWith log before → StartsWith was before → StartsWith shown was → GoesOn log before shown
goes_on log before was shown found front grows = record { found = found; begins = starts_on shown was before grows front }

pub last_of_push : (first last : IssueRecord) (issues : List IssueRecord) → last_of first (issues ++ last ∷ []) ≡ last
last_of_push first last [] = refl
last_of_push first last (next ∷ issues) = last_of_push next last issues
