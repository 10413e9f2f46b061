-- Beginnings and parts of lists.
use Rattle.std.proofs.Common.{◌≡◌, ◌+◌, ◌<◌, ℕ, zero, suc, List, [], ◌∷◌, ◌++◌, ◌∙◌, Result, Ok, Err, length, get_or, ap, sym, subst, take, append_assoc, append-nil, arith}
use Rattle.std.specs.List.{AllZip, flat_map}
use Rattle.std.specs.Result.{OnOk, OnErr}
use Rattle.std.specs.List.Sorted.{IsPermutation}
use Rattle.std.proofs.Math.Seq.{take-suc}
use Rattle.std.proofs.lemmas.List.Sorted.{IsPermutation-refl, IsPermutation-append_left, IsPermutation-append_right, IsPermutation-append_comm, IsPermutation-append, IsPermutation-trans}
use Rattle.gatestep.specs.Jobs.{IsBeginning, IsPart}

-- what holds in any case holds on an error
pub on_err : {T E P : Type 0} (r : Result T E) → P → OnErr r P
on_err (Ok x) p = tt
on_err (Err e) p = p

-- equal lists are permutations of each other
permutes_equal : {A : Type 0} (xs ys : List A) → xs ≡ ys → IsPermutation xs ys
permutes_equal xs ys same = subst (λ it. IsPermutation xs it) same (IsPermutation-refl xs)

-- a beginning is a part
pub beginning_is_part : {A : Type 0} (piece whole : List A) → IsBeginning piece whole → IsPart piece whole
beginning_is_part piece whole is = (is.0, permutes_equal whole (piece ++ is.0) is.1)

-- a list is a part of itself
pub whole_is_part : {A : Type 0} (xs : List A) → IsPart xs xs
whole_is_part xs = beginning_is_part xs xs ([], sym (append-nil xs))

-- what was asked of a job is a part of what it asks
pub part_by : {T E A : Type 0} (output : Result T E) (asked work : List A) → OnOk output (asked ≡ work) → OnErr output (IsBeginning asked work) → IsPart asked work
part_by (Ok x) asked work whole piece = subst (λ it. IsPart asked it) whole (whole_is_part asked)
part_by (Err e) asked work whole piece = beginning_is_part asked work piece

-- two lists in the midst of four change places
middle_swapped : {A : Type 0} (a b c d : List A) → IsPermutation ((a ++ b) ++ (c ++ d)) ((a ++ c) ++ (b ++ d))
middle_swapped a b c d =
    let before : (a ++ b) ++ (c ++ d) ≡ a ++ ((b ++ c) ++ d) = append_assoc a b (c ++ d) ∙ ap (λ it. a ++ it) (sym (append_assoc b c d)) in
    let after : (a ++ c) ++ (b ++ d) ≡ a ++ ((c ++ b) ++ d) = append_assoc a c (b ++ d) ∙ ap (λ it. a ++ it) (sym (append_assoc c b d)) in
    let swapped : IsPermutation (a ++ ((b ++ c) ++ d)) (a ++ ((c ++ b) ++ d)) =
    IsPermutation-append_right a ((b ++ c) ++ d) ((c ++ b) ++ d) (IsPermutation-append_left d (b ++ c) (c ++ b) (IsPermutation-append_comm b c)) in
    subst (λ it. IsPermutation it ((a ++ c) ++ (b ++ d))) (sym before) (subst (λ it. IsPermutation (a ++ ((b ++ c) ++ d)) it) (sym after) swapped)

-- parts of two lists, one after the other, are a part of the two lists, one after the other
pub parts_append : {A : Type 0} (part whole next all : List A) → IsPart part whole → IsPart next all → IsPart (part ++ next) (whole ++ all)
parts_append part whole next all is was = (
  is.0 ++ was.0,
  IsPermutation-trans (whole ++ all) ((part ++ is.0) ++ (next ++ was.0)) ((part ++ next) ++ (is.0 ++ was.0))
      (IsPermutation-append whole (part ++ is.0) all (next ++ was.0) is.1 was.1)
      (middle_swapped part is.0 next was.0),
)

-- what holds at each place of two lists that are as long as each other
pub zip_from_each : {A B : Type 0} (R : A → B → Type 0) (xs : List A) (ys : List B) → length ys ≡ length xs
    → ((i : ℕ) (d : A) (e : B) → i < length xs → R (get_or xs i d) (get_or ys i e)) → AllZip R xs ys
zip_from_each R [] [] long each = tt
zip_from_each R [] (y ∷ ys) long each = absurd (omega arith)
zip_from_each R (x ∷ xs) [] long each = absurd (omega arith)
zip_from_each R (x ∷ xs) (y ∷ ys) long each = (each 0 x y (omega arith), zip_from_each R xs ys (omega arith) (λ i d e below. each (suc i) d e (omega arith)))

-- one more pair
pub zip_push : {A B : Type 0} (R : A → B → Type 0) (xs : List A) (ys : List B) (x : A) (y : B) → AllZip R xs ys → R x y → AllZip R (xs ++ x ∷ []) (ys ++ y ∷ [])
zip_push R [] [] x y all here = (here, tt)
zip_push R [] (b ∷ ys) x y all here = absurd all
zip_push R (a ∷ xs) [] x y all here = absurd all
zip_push R (a ∷ xs) (b ∷ ys) x y all here = (all.0, zip_push R xs ys x y all.1 here)

-- nothing is a part of any list
pub none_is_part : {A : Type 0} (xs : List A) → IsPart [] xs
none_is_part xs = (xs, IsPermutation-refl xs)

-- a part of a list is one of the same list in another order
pub part_moved : {A : Type 0} (work whole piece : List A) → IsPermutation work whole → IsPart piece whole → IsPart piece work
part_moved work whole piece same part = (part.0, IsPermutation-trans work whole (piece ++ part.0) same part.1)

-- what the jobs before one ask, and a part of what this one asks, are a part of what all ask
pub jobs_part : {J A : Type 0} (work : J → List A) (jobs : List J) (i : ℕ) (d : J) (asked : List A) → i < length jobs → IsPart asked (work (get_or jobs i d))
    → IsPart (flat_map work (take i jobs) ++ asked) (flat_map work jobs)
jobs_part work [] i d asked there part = absurd (omega arith)
jobs_part work (job ∷ jobs) zero d asked there part =
    subst (λ it. IsPart it (flat_map work (job ∷ jobs))) (append-nil asked)
    (parts_append asked (work job) [] (flat_map work jobs) part (none_is_part (flat_map work jobs)))
jobs_part work (job ∷ jobs) (suc i) d asked there part =
    subst (λ it. IsPart it (flat_map work (job ∷ jobs))) (sym (append_assoc (work job) (flat_map work (take i jobs)) asked))
    (parts_append (work job) (work job) (flat_map work (take i jobs) ++ asked) (flat_map work jobs) (whole_is_part (work job))
    (jobs_part work jobs i d asked (omega arith) part))

-- one more job
flat_next : {J A : Type 0} (work : J → List A) (jobs : List J) (i : ℕ) (job : J) → i < length jobs → job ≡ get_or jobs i job
    → flat_map work (take (suc i) jobs) ≡ flat_map work (take i jobs) ++ work job
flat_next work [] i job there is = absurd (omega arith)
flat_next work (first ∷ jobs) zero job there is = ap (λ it. work it ++ []) (sym is) ∙ append-nil (work job)
flat_next work (first ∷ jobs) (suc i) job there is =
    ap (λ it. work first ++ it) (flat_next work jobs i job (omega arith) is) ∙ sym (append_assoc (work first) (flat_map work (take i jobs)) (work job))

pub flat_more : {J A : Type 0} (work : J → List A) (jobs : List J) (i : ℕ) (job : J) → i < length jobs → job ≡ get_or jobs i job
    → flat_map work (take (i + 1) jobs) ≡ flat_map work (take i jobs) ++ work job
flat_more work jobs i job there is =
    let on : i + 1 ≡ suc i = omega arith in ap (λ n. flat_map work (take n jobs)) on ∙ flat_next work jobs i job there is

pub zip_more : {J O : Type 0} (R : J → O → Type 0) (jobs : List J) (i : ℕ) (job : J) (outputs : List O) (output : O) → i < length jobs → job ≡ get_or jobs i job
    → AllZip R (take i jobs) outputs → R job output → AllZip R (take (i + 1) jobs) (outputs ++ output ∷ [])
zip_more R jobs i job outputs output there is all here =
    let on : i + 1 ≡ suc i = omega arith in
    let grown : take (i + 1) jobs ≡ take i jobs ++ job ∷ [] = ap (λ n. take n jobs) on ∙ take-suc jobs i job there ∙ ap (λ it. take i jobs ++ it ∷ []) (sym is) in
    subst (λ it. AllZip R it (outputs ++ output ∷ [])) (sym grown) (zip_push R (take i jobs) outputs job output all here)
