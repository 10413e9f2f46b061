-- Where lists are cut into pieces.
use Rattle.std.proofs.Common.{◌≡◌, ◌<◌, ◌≤◌, ◌+◌, ◌-◌, ◌*◌, ◌++◌, ℕ, zero, suc, List, length, take, drop, refl, ap, ◌∙◌, sym, arith}
use Rattle.std.specs.List.{slice_range}
use Rattle.std.proofs.lemmas.Grind.{common_steps}
use Rattle.std.proofs.Math.Nat.{div-mul-le_self, le-div_iff_mul-le, mul-div_right, mul-le-mul_right}
use Rattle.std.proofs.Math.Seq.{drop-append_seam, take-append_seam}
use Rattle.std.proofs.lemmas.List.{take-take, length-drop, length-append, append_assoc, drop-append-le, take-append-le, drop-take}
use Rattle.std.proofs.lemmas.Slice.{drop-append-drop}
use Rattle.floor.specs.kept.Pieces.{first_task}

-- the cuts rise
pub first_rises : (n p j k : ℕ) → j ≤ k → first_task n p j ≤ first_task n p k
first_rises n zero j k le = omega arith
first_rises n (suc p) j k le =
    let scaled : j * n ≤ k * n = mul-le-mul_right n le in
    (le-div_iff_mul-le {k = suc p} (omega arith)).1 (omega (arith, div-mul-le_self (j * n) (suc p)))

-- behind the last piece is the end
pub first_ends : (n p : ℕ) → 0 < p → first_task n p p ≡ n
first_ends n p some = mul-div_right n some

-- no piece begins behind the end
pub first_within : (n p k : ℕ) → 0 < p → k ≤ p → first_task n p k ≤ n
first_within n p k some le = let most = first_rises n p k p le in let end = first_ends n p some in omega arith

-- where a list is written between two cuts, what lies before is as it was
pub part_before : {A : Type 0} → (xs ds : List A) (a b c d : ℕ) → c ≤ d → d ≤ a → a ≤ b → b ≤ length xs →
    slice_range (take a xs ++ (ds ++ drop b xs)) c d ≡ slice_range xs c d
part_before xs ds a b c d cd da ab within =
    let front : length (take a xs) ≡ a = grind (arith, common_steps) in
    let near : drop c (take a xs ++ (ds ++ drop b xs)) ≡ drop c (take a xs) ++ (ds ++ drop b xs) = drop-append-le c (take a xs) (ds ++ drop b xs) (omega arith) in
    let long : length (drop c (take a xs)) ≡ a - c = rw (length-drop c (take a xs), front) refl in
    let less : take (d - c) (drop c (take a xs) ++ (ds ++ drop b xs)) ≡ take (d - c) (drop c (take a xs)) = take-append-le (d - c) (drop c (take a xs)) (ds ++ drop b xs) (omega arith) in
    let whole : c + (a - c) ≡ a = omega arith in
    let cut : drop c (take a xs) ≡ take (a - c) (drop c xs) = ap (λ m. drop c (take m xs)) (sym whole) ∙ drop-take c (a - c) xs in
    ap (take (d - c)) near ∙ less ∙ ap (take (d - c)) cut ∙ take-take (d - c) (a - c) (drop c xs) (omega arith)

-- and what lies behind
pub part_behind : {A : Type 0} → (xs ds : List A) (a b c d : ℕ) → a ≤ b → b ≤ c → b ≤ length xs → length ds ≡ b - a →
    slice_range (take a xs ++ (ds ++ drop b xs)) c d ≡ slice_range xs c d
part_behind xs ds a b c d ab bc within long =
    let front : length (take a xs) ≡ a = grind (arith, common_steps) in
    let all : length (take a xs ++ ds) ≡ b = rw (length-append (take a xs) ds) (omega arith) in
    ap (λ it. take (d - c) (drop c it)) (sym (append_assoc (take a xs) ds (drop b xs))) ∙ ap (take (d - c)) (drop-append-drop b xs (take a xs ++ ds) c bc all)

-- and what was written stands there
pub part_written : {A : Type 0} → (xs ds : List A) (a b : ℕ) → a ≤ b → b ≤ length xs → length ds ≡ b - a →
    slice_range (take a xs ++ (ds ++ drop b xs)) a b ≡ ds
part_written xs ds a b ab within long =
    let front : length (take a xs) ≡ a = grind (arith, common_steps) in
    let past : drop a (take a xs ++ (ds ++ drop b xs)) ≡ ds ++ drop b xs =
    ap (λ m. drop m (take a xs ++ (ds ++ drop b xs))) (sym front) ∙ drop-append_seam (take a xs) (ds ++ drop b xs) in
    ap (take (b - a)) past ∙ ap (λ m. take m (ds ++ drop b xs)) (sym long) ∙ take-append_seam ds (drop b xs)

-- all pieces together have all tasks
pub first_all : (n p : ℕ) → (0 < n → 0 < p) → first_task n p p ≡ n
first_all zero zero some = refl
first_all (suc n) zero some = absurd (omega (arith, some (omega arith)))
first_all n (suc p) some = first_ends n (suc p) (omega arith)

-- the first piece begins with the first task
pub first_begins : (n p : ℕ) → first_task n p 0 ≡ 0
first_begins n zero = omega arith
first_begins n (suc p) = omega arith
