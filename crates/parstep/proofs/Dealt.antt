-- A floor whose pieces are dealt in order and then answered in order.
use Rattle.std.proofs.Common.{◌≡◌, ◌<◌, ◌≤◌, ◌+◌, ◌-◌, ◌*◌, ◌++◌, ◌∙◌, ℕ, zero, suc, true, false, Some, None, List, [], ◌∷◌, length, set, replicate, slice_get, slice_range, refl, ap, sym, nat_lt, arith}
use Rattle.std.proofs.lemmas.Grind.{common_steps}
use Rattle.std.proofs.lemmas.List.{length-append, append_assoc}
use Rattle.std.proofs.Math.Nat.{div-mul-le_self, le-div_iff_mul-le, suc-mul}
use Rattle.std.proofs.Math.Numerals.{suc-eq-add-one}
use Rattle.std.specs.Option.{unwrap_or, option_map}
use Rattle.floor.proofs.Cuts.{first_rises, first_within}
use Rattle.floor.specs.declared.piece.Piece.{Piece}
use Rattle.gatestep.specs.Step.{State}
use Rattle.parstep.specs.kept.Dealt.{dealing, answered}
use Rattle.floor.specs.kept.Pieces.{PieceState, Waiting, Out, Answered, Failed, Deal, first_task, part, first_waiting, all_answered, after, next_piece}

pub first_of_dealing : (k m : ℕ) → first_waiting (replicate k Out ++ replicate m Waiting) ≡ k
first_of_dealing zero zero = refl
first_of_dealing zero (suc m) = refl
first_of_dealing (suc k) m = ap suc (first_of_dealing k m)

pub set_dealing : (k m : ℕ) → set (replicate k Out ++ replicate (suc m) Waiting) k Out ≡ replicate (suc k) Out ++ replicate m Waiting
set_dealing zero m = refl
set_dealing (suc k) m = ap (λ it. Out ∷ it) (set_dealing k m)

pub length_dealing : (k m : ℕ) → length (replicate k Out ++ replicate m Waiting) ≡ k + m
length_dealing k m = grind (arith, common_steps)

pub length_answered : (n p : ℕ) (all : List State) (k : ℕ) → length (answered n p all k) ≡ k
length_answered n p all zero = refl
length_answered n p all (suc k) = length-append (answered n p all k) (Answered (part n p k all) ∷ []) ∙ ap (λ it. it + 1) (length_answered n p all k) ∙ omega arith

get_seam : (xs : List PieceState) (x : PieceState) (ys : List PieceState) → slice_get (xs ++ x ∷ ys) (length xs) ≡ Some x
get_seam [] x ys = refl
get_seam (y ∷ xs) x ys = get_seam xs x ys

set_seam : (xs : List PieceState) (x y : PieceState) (ys : List PieceState) → set (xs ++ x ∷ ys) (length xs) y ≡ xs ++ y ∷ ys
set_seam [] x y ys = refl
set_seam (z ∷ xs) x y ys = ap (λ it. z ∷ it) (set_seam xs x y ys)

-- the next piece is out
pub next_out : (n p : ℕ) (all : List State) (k m : ℕ) → slice_get (answered n p all k ++ replicate (suc m) Out) k ≡ Some Out
next_out n p all k m =
    ap (slice_get (answered n p all k ++ replicate (suc m) Out)) (sym (length_answered n p all k)) ∙ get_seam (answered n p all k) Out (replicate m Out)

-- and becomes answered
pub next_answered : (n p : ℕ) (all : List State) (k m : ℕ) →
    set (answered n p all k ++ replicate (suc m) Out) k (Answered (part n p k all)) ≡ answered n p all (suc k) ++ replicate m Out
next_answered n p all k m =
    ap (λ it. set (answered n p all k ++ replicate (suc m) Out) it (Answered (part n p k all))) (sym (length_answered n p all k))
    ∙ set_seam (answered n p all k) Out (Answered (part n p k all)) (replicate m Out)
    ∙ sym (append_assoc (answered n p all k) (Answered (part n p k all) ∷ []) (replicate m Out))

all_more : (xs : List PieceState) (list : List State) → all_answered xs ≡ true → all_answered (xs ++ Answered list ∷ []) ≡ true
all_more [] list all = refl
all_more (Answered x ∷ xs) list all = all_more xs list all
all_more (Waiting ∷ xs) list all = grind (arith, common_steps)
all_more (Out ∷ xs) list all = grind (arith, common_steps)
all_more (Failed ∷ xs) list all = grind (arith, common_steps)

pub all_are : (n p : ℕ) (all : List State) (k : ℕ) → all_answered (answered n p all k) ≡ true
all_are n p all zero = refl
all_are n p all (suc k) = all_more (answered n p all k) (part n p k all) (all_are n p all k)

-- the next piece is dealt
pub deal_next : (n k m : ℕ) → after (dealing n k (suc m)) Deal ≡ dealing n (suc k) m
deal_next n k m =
    ap (λ it. record { tasks = n; pieces = set (replicate k Out ++ replicate (suc m) Waiting) it Out; given = false }) (first_of_dealing k (suc m))
    ∙ ap (λ it. record { tasks = n; pieces = it; given = false }) (set_dealing k m)

-- the piece that is dealt
pub piece_next : (n k m p : ℕ) → k + suc m ≡ p → next_piece (dealing n k (suc m)) ≡ Some (record { number = k; first = first_task n p k; end = first_task n p (k + 1) })
piece_next n k m p count =
    let long : length (replicate k Out ++ replicate (suc m) Waiting) ≡ p = length_dealing k (suc m) ∙ count in
    let yes : nat_lt k p ≡ true = grind (arith, common_steps) in
    rw (first_of_dealing k (suc m), long, yes) refl

-- the same, by how many pieces there are
pub deal_at : (n k p : ℕ) → k < p → after (dealing n k (p - k)) Deal ≡ dealing n (k + 1) (p - (k + 1))
deal_at n k p below =
    let some : p - k ≡ suc (p - (k + 1)) = omega arith in
    let more : suc k ≡ k + 1 = omega arith in
    ap (λ m. after (dealing n k m) Deal) some ∙ deal_next n k (p - (k + 1)) ∙ ap (λ it. dealing n it (p - (k + 1))) more

pub dealt_at : (n k p : ℕ) → k < p → next_piece (dealing n k (p - k)) ≡ Some (record { number = k; first = first_task n p k; end = first_task n p (k + 1) })
dealt_at n k p below =
    let some : p - k ≡ suc (p - (k + 1)) = omega arith in
    ap (λ m. next_piece (dealing n k m)) some ∙ piece_next n k (p - (k + 1)) p (omega arith)

-- its tasks stand among all tasks
pub bounds_at : (n k p : ℕ) → k < p → (piece : Piece) → next_piece (dealing n k (p - k)) ≡ Some piece → (piece.first ≤ piece.end) × (piece.end ≤ n)
bounds_at n k p below piece is =
    let first : piece.first ≡ first_task n p k = ap (λ it. unwrap_or (option_map (λ x. x.first) it) 0) (sym is ∙ dealt_at n k p below) in
    let end : piece.end ≡ first_task n p (k + 1) = ap (λ it. unwrap_or (option_map (λ x. x.end) it) 0) (sym is ∙ dealt_at n k p below) in
    (rw (first, end) (first_rises n p k (k + 1) (omega arith)), rw end (first_within n p (k + 1) (omega arith) (omega arith)))

-- where there are as many tasks as pieces, each piece has a task
first_apart : (n p k : ℕ) → 0 < p → p ≤ n → first_task n p k < first_task n p (k + 1)
first_apart n p k some many =
    let below : first_task n p k * p ≤ k * n = div-mul-le_self (k * n) p in
    let tasks : (k + 1) * n ≡ k * n + n = ap (λ it. it * n) (sym (suc-eq-add-one k)) ∙ suc-mul k n in
    let pieces : (first_task n p k + 1) * p ≡ first_task n p k * p + p = ap (λ it. it * p) (sym (suc-eq-add-one (first_task n p k))) ∙ suc-mul (first_task n p k) p in
    let next : first_task n p k + 1 ≤ first_task n p (k + 1) = (le-div_iff_mul-le {k = p} some).1 (omega (arith, below, tasks, pieces)) in
    omega arith

pub apart_at : (n k p : ℕ) → k < p → p ≤ n → (piece : Piece) → next_piece (dealing n k (p - k)) ≡ Some piece → piece.first < piece.end
apart_at n k p below many piece is =
    let first : piece.first ≡ first_task n p k = ap (λ it. unwrap_or (option_map (λ x. x.first) it) 0) (sym is ∙ dealt_at n k p below) in
    let end : piece.end ≡ first_task n p (k + 1) = ap (λ it. unwrap_or (option_map (λ x. x.end) it) 0) (sym is ∙ dealt_at n k p below) in
    rw (first, end) (first_apart n p k (omega arith) many)

pub length_range : {A : Type 0} → (xs : List A) (a b : ℕ) → a ≤ b → b ≤ length xs → length (slice_range xs a b) ≡ b - a
length_range xs a b le within = grind (arith, common_steps)

-- there is one
pub some_at : (n k p : ℕ) → k < p → next_piece (dealing n k (p - k)) ≡ None → ⊥
some_at n k p below none = let some = sym none ∙ dealt_at n k p below in grind (arith, common_steps)
