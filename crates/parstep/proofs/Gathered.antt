-- The answers of a step, as they are gathered piece by piece.
use Rattle.std.proofs.Common.{◌≡◌, ◌<◌, ◌≤◌, ◌+◌, ◌-◌, ◌++◌, ◌∙◌, ℕ, zero, suc, false, Some, Ok, List, [], ◌∷◌, length, map, take, drop, replicate, refl, ap, sym, All, slice_range, arith}
use Rattle.std.proofs.lemmas.Grind.{common_steps}
use Rattle.std.proofs.lemmas.List.{take-map, drop-map, take-append-drop, drop-take, length-append, append-nil, append_assoc}
use Rattle.std.proofs.Math.Seq.{take-length}
use Rattle.std.proofs.lemmas.List.Elements.{All-append}
use Rattle.floor.proofs.Cuts.{first_rises, first_within, first_ends, first_begins}
use Rattle.floor.proofs.Changes.{answer_fits, after_answer}
use Rattle.floor.specs.kept.Pieces.{PieceState, Out, Answered, Answer, first_task, part, awaited, answer_reply, finished, joined, kept, after}
use Rattle.gatestep.specs.Step.{State, Evaluation}
use Rattle.parstep.proofs.Dealt.{next_out, next_answered, length_answered, all_are, length_range}
use Rattle.parstep.specs.kept.Dealt.{answered, gathering}

-- the answers to a piece are the piece of the answers
pub map_part : (f : Evaluation → State) (tasks : List Evaluation) (a b : ℕ) → map f (slice_range tasks a b) ≡ slice_range (map f tasks) a b
map_part f tasks a b = sym (take-map f (b - a) (drop a tasks)) ∙ ap (take (b - a)) (sym (drop-map f a tasks))

-- a beginning and the piece behind it
pub take_part : (xs : List State) (a b : ℕ) → a ≤ b → take a xs ++ slice_range xs a b ≡ take b xs
take_part xs a b le =
    let whole : a + (b - a) ≡ b = omega arith in
    let short : take a (take b xs) ≡ take a xs = grind (arith, common_steps) in
    ap (λ it. it ++ slice_range xs a b) (sym short)
    ∙ ap (λ it. take a (take b xs) ++ it) (sym (ap (λ m. drop a (take m xs)) (sym whole) ∙ drop-take a (b - a) xs))
    ∙ take-append-drop a (take b xs)

length_out : (m : ℕ) → length (replicate m Out) ≡ m
length_out zero = refl
length_out (suc m) = ap suc (length_out m)

count_at : (n p : ℕ) (all : List State) (k m : ℕ) → length (gathering n p all k m).pieces ≡ k + m
count_at n p all k m = length-append (answered n p all k) (replicate m Out) ∙ ap (λ it. it + length (replicate m Out)) (length_answered n p all k) ∙ ap (λ it. k + it) (length_out m)

-- word of the next piece is taken
pub taken_next : (n p : ℕ) (all : List State) (k m : ℕ) → length all ≡ n → k + suc m ≡ p →
    answer_reply (gathering n p all k (suc m)) k (part n p k all) ≡ Ok tt
taken_next n p all k m whole count =
    let long : length (gathering n p all k (suc m)).pieces ≡ p = count_at n p all k (suc m) ∙ count in
    let ends : first_task n p (k + 1) ≤ n = first_within n p (k + 1) (omega arith) (omega arith) in
    let fits : length (part n p k all) ≡ first_task n p (k + 1) - first_task n p k =
    length_range all (first_task n p k) (first_task n p (k + 1)) (first_rises n p k (k + 1) (omega arith)) (omega arith) in
    answer_fits (gathering n p all k (suc m)) k (part n p k all) (ap awaited (next_out n p all k m))
    (fits ∙ ap (λ q. first_task n q (k + 1) - first_task n q k) (sym long))

-- and the piece is answered
pub answer_next : (n p : ℕ) (all : List State) (k m : ℕ) → length all ≡ n → k + suc m ≡ p →
    after (gathering n p all k (suc m)) (Answer k (part n p k all)) ≡ gathering n p all (suc k) m
answer_next n p all k m whole count =
    after_answer (gathering n p all k (suc m)) k (part n p k all) (taken_next n p all k m whole count)
    ∙ ap (λ it. record { tasks = n; pieces = it; given = false }) (next_answered n p all k m)

-- the same, by how many pieces there are
pub taken_at : (n p : ℕ) (all list : List State) (k : ℕ) → length all ≡ n → k < p → list ≡ part n p k all →
    answer_reply (gathering n p all k (p - k)) k list ≡ Ok tt
taken_at n p all list k whole below is =
    let some : p - k ≡ suc (p - (k + 1)) = omega arith in
    ap (λ m. answer_reply (gathering n p all k m) k list) some ∙ ap (answer_reply (gathering n p all k (suc (p - (k + 1)))) k) is
    ∙ taken_next n p all k (p - (k + 1)) whole (omega arith)

pub answer_at : (n p : ℕ) (all list : List State) (k : ℕ) → length all ≡ n → k < p → list ≡ part n p k all →
    after (gathering n p all k (p - k)) (Answer k list) ≡ gathering n p all (k + 1) (p - (k + 1))
answer_at n p all list k whole below is =
    let some : p - k ≡ suc (p - (k + 1)) = omega arith in
    let more : suc k ≡ k + 1 = omega arith in
    ap (λ m. after (gathering n p all k m) (Answer k list)) some ∙ ap (λ it. after (gathering n p all k (suc (p - (k + 1)))) (Answer k it)) is
    ∙ answer_next n p all k (p - (k + 1)) whole (omega arith) ∙ ap (λ it. gathering n p all it (p - (k + 1))) more

-- what holds of the answers so far and of the next piece holds of both
pub all_more_at : (P : State → Type 0) (n p : ℕ) (all list : List State) (k : ℕ) → list ≡ part n p k all →
    All P (take (first_task n p k) all) → All P list → All P (take (first_task n p (k + 1)) all)
all_more_at P n p all list k is before here =
    let both = All-append P (take (first_task n p k) all) list before here in
    rw (← take_part all (first_task n p k) (first_task n p (k + 1)) (first_rises n p k (k + 1) (omega arith)), ← is) both

joined_more : (xs : List PieceState) (list : List State) → joined (xs ++ Answered list ∷ []) ≡ joined xs ++ list
joined_more [] list = append-nil list
joined_more (piece ∷ xs) list = ap (λ it. kept piece ++ it) (joined_more xs list) ∙ sym (append_assoc (kept piece) (joined xs) list)

-- the pieces so far, joined
pub joined_at : (n p : ℕ) (all : List State) (k : ℕ) → joined (answered n p all k) ≡ take (first_task n p k) all
joined_at n p all zero = rw (first_begins n p) refl
joined_at n p all (suc k) =
    joined_more (answered n p all k) (part n p k all)
    ∙ ap (λ it. it ++ part n p k all) (joined_at n p all k)
    ∙ take_part all (first_task n p k) (first_task n p (k + 1)) (first_rises n p k (k + 1) (omega arith))
    ∙ ap (λ it. take (first_task n p it) all) (omega arith)

-- once each piece is answered, the answers to all tasks are given on
pub finished_at : (n p : ℕ) (all : List State) (m : ℕ) → length all ≡ n → 0 < p → m ≡ 0 → finished (gathering n p all p m) ≡ Some all
finished_at n p all m whole some none =
    let nil : answered n p all p ++ replicate m Out ≡ answered n p all p = ap (λ it. answered n p all p ++ replicate it Out) none ∙ append-nil (answered n p all p) in
    let yes = all_are n p all p in
    let joined_all : joined (answered n p all p) ≡ all =
    joined_at n p all p ∙ ap (λ it. take it all) (first_ends n p some ∙ sym whole) ∙ take-length all in
    rw (nil, yes) (ap Some joined_all)

pub finished_end : (n p : ℕ) (all : List State) (k : ℕ) → length all ≡ n → 0 < p → k ≡ p → finished (gathering n p all k (p - k)) ≡ Some all
finished_end n p all k whole some end =
    ap (λ it. finished (gathering n p all it (p - it))) end ∙ finished_at n p all (p - p) whole some (omega arith)

-- what holds of all pieces holds of all answers
pub all_at : (P : State → Type 0) (n p : ℕ) (all : List State) (k : ℕ) → length all ≡ n → 0 < p → k ≡ p → All P (take (first_task n p k) all) → All P all
all_at P n p all k whole some end here =
    let same : take (first_task n p k) all ≡ all =
    ap (λ it. take (first_task n p it) all) end ∙ ap (λ it. take it all) (first_ends n p some ∙ sym whole) ∙ take-length all in
    rw (← same) here
