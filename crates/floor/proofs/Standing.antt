-- The pieces, as the stages and the answers show them.
use Rattle.std.proofs.Common.{◌≡◌, ◌≢◌, ◌<◌, ◌≤◌, ◌+◌, ◌-◌, ◌++◌, ℕ, zero, suc, true, false, List, [], ◌∷◌, length, map, set, take, drop, replicate, refl, ap, get_or, ◌⊎◌, inl, inr, ◌∙◌, sym, All, arith, slice_get, option_map}
use Rattle.std.proofs.lemmas.Grind.{common_steps}
use Rattle.std.proofs.lemmas.List.Folds.{drop_split}
use Rattle.gatestep.specs.Step.{State}
use Rattle.std.proofs.Math.Seq.{drop-length, drop-nil, take-nil}
use Rattle.std.proofs.lemmas.List.Elements.{All-nil, All-cons, All-tail}
use Rattle.floor.proofs.Cuts.{first_rises, first_within, part_before, part_behind, part_written}
use Rattle.floor.specs.kept.Pieces.{Waiting, Out, Answered, Failed, first_task, part, first_waiting, all_answered, joined, emptied}
use Rattle.floor.specs.kept.Held.{piece_of, pieces_from}
use Rattle.floor.specs.declared.stage.Stage.{Stage}
use Rattle.floor.specs.declared.stage.Stage.TheVariants as stage

-- a piece for each stage
pub count_of_pieces : (n p k : ℕ) (ss : List Stage) (xs : List State) → length (pieces_from n p k ss xs) ≡ length ss
count_of_pieces n p k [] xs = refl
count_of_pieces n p k (s ∷ ss) xs = ap suc (count_of_pieces n p (k + 1) ss xs)

-- at its number, each stands as its stage and its part of the answers show
pub pieces_at : (n p k : ℕ) (ss : List Stage) (xs : List State) (j i : ℕ) → i ≡ k + j →
    slice_get (pieces_from n p k ss xs) j ≡ option_map (λ s. piece_of s (part n p i xs)) (slice_get ss j)
pieces_at n p k [] xs j i at = refl
pieces_at n p k (s ∷ ss) xs zero i at = let same : i ≡ k = omega arith in rw same refl
pieces_at n p k (s ∷ ss) xs (suc j) i at = pieces_at n p (k + 1) ss xs j i (omega arith)

-- all wait
pub all_wait : (n p k m : ℕ) (xs : List State) → pieces_from n p k (replicate m stage.Waiting) xs ≡ replicate m Waiting
all_wait n p k zero xs = refl
all_wait n p k (suc m) xs = ap (λ it. Waiting ∷ it) (all_wait n p (k + 1) m xs)

-- one stage is another
pub pieces_set : (n p k : ℕ) (ss : List Stage) (xs : List State) (j i : ℕ) (s : Stage) → i ≡ k + j →
    pieces_from n p k (set ss j s) xs ≡ set (pieces_from n p k ss xs) j (piece_of s (part n p i xs))
pieces_set n p k [] xs j i s at = refl
pieces_set n p k (first ∷ ss) xs zero i s at = let same : i ≡ k = omega arith in rw same refl
pieces_set n p k (first ∷ ss) xs (suc j) i s at = ap (λ it. piece_of first (part n p k xs) ∷ it) (pieces_set n p (k + 1) ss xs j i s (omega arith))

-- pieces whose parts agree
pub pieces_same : (n p k : ℕ) (ss : List Stage) (xs ys : List State) → ((i : ℕ) → k ≤ i → part n p i ys ≡ part n p i xs) →
    pieces_from n p k ss ys ≡ pieces_from n p k ss xs
pieces_same n p k [] xs ys same = refl
pieces_same n p k (s ∷ ss) xs ys same =
    rw (same k (omega arith), pieces_same n p (k + 1) ss xs ys (λ i le. same i (omega arith))) refl

-- one piece is answered: its part of the answers is written, the others are as they were
pub pieces_written : (n p k : ℕ) (ss : List Stage) (xs ys : List State) (j i : ℕ) (list : List State) → i ≡ k + j → part n p i ys ≡ list →
    ((other : ℕ) → other ≢ i → part n p other ys ≡ part n p other xs) →
    pieces_from n p k (set ss j stage.Answered) ys ≡ set (pieces_from n p k ss xs) j (Answered list)
pieces_written n p k [] xs ys j i list at written same = refl
pieces_written n p k (first ∷ ss) xs ys zero i list at written same =
    let here : i ≡ k = omega arith in
    let there : part n p k ys ≡ list = ap (λ it. part n p it ys) (sym here) ∙ written in
    rw (there, pieces_same n p (k + 1) ss xs ys (λ other le. same other (λ e. omega arith))) refl
pieces_written n p k (first ∷ ss) xs ys (suc j) i list at written same =
    rw (same k (λ e. omega arith), pieces_written n p (k + 1) ss xs ys j i list (omega arith) written same) refl

-- where none waits
pub none_waits : (n p k : ℕ) (ss : List Stage) (xs : List State) → All (λ s. s ≢ stage.Waiting) ss → first_waiting (pieces_from n p k ss xs) ≡ length ss
none_waits n p k [] xs others = refl
none_waits n p k (stage.Waiting ∷ ss) xs others = absurd (others 0 stage.Waiting (omega arith) refl)
none_waits n p k (stage.Out ∷ ss) xs others = ap suc (none_waits n p (k + 1) ss xs (All-tail (λ s. s ≢ stage.Waiting) stage.Out ss others))
none_waits n p k (stage.Answered ∷ ss) xs others = ap suc (none_waits n p (k + 1) ss xs (All-tail (λ s. s ≢ stage.Waiting) stage.Answered ss others))
none_waits n p k (stage.Failed ∷ ss) xs others = ap suc (none_waits n p (k + 1) ss xs (All-tail (λ s. s ≢ stage.Waiting) stage.Failed ss others))

-- where one waits, and none before it
pub first_waits : (n p k : ℕ) (ss : List Stage) (xs : List State) (j : ℕ) → j < length ss → get_or ss j stage.Waiting ≡ stage.Waiting →
    All (λ s. s ≢ stage.Waiting) (take j ss) → first_waiting (pieces_from n p k ss xs) ≡ j
first_waits n p k [] xs j below waits others = absurd (omega arith)
first_waits n p k (stage.Waiting ∷ ss) xs zero below waits others = refl
first_waits n p k (stage.Out ∷ ss) xs zero below waits others = grind (arith, common_steps)
first_waits n p k (stage.Answered ∷ ss) xs zero below waits others = grind (arith, common_steps)
first_waits n p k (stage.Failed ∷ ss) xs zero below waits others = grind (arith, common_steps)
first_waits n p k (stage.Waiting ∷ ss) xs (suc j) below waits others = absurd (others 0 stage.Waiting (omega arith) refl)
first_waits n p k (stage.Out ∷ ss) xs (suc j) below waits others = ap suc (first_waits n p (k + 1) ss xs j (omega arith) waits (All-tail (λ s. s ≢ stage.Waiting) stage.Out (take j ss) others))
first_waits n p k (stage.Answered ∷ ss) xs (suc j) below waits others = ap suc (first_waits n p (k + 1) ss xs j (omega arith) waits (All-tail (λ s. s ≢ stage.Waiting) stage.Answered (take j ss) others))
first_waits n p k (stage.Failed ∷ ss) xs (suc j) below waits others = ap suc (first_waits n p (k + 1) ss xs j (omega arith) waits (All-tail (λ s. s ≢ stage.Waiting) stage.Failed (take j ss) others))

-- where each stage says that its piece was answered
pub all_are_answered : (n p k : ℕ) (ss : List Stage) (xs : List State) → All (λ s. s ≡ stage.Answered) ss → all_answered (pieces_from n p k ss xs) ≡ true
all_are_answered n p k [] xs all = refl
all_are_answered n p k (stage.Answered ∷ ss) xs all = all_are_answered n p (k + 1) ss xs (All-tail (λ s. s ≡ stage.Answered) stage.Answered ss all)
all_are_answered n p k (stage.Waiting ∷ ss) xs all = (let first = all 0 stage.Out (omega arith) in grind (arith, common_steps))
all_are_answered n p k (stage.Out ∷ ss) xs all = (let first = all 0 stage.Out (omega arith) in grind (arith, common_steps))
all_are_answered n p k (stage.Failed ∷ ss) xs all = (let first = all 0 stage.Out (omega arith) in grind (arith, common_steps))

-- where one stage says another thing
pub one_is_not : (n p k : ℕ) (ss : List Stage) (xs : List State) (j : ℕ) → j < length ss → get_or ss j stage.Waiting ≢ stage.Answered →
    all_answered (pieces_from n p k ss xs) ≡ false
one_is_not n p k [] xs j below other = absurd (omega arith)
one_is_not n p k (stage.Waiting ∷ ss) xs j below other = refl
one_is_not n p k (stage.Out ∷ ss) xs j below other = refl
one_is_not n p k (stage.Failed ∷ ss) xs j below other = refl
one_is_not n p k (stage.Answered ∷ ss) xs zero below other = absurd (other refl)
one_is_not n p k (stage.Answered ∷ ss) xs (suc j) below other = one_is_not n p (k + 1) ss xs j (omega arith) other

-- where each piece was answered, each stage says so
pub stages_of_all : (n p k : ℕ) (ss : List Stage) (xs : List State) → all_answered (pieces_from n p k ss xs) ≡ true → All (λ s. s ≡ stage.Answered) ss
stages_of_all n p k [] xs all = All-nil (λ s. s ≡ stage.Answered)
stages_of_all n p k (stage.Answered ∷ ss) xs all = All-cons (λ s. s ≡ stage.Answered) stage.Answered ss refl (stages_of_all n p (k + 1) ss xs all)
stages_of_all n p k (stage.Waiting ∷ ss) xs all = grind (arith, common_steps)
stages_of_all n p k (stage.Out ∷ ss) xs all = grind (arith, common_steps)
stages_of_all n p k (stage.Failed ∷ ss) xs all = grind (arith, common_steps)

-- where each piece was answered, their answers joined are the answers as they are kept
pub joined_are : (n p k : ℕ) (ss : List Stage) (xs : List State) → all_answered (pieces_from n p k ss xs) ≡ true → k + length ss ≡ p → first_task n p p ≡ length xs →
    joined (pieces_from n p k ss xs) ≡ drop (first_task n p k) xs
joined_are n p k [] xs all end whole =
    let last : k ≡ p = grind (arith, common_steps) in
    sym (ap (λ it. drop (first_task n p it) xs) last ∙ ap (λ it. drop it xs) whole ∙ drop-length xs)
joined_are n p k (stage.Answered ∷ ss) xs all end whole =
    let rest : (k + 1) + length ss ≡ p = grind (arith, common_steps) in
    rw (joined_are n p (k + 1) ss xs all rest whole) (sym (drop_split xs (first_task n p k) (first_task n p (k + 1)) (first_rises n p k (k + 1) (omega arith))))
joined_are n p k (stage.Waiting ∷ ss) xs all end whole = grind (arith, common_steps)
joined_are n p k (stage.Out ∷ ss) xs all end whole = grind (arith, common_steps)
joined_are n p k (stage.Failed ∷ ss) xs all end whole = grind (arith, common_steps)

-- without the answers, no piece keeps its own
pub all_emptied : (n p k : ℕ) (ss : List Stage) (xs : List State) → pieces_from n p k ss [] ≡ map emptied (pieces_from n p k ss xs)
all_emptied n p k [] xs = refl
all_emptied n p k (stage.Answered ∷ ss) xs =
    let none : part {A = State} n p k [] ≡ [] = grind (arith, common_steps, drop-nil, take-nil) in
    rw (none, all_emptied n p (k + 1) ss xs) refl
all_emptied n p k (stage.Waiting ∷ ss) xs = ap (λ it. Waiting ∷ it) (all_emptied n p (k + 1) ss xs)
all_emptied n p k (stage.Out ∷ ss) xs = ap (λ it. Out ∷ it) (all_emptied n p (k + 1) ss xs)
all_emptied n p k (stage.Failed ∷ ss) xs = ap (λ it. Failed ∷ it) (all_emptied n p (k + 1) ss xs)

-- the other parts, where one is written
by_order : (n p : ℕ) (xs list : List State) (j other : ℕ) → first_task n p j ≤ first_task n p (j + 1) → first_task n p (j + 1) ≤ length xs →
    length list ≡ first_task n p (j + 1) - first_task n p j → (other < j) ⊎ (j < other) →
    part n p other (take (first_task n p j) xs ++ (list ++ drop (first_task n p (j + 1)) xs)) ≡ part n p other xs
by_order n p xs list j other ab within long (inl before) =
    part_before xs list (first_task n p j) (first_task n p (j + 1)) (first_task n p other) (first_task n p (other + 1)) (first_rises n p other (other + 1) (omega arith)) (first_rises n p (other + 1) j (omega arith)) ab within
by_order n p xs list j other ab within long (inr behind) =
    part_behind xs list (first_task n p j) (first_task n p (j + 1)) (first_task n p other) (first_task n p (other + 1)) ab (first_rises n p (j + 1) other (omega arith)) within long

-- the same, of all pieces
pub piece_at : (n p : ℕ) (ss : List Stage) (xs : List State) (j : ℕ) →
    slice_get (pieces_from n p 0 ss xs) j ≡ option_map (λ s. piece_of s (part n p j xs)) (slice_get ss j)
piece_at n p ss xs j = pieces_at n p 0 ss xs j j (omega arith)

pub piece_set : (n p : ℕ) (ss : List Stage) (xs : List State) (j : ℕ) (s : Stage) →
    pieces_from n p 0 (set ss j s) xs ≡ set (pieces_from n p 0 ss xs) j (piece_of s (part n p j xs))
piece_set n p ss xs j s = pieces_set n p 0 ss xs j j s (omega arith)

pub piece_written : (n p : ℕ) (ss : List Stage) (xs list : List State) (j : ℕ) → j < p → length xs ≡ n → length list ≡ first_task n p (j + 1) - first_task n p j →
    pieces_from n p 0 (set ss j stage.Answered) (take (first_task n p j) xs ++ (list ++ drop (first_task n p (j + 1)) xs)) ≡ set (pieces_from n p 0 ss xs) j (Answered list)
piece_written n p ss xs list j below whole long =
    let a : ℕ = first_task n p j in
    let b : ℕ = first_task n p (j + 1) in
    let ab : a ≤ b = first_rises n p j (j + 1) (omega arith) in
    let within : b ≤ length xs = (let end = first_within n p (j + 1) (omega arith) (omega arith) in omega arith) in
    pieces_written n p 0 ss xs (take a xs ++ (list ++ drop b xs)) j j list (omega arith) (part_written xs list a b ab within long)
    (λ other apart. by_order n p xs list j other ab within long (grind (arith, common_steps)))
