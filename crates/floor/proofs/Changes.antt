-- What a change of one stage does to the pieces.
use Rattle.std.proofs.Common.{◌≡◌, ◌≢◌, ◌<◌, ◌≤◌, ◌+◌, ◌-◌, ◌++◌, ℕ, true, false, Option, Some, None, Ok, Err, List, length, set, take, drop, refl, ap, get_or, ◌∙◌, sym, All, arith, slice_get, option_map, nat_lt}
use Rattle.std.specs.Option.{IfNone}
use Rattle.std.proofs.lemmas.Grind.{common_steps}
use Rattle.std.proofs.lemmas.List.{length-set}
use Rattle.std.proofs.lemmas.List.Elements.{All-weaker}
use Rattle.std.proofs.lemmas.Option.{slice_get_within, get_or_from_slice_get, slice_get_read, slice_get_past}
use Rattle.gatestep.specs.Step.{State}
use Rattle.floor.proofs.Standing.{piece_at, piece_set, piece_written, none_waits}
use Rattle.floor.specs.kept.Pieces.{Dealing, Answered, Failed, Answer, Fail, first_task, part, first_waiting, awaited, fail_reply, answer_reply, finished, after, next_piece, all_answered}
use Rattle.floor.specs.kept.Held.{piece_of, pieces_from}
use Rattle.floor.specs.declared.piece.Piece.{Piece}
use Rattle.floor.specs.declared.fault.FloorFault.TheVariants.{Stranger}
use Rattle.floor.specs.declared.stage.Stage.{Stage}
use Rattle.floor.specs.declared.stage.Stage.TheVariants as stage

-- one stage is another
pub stage_set : (n : ℕ) (ss : List Stage) (xs : List State) (j : ℕ) (s : Stage) →
    pieces_from n (length (set ss j s)) 0 (set ss j s) xs ≡ set (pieces_from n (length ss) 0 ss xs) j (piece_of s (part n (length ss) j xs))
stage_set n ss xs j s = ap (λ p. pieces_from n p 0 (set ss j s) xs) (length-set ss j s) ∙ piece_set n (length ss) ss xs j s

-- one piece is answered
pub stage_answered : (n : ℕ) (ss : List Stage) (xs list : List State) (j : ℕ) → j < length ss → length xs ≡ n →
    length list ≡ first_task n (length ss) (j + 1) - first_task n (length ss) j →
    pieces_from n (length (set ss j stage.Answered)) 0 (set ss j stage.Answered) (take (first_task n (length ss) j) xs ++ (list ++ drop (first_task n (length ss) (j + 1)) xs))
    ≡ set (pieces_from n (length ss) 0 ss xs) j (Answered list)
stage_answered n ss xs list j below whole long =
    ap (λ p. pieces_from n p 0 (set ss j stage.Answered) (take (first_task n (length ss) j) xs ++ (list ++ drop (first_task n (length ss) (j + 1)) xs))) (length-set ss j stage.Answered)
    ∙ piece_written n (length ss) ss xs list j below whole long

awaited_out : (f : Stage → List State) (o : Option Stage) → awaited (option_map (λ s. piece_of s (f s)) o) ≡ Ok tt → o ≡ Some stage.Out
awaited_out f None ok = grind (arith, common_steps)
awaited_out f (Some stage.Waiting) ok = grind (arith, common_steps)
awaited_out f (Some stage.Out) ok = refl
awaited_out f (Some stage.Answered) ok = grind (arith, common_steps)
awaited_out f (Some stage.Failed) ok = grind (arith, common_steps)

-- a piece of which word is awaited is out
pub out_of : (n p : ℕ) (ss : List Stage) (xs : List State) (j : ℕ) → awaited (slice_get (pieces_from n p 0 ss xs) j) ≡ Ok tt → slice_get ss j ≡ Some stage.Out
out_of n p ss xs j ok = awaited_out (λ s. part n p j xs) (slice_get ss j) (ap awaited (sym (piece_at n p ss xs j)) ∙ ok)

-- what is said to word of a piece at this stage
pub awaited_at : (n p : ℕ) (ss : List Stage) (xs : List State) (j : ℕ) (s : Stage) → j < length ss → s ≡ get_or ss j s →
    awaited (slice_get (pieces_from n p 0 ss xs) j) ≡ awaited (Some (piece_of s (part n p j xs)))
awaited_at n p ss xs j s below is =
    ap awaited (piece_at n p ss xs j ∙ ap (option_map (λ s. piece_of s (part n p j xs))) (slice_get_read ss (length ss) j s refl below is))

-- what is said to word of a piece that is none
pub awaited_past : (n p : ℕ) (ss : List Stage) (xs : List State) (j : ℕ) → length ss ≤ j → awaited (slice_get (pieces_from n p 0 ss xs) j) ≡ Err Stranger
awaited_past n p ss xs j past =
    ap awaited (piece_at n p ss xs j ∙ ap (option_map (λ s. piece_of s (part n p j xs))) (slice_get_past ss j past))

-- then not all pieces were answered
pub out_not_all : (ss : List Stage) (j : ℕ) → slice_get ss j ≡ Some stage.Out → All (λ s. s ≡ stage.Answered) ss → ⊥
out_not_all ss j out all =
    let below : j < length ss = slice_get_within ss j stage.Out out in
    let here = all j stage.Waiting below in
    let there = get_or_from_slice_get ss j stage.Out stage.Waiting out in
    grind (arith, common_steps)

-- where one waits, not all pieces were answered
pub waits_not_all : (n p : ℕ) (ss : List Stage) (xs : List State) → first_waiting (pieces_from n p 0 ss xs) < length ss → All (λ s. s ≡ stage.Answered) ss → ⊥
waits_not_all n p ss xs below all =
    let none = none_waits n p 0 ss xs (All-weaker (λ s. s ≡ stage.Answered) (λ s. s ≢ stage.Waiting) (λ s e. grind (arith, common_steps)) ss all) in
    omega arith

-- what holds where there is nothing holds of something
pub never_none : {A : Type 0} {P : Type 0} (Q : Type 0) → (o : Option A) → IfNone o P → (P → ⊥) → IfNone o Q
never_none Q None given never = absurd (never given)
never_none Q (Some x) given never = tt

-- the state where a piece fails
pub after_fail : (s : Dealing) (k : ℕ) → fail_reply s k ≡ Ok tt → after s (Fail k) ≡ record { tasks = s.tasks; pieces = set s.pieces k Failed; given = s.given }
after_fail s k ok = rw ok refl

-- the state where a piece is answered
pub after_answer : (s : Dealing) (k : ℕ) (list : List State) → answer_reply s k list ≡ Ok tt →
    after s (Answer k list) ≡ record { tasks = s.tasks; pieces = set s.pieces k (Answered list); given = s.given }
after_answer s k list ok = rw ok refl

-- the reply to as many answers as the piece has tasks
pub answer_fits : (s : Dealing) (k : ℕ) (list : List State) → fail_reply s k ≡ Ok tt →
    length list ≡ first_task s.tasks (length s.pieces) (k + 1) - first_task s.tasks (length s.pieces) k → answer_reply s k list ≡ Ok tt
answer_fits s k list ok fits = grind (arith, common_steps)

-- the piece that is dealt
pub dealt_piece : (s : Dealing) (piece : Piece) → piece.number < length s.pieces → piece.number ≡ first_waiting s.pieces →
    piece.first ≡ first_task s.tasks (length s.pieces) piece.number → piece.end ≡ first_task s.tasks (length s.pieces) (piece.number + 1) →
    Some piece ≡ next_piece s
dealt_piece s piece below number first end =
    let yes : nat_lt (first_waiting s.pieces) (length s.pieces) ≡ true = grind (arith, common_steps) in
    rw yes (grind (arith, common_steps))

-- nothing is given on
pub not_finished : (s : Dealing) → all_answered s.pieces ≡ false → finished s ≡ None
not_finished s none = grind (arith, common_steps)

-- what never holds is not said of what is there
pub never_given : {A P : Type 0} → (o : Option A) → IfNone o P → (P → ⊥) → o ≡ None → ⊥
never_given None given never is = never given
never_given (Some x) given never is = grind (arith, common_steps)
