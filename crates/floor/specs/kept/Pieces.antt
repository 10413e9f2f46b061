-- The tasks of a moment, dealt in pieces, and what has become of each piece.
use Rattle.std.specs.Prelude.{Bool, true, false, not, ◌&&◌, ℕ, zero, suc, ◌+◌, ◌-◌, ◌*◌, ◌/◌, nat_lt, nat_eq, if◌then◌else◌, List, [], ◌∷◌, ◌++◌, length, map, replicate, set, slice_get, slice_range, Option, Some, None, is_some, Result, Ok, Err, is_ok}
use Rattle.gatestep.specs.Step.{State}
use Rattle.floor.specs.declared.fault.FloorFault.{FloorFault}
use Rattle.floor.specs.declared.fault.FloorFault.TheVariants.{Stranger, Double, WrongLength}
use Rattle.floor.specs.declared.piece.Piece.{Piece}

-- the first task of piece k, where n tasks are cut into p pieces
abbrev pub first_task : (n p k : ℕ) → ℕ
first_task n p k = k * n / p

-- piece k of a list that is cut like the tasks: from its first task up to that of the next piece
abbrev pub part : {A : Type 0} → (n p k : ℕ) → List A → List A
part n p k all = slice_range all (first_task n p k) (first_task n p (k + 1))

-- a piece waits, or is out with a worker, or was answered with a list, or failed
pub data PieceState : Type 0 where
  Waiting : PieceState
  Out : PieceState
  Answered : List State → PieceState
  Failed : PieceState

-- so many tasks in pieces; whether the answers were given on, after which no piece keeps its list
pub record Dealing : Type 0 where
  pub tasks : ℕ
  pub pieces : List PieceState
  pub given : Bool

-- what may befall it
pub data Event : Type 0 where
  Deal : Event
  Answer : ℕ → List State → Event
  Fail : ℕ → Event
  Finish : Event

abbrev pub opened : (n p : ℕ) → Dealing
opened n p = record { tasks = n; pieces = replicate p Waiting; given = false }

-- the number of the first piece that waits; the number of pieces where none does
abbrev pub first_waiting : List PieceState → ℕ
first_waiting [] = zero
first_waiting (Waiting ∷ rest) = zero
first_waiting (Out ∷ rest) = suc (first_waiting rest)
first_waiting (Answered list ∷ rest) = suc (first_waiting rest)
first_waiting (Failed ∷ rest) = suc (first_waiting rest)

-- the piece that is dealt: the first that waits, with its tasks
abbrev pub next_piece : Dealing → Option Piece
next_piece s =
    let n = s.tasks in
    let p = length s.pieces in
    let k = first_waiting s.pieces in
    if nat_lt k p then Some (record { number = k; first = first_task n p k; end = first_task n p (k + 1) }) else None

-- whether word of a piece is awaited: not where it was never dealt, nor where word of it came before
abbrev pub awaited : Option PieceState → Result (Unit {0}) FloorFault
awaited None = Err Stranger
awaited (Some Waiting) = Err Stranger
awaited (Some Out) = Ok tt
awaited (Some (Answered list)) = Err Double
awaited (Some Failed) = Err Double

-- the reply where a piece fails
abbrev pub fail_reply : Dealing → ℕ → Result (Unit {0}) FloorFault
fail_reply s k = awaited (slice_get s.pieces k)

-- the reply where a list answers a piece: also refused where it has not as many answers as the piece has tasks
abbrev pub answer_reply : Dealing → ℕ → List State → Result (Unit {0}) FloorFault
answer_reply s k list =
    let n = s.tasks in
    let p = length s.pieces in
    if is_ok (fail_reply s k) && not (nat_eq (length list) (first_task n p (k + 1) - first_task n p k)) then Err WrongLength else fail_reply s k

-- each piece was answered
abbrev pub all_answered : List PieceState → Bool
all_answered [] = true
all_answered (Waiting ∷ rest) = false
all_answered (Out ∷ rest) = false
all_answered (Answered list ∷ rest) = all_answered rest
all_answered (Failed ∷ rest) = false

-- the answers of one piece
abbrev pub kept : PieceState → List State
kept Waiting = []
kept Out = []
kept (Answered list) = list
kept Failed = []

-- the answers of all pieces, in the order of their numbers
abbrev pub joined : List PieceState → List State
joined [] = []
joined (piece ∷ rest) = kept piece ++ joined rest

-- what is given on: the answers of all pieces, once, where each was answered
abbrev pub finished : Dealing → Option (List State)
finished s = if not s.given && all_answered s.pieces then Some (joined s.pieces) else None

-- the piece without its answers
abbrev pub emptied : PieceState → PieceState
emptied Waiting = Waiting
emptied Out = Out
emptied (Answered list) = Answered []
emptied Failed = Failed

-- the state after one event
abbrev pub after : Dealing → Event → Dealing
after s Deal = record { tasks = s.tasks; pieces = set s.pieces (first_waiting s.pieces) Out; given = s.given }
after s (Answer k list) =
    if is_ok (answer_reply s k list) then record { tasks = s.tasks; pieces = set s.pieces k (Answered list); given = s.given } else s
after s (Fail k) =
    if is_ok (fail_reply s k) then record { tasks = s.tasks; pieces = set s.pieces k Failed; given = s.given } else s
after s Finish =
    if is_some (finished s) then record { tasks = s.tasks; pieces = map emptied s.pieces; given = true } else s
