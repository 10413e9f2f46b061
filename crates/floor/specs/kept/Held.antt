-- How the pieces stand in what is kept of them: a stage for each, and the answers of all in one list.
use Rattle.std.specs.Prelude.{ℕ, ◌+◌, List, [], ◌∷◌}
use Rattle.gatestep.specs.Step.{State}
use Rattle.floor.specs.kept.Pieces.{PieceState, Waiting, Out, Answered, Failed, part}
use Rattle.floor.specs.declared.stage.Stage.{Stage}
use Rattle.floor.specs.declared.stage.Stage.TheVariants as stage

-- the state of a piece at this stage, whose answers are these once it has any
abbrev pub piece_of : Stage → List State → PieceState
piece_of stage.Waiting list = Waiting
piece_of stage.Out list = Out
piece_of stage.Answered list = Answered list
piece_of stage.Failed list = Failed

-- the pieces from number k on
abbrev pub pieces_from : (n p k : ℕ) → List Stage → List State → List PieceState
pieces_from n p k [] answers = []
pieces_from n p k (s ∷ rest) answers = piece_of s (part n p k answers) ∷ pieces_from n p (k + 1) rest answers
