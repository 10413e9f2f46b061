-- A floor whose pieces are dealt in order and then answered in order.
use Rattle.std.specs.Prelude.{ℕ, zero, suc, false, List, [], ◌∷◌, ◌++◌, replicate}
use Rattle.gatestep.specs.Step.{State}
use Rattle.floor.specs.kept.Pieces.{Dealing, PieceState, Waiting, Out, Answered, part}

-- so many pieces are out, and so many wait behind them
abbrev pub dealing : (n k m : ℕ) → Dealing
dealing n k m = record { tasks = n; pieces = replicate k Out ++ replicate m Waiting; given = false }

-- the first k pieces, answered with their parts of a list
abbrev pub answered : (n p : ℕ) → List State → ℕ → List PieceState
answered n p all zero = []
answered n p all (suc k) = answered n p all k ++ Answered (part n p k all) ∷ []

-- so many pieces are answered, and so many out behind them
abbrev pub gathering : (n p : ℕ) → List State → (k m : ℕ) → Dealing
gathering n p all k m = record { tasks = n; pieces = answered n p all k ++ replicate m Out; given = false }
