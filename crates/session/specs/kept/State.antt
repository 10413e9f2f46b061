-- Which commands ask for differences, and how lines lead from one state to another one.
use Rattle.std.specs.Prelude.{◌≡◌, Bool, true, false, ℕ, List, [], ◌∷◌, ◌++◌}
use Rattle.session.specs.declared.commands.command.Command.{Command}
use Rattle.session.specs.declared.commands.command.Command.TheVariants as command
use Rattle.session.specs.declared.commands.question.Question.{Question}
use Rattle.session.specs.declared.commands.question.Question.TheVariants as question
use Rattle.session.specs.Standing.{SessionState}
use Rattle.session.specs.State.{Answers, ends}

-- the question is what differs from a held snapshot
abbrev pub is_diff : Question → Bool
is_diff (question.Diff name) = true
is_diff _ = false

-- the command asks so, of the present snapshot or of a held one
abbrev pub asks_diff : Command → Bool
asks_diff (command.Ask asked) = is_diff asked
asks_diff (command.At name asked) = is_diff asked
asks_diff _ = false

-- Lines that a session has answered one after another, none of which ended it: from the state `first` it came to this one, and
-- wrote this.
pub data Reaches (first : SessionState) : List (List ℕ) → List ℕ → SessionState → Type 0 where
  opened : Reaches first [] [] first
  answered : {lines : List (List ℕ)} {out : List ℕ} {now new : SessionState} (line reply : List ℕ) →
      Reaches first lines out now → Answers now line reply new → ends now.tools line ≡ false → Reaches first (lines ++ line ∷ []) (out ++ reply) new
