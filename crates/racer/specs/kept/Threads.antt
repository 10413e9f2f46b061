-- What threads promise.
use Rattle.std.specs.Prelude.{ℕ}
use Rattle.racer.specs.declared.threads.Looking.{Looking}
use Rattle.racer.specs.declared.threads.Submitting.{Submitting}

-- a viewer's thread: so many looks
abbrev pub looking : (looks : ℕ) → Looking
looking looks = record { looks = looks }

-- an editor's thread: the number of the editor, and so many commits that are submitted
abbrev pub submitting : (number submits : ℕ) → Submitting
submitting number submits = record { number = number; submits = submits }
