-- Edits that have words of their own, and how far a line was read.
use Rattle.std.specs.Prelude.{◌≡◌, ◌⊎◌, Bool, true, false, Result, Ok, Err}
use Rattle.session.specs.declared.commands.command.Command.{Command}
use Rattle.session.specs.declared.commands.command.Command.TheVariants as command
use Rattle.session.specs.declared.commands.edit_line.EditLine.{EditLine}
use Rattle.session.specs.declared.commands.edit_line.EditLine.TheVariants.{Horizon}
use Rattle.session.specs.declared.said.Line.{Line}
use Rattle.session.specs.declared.said.LineFault.{LineFault}
use Rattle.session.specs.declared.said.LineFault.TheVariants.{OutOfMemory}
use Rattle.session.specs.LineReadings.{reading_of}

-- an edit names nets or gates, so that it has words of its own
abbrev pub has_words : EditLine → Bool
has_words (Horizon time) = false
has_words _ = true

-- the same of the edit that a command asks for
abbrev pub owns_words : Command → Bool
owns_words (command.Change line) = has_words line
owns_words _ = false

-- a line that asks this command was read to this
abbrev pub IsReadTo : Command → Result Line LineFault → Type 0
IsReadTo c (Ok said) = reading_of c ≡ Ok said
IsReadTo c (Err fault) = (reading_of c ≡ Err fault) ⊎ ((fault ≡ OutOfMemory) × (owns_words c ≡ true))
