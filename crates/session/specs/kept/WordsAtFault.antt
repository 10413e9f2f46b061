-- A word at fault as a reply shows it, and the commands that commit edits.
use Rattle.std.specs.Prelude.{Bool, true, false, ℕ, List, decimal}
use Rattle.session.specs.declared.at_fault.fault_word.FaultWord.{FaultWord}
use Rattle.session.specs.declared.at_fault.fault_word.FaultWord.TheVariants.{Text, Number}
use Rattle.session.specs.declared.commands.command.Command.{Command}
use Rattle.session.specs.declared.commands.command.Command.TheVariants as command

-- a word as a reply shows it: as it was read, or a number in decimal digits
abbrev pub shown : FaultWord → List ℕ
shown (Text word) = word.now
shown (Number n) = decimal n

-- the command commits edits, or keeps one for a commit
abbrev pub commits_edits : Command → Bool
commits_edits (command.Change line) = true
commits_edits command.Commit = true
commits_edits _ = false
