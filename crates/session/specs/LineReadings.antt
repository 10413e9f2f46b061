-- What a line says by itself (own).
use Rattle.std.specs.Prelude.{Result, Ok, Err}
use Rattle.session.specs.declared.commands.command.Command.{Command}
use Rattle.session.specs.declared.commands.command.Command.TheVariants as command
use Rattle.session.specs.declared.said.Line.{Line}
use Rattle.session.specs.declared.said.Line.TheVariants.{Skip, Edit, Begin, Commit, Abort, Other}
use Rattle.session.specs.declared.said.LineFault.{LineFault}
use Rattle.session.specs.declared.said.LineFault.TheVariants.{BadCommand, LongLine}
use Rattle.session.specs.EditLines.{edit_of}

-- what a line says that asks this command, or why it says nothing
abbrev pub reading_of : Command → Result Line LineFault
reading_of command.Skip = Ok Skip
reading_of (command.Change line) = Ok (Edit (edit_of line))
reading_of command.Begin = Ok Begin
reading_of command.Commit = Ok Commit
reading_of command.Abort = Ok Abort
reading_of command.Unreadable = Err BadCommand
reading_of command.TooLong = Err LongLine
reading_of _ = Ok Other
