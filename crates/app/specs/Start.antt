-- What the system gives at the start, the words of the command line and the file of the design, and how a session is opened with them.
use Rattle.std.specs.declared.io.ErrorKind.{ErrorKind}
use Rattle.programs.specs.Files.{breakdown_by}
use Rattle.programs.specs.declared.fault_lines.Breakdown.{Breakdown}
use Rattle.programs.specs.declared.fault_lines.Breakdown.TheVariants as breakdown
use Rattle.session.specs.declared.Options.{Options}
use Rattle.session.specs.declared.SessionFault.{SessionFault}
use Rattle.session.specs.declared.SessionFault.TheVariants.{OutOfMemory, Read, Write}
use Rattle.app.specs.declared.arguments.Args.{Args}
use Rattle.app.specs.declared.program.Program.{Program}
use Rattle.app.specs.Programs.{is_tool}

-- a text that there is not: a session breaks off for the same cause
abbrev pub unread_by : Breakdown → SessionFault
unread_by breakdown.OutOfMemory = OutOfMemory
unread_by breakdown.Read = Read
unread_by breakdown.Write = Write

-- a file that can't be read: out of memory is itself, and all else is a failed read
abbrev pub unread_fault : ErrorKind → SessionFault
unread_fault kind = unread_by (breakdown_by kind)

-- how the program opens the session
abbrev pub options_of : Program → Args → Options
options_of program args = record { horizon = args.horizon; delay = args.delay; tools = is_tool program }
