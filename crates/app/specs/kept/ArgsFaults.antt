-- Why the words ask for nothing, by what `clap` says of them.
use Rattle.clap.specs.declared.error.ErrorKind.{ErrorKind}
use Rattle.clap.specs.declared.error.ErrorKind.TheVariants as kind
use Rattle.app.specs.declared.arguments.ArgsFault.{ArgsFault}
use Rattle.app.specs.declared.arguments.ArgsFault.TheVariants.{OutOfMemory, Refused}

-- out of memory is itself, and all else is a refusal, a call for help too (own)
abbrev pub fault_of_kind : ErrorKind → ArgsFault
fault_of_kind kind.OutOfMemory = OutOfMemory
fault_of_kind _ = Refused
