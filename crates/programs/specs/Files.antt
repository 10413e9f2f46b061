-- How a text grows by what a reader gives, and why a file has none.
use Rattle.std.specs.declared.io.ErrorKind.{ErrorKind}
use Rattle.std.specs.declared.io.ErrorKind.TheVariants as kind
use Rattle.programs.specs.declared.fault_lines.Breakdown.{Breakdown}
use Rattle.programs.specs.declared.fault_lines.Breakdown.TheVariants.{OutOfMemory, Read}

-- a file that can't be read: out of memory is itself, and all else is a failed read
abbrev pub breakdown_by : ErrorKind → Breakdown
breakdown_by kind.OutOfMemory = OutOfMemory
breakdown_by _ = Read
