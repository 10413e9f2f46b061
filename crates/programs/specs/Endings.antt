-- What programs say at their ends (own).
use Rattle.std.specs.Prelude.{◌≡◌, ℕ, ◌++◌, Bool, false, List, Option, codes, decimal}
use Rattle.std.specs.Io.{StartsWith}
use Rattle.std.specs.Io.KnownBytes.{Appends}
use Rattle.devices.specs.Traffic.{failures_after}
use Rattle.vtext.specs.ReadFaults.{kind_code, kind_name}
use Rattle.vtext.specs.declared.fault.ReadFault.{ReadFault}
use Rattle.programs.specs.declared.fault_lines.Breakdown.{Breakdown}
use Rattle.programs.specs.declared.fault_lines.Breakdown.TheVariants.{OutOfMemory, Read, Write}
use Rattle.programs.specs.declared.version.TheConstants.{VERSION}

abbrev pub breakdown_line : Breakdown → List ℕ
breakdown_line OutOfMemory = codes "out of memory\n"
breakdown_line Read = codes "read failed\n"
breakdown_line Write = codes "write failed\n"

-- `line L: C NAME`
abbrev pub design_line : ReadFault → List ℕ
design_line fault =
    codes "line " ++ decimal fault.line ++ codes ": " ++ decimal (kind_code fault.kind) ++ codes " " ++ kind_name fault.kind ++ codes "\n"

-- `NAME VERSION`
abbrev pub version_line : List ℕ → List ℕ
version_line name = name ++ codes " " ++ VERSION.now ++ codes "\n"

-- What went out stands behind what the device held. It is the text, or the device failed once and it is a beginning of the text.
pub record Says (before after : Option (List ℕ)) (failures failures' : ℕ) (text : List ℕ) : Type 0 where
  pub gone : List ℕ
  pub out : Appends before after gone
  pub beginning : StartsWith text gone
  pub stopped : Bool
  pub failed : failures' ≡ failures_after failures stopped
  pub whole : stopped ≡ false → gone ≡ text
