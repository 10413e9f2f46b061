-- What commits make of a design (own).
use Rattle.std.specs.Prelude.{ℕ, ◌-◌, ◌^◌, ◌==◌, if◌then◌else◌, fold, List, Result, Err}
use Rattle.std.specs.Result.{result_unwrap_or}
use Rattle.design.specs.Netlist.{Netlist}
use Rattle.edits.specs.declared.edit.Edit.{Edit}
use Rattle.edits.specs.declared.fault.EditFault.{EditFault}
use Rattle.edits.specs.declared.fault.EditFault.TheVariants.{TooMany}
use Rattle.edits.specs.Batches.{batch}

-- the design that a commit of these edits makes of the one at this version, or the place and the fault of the first edit that is
-- refused; the greatest version is never left
abbrev pub commit_of : ℕ → Netlist → List Edit → Result Netlist (ℕ × EditFault)
commit_of version d edits = if version == 2 ^ 64 - 1 then Err (0, TooMany) else batch d edits

-- the design after these edits where it accepts them, else the design as it is
abbrev pub committed : Netlist → List Edit → Netlist
committed d edits = result_unwrap_or (batch d edits) d

-- the design after these accepted commits, one after another
abbrev pub after : Netlist → List (List Edit) → Netlist
after d log = fold committed d log
