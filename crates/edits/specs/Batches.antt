-- Lists of edits (own).
use Rattle.std.specs.Prelude.{ℕ, ◌+◌, nat_lt, if◌then◌else◌, List, [], ◌∷◌, Option, Some, Result, Ok, Err}
use Rattle.std.specs.Option.{option_map_or}
use Rattle.design.specs.Netlist.{Netlist}
use Rattle.edits.specs.declared.edit.Edit.{Edit}
use Rattle.edits.specs.declared.fault.EditFault.{EditFault}
use Rattle.edits.specs.declared.fault.EditFault.TheVariants.{TooMany}
use Rattle.edits.specs.declared.limits.TheConstants.{MAX_EDITS}
use Rattle.edits.specs.Checks.{cause}
use Rattle.edits.specs.Edits.{edited}

-- why the edit at this place of a list, from 0, is refused, if it is: a list has a limit
abbrev pub refusal : ℕ → Netlist → Edit → Option EditFault
refusal place d e = if nat_lt place MAX_EDITS then cause d e else Some TooMany

-- the edits one after another, where the list goes on at this place
abbrev pub batch_from : ℕ → Netlist → List Edit → Result Netlist (ℕ × EditFault)
batch_from place d [] = Ok d
batch_from place d (e ∷ edits) =
    option_map_or (λ fault. Err (place, fault)) (refusal place d e) (batch_from (place + 1) (edited d e) edits)

-- the design after all the edits, or the place and the fault of the first that is refused
abbrev pub batch : Netlist → List Edit → Result Netlist (ℕ × EditFault)
batch d edits = batch_from 0 d edits
