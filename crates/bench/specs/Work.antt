-- What commits ask of a stepper: of the run of the new design what the old one's run does not tell.
use Rattle.std.specs.Prelude.{◌≡◌, ℕ, suc, List, Result, Ok, Err}
use Rattle.gatestep.specs.Step.{Evaluation, advance}
use Rattle.design.specs.Netlist.{Netlist}
use Rattle.edits.specs.declared.fault.EditFault.{EditFault}
use Rattle.scratch.specs.Asked.{IsAskedInSomeOrder}
use Rattle.scratch.specs.Work.{work_below}
use Rattle.rundiff.specs.Dirty.{rework_below}
use Rattle.resim.specs.Reruns.{HasGrownInPart}

-- what is asked for the run of a design from scratch, each task with its moment
abbrev pub work_of : Netlist → List (Evaluation × ℕ)
work_of d = work_below advance d (suc d.horizon)

-- what is asked for the run of a new design from that of the old one, each task with its moment
abbrev pub rework_of : (old new : Netlist) → List (Evaluation × ℕ)
rework_of old new = rework_below advance old new (suc new.horizon)

-- a stepper was asked for the run of a new design from that of the old one
abbrev pub AskedByAccepted : (old new : Netlist) → (before now : List (Evaluation × ℕ)) → Type 0
AskedByAccepted old new before now = IsAskedInSomeOrder before now (rework_of old new)

-- a stepper was asked for a part of what the design asks that a commit would have made, and nothing where an edit is refused
abbrev pub AskedByRefused : Netlist → Result Netlist (ℕ × EditFault) → (before now : List (Evaluation × ℕ)) → Type 0
AskedByRefused old (Ok new) before now = HasGrownInPart advance old new before now
AskedByRefused old (Err refused) before now = now ≡ before
