-- What a run of a new design from that of an old one promises.
use Rattle.std.specs.Prelude.{ℕ, suc, List}
use Rattle.gatestep.specs.Step.{State, Evaluation}
use Rattle.design.specs.Netlist.{Netlist}
use Rattle.scratch.specs.Asked.{IsAskedInPart}
use Rattle.rundiff.specs.Dirty.{rework_below}

-- what was asked has grown by a part of the work that is asked up to the horizon
abbrev pub HasGrownInPart :
    (Evaluation → ℕ → State) → (old new : Netlist) → (before now : List (Evaluation × ℕ)) → Type 0
HasGrownInPart answer old new before now =
    IsAskedInPart before now (rework_below answer old new (suc new.horizon))
