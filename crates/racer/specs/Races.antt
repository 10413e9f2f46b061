-- How a race ends.
use Rattle.std.specs.Prelude.{◌≡◌, ◌≤◌, ◌*◌, ℕ, List, None, Ok, Err, length}
use Rattle.design.specs.Netlist.{Netlist}
use Rattle.vread.specs.Reads.{IsReadFault, Spells}
use Rattle.racer.specs.Scripts.{ScriptRecord, script_of}
use Rattle.racer.specs.Tallies.{Counts}
use Rattle.racer.specs.declared.race.RaceEnd.{RaceEnd}
use Rattle.racer.specs.declared.race.RaceEnd.TheVariants.{Looks, Script, Design, Memory}

-- the text spells a design
abbrev pub SpellsSome : List ℕ → Type 0
SpellsSome text = (d : Netlist) × Spells None text d

-- an end before the script is read
abbrev pub IsDesignEnd : List ℕ → RaceEnd → Type 0
IsDesignEnd design (Design fault) = IsReadFault None design fault
IsDesignEnd design Memory = Unit {0}
IsDesignEnd design _ = ⊥

-- an end before a thread starts
abbrev pub IsFaultEnd : (design script : List ℕ) → RaceEnd → Type 0
IsFaultEnd design script (Script line) = SpellsSome design × (script_of script ≡ Err line)
IsFaultEnd design script end = IsDesignEnd design end

-- How a race may end: with all looks, of a design and a script without a fault, when so many viewers have ended and each commit of
-- the script was submitted; with the first bad line of the script, of a design without a fault; with the fault of the design; or
-- for want of memory, of which nothing is said.
abbrev pub IsEnd : (design script : List ℕ) (viewers looks : ℕ) → RaceEnd → Type 0
IsEnd design script viewers looks (Looks tally) =
    SpellsSome design
    × ((whole : ScriptRecord) × (script_of script ≡ Ok whole) × Counts viewers (viewers * looks) (length whole.commits) tally)
    × (1 ≤ viewers) × (viewers ≤ 64) × (tally.wrong ≤ tally.looks)
IsEnd design script viewers looks end = IsFaultEnd design script end
