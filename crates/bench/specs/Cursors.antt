-- What a cursor is seen as, and how it moves.
use Rattle.std.specs.Prelude.{ℕ, List, Option, None, Some}
use Rattle.fourstate.specs.declared.value.Value.{Value}
use Rattle.gatestep.specs.Step.{advance}
use Rattle.design.specs.Netlist.{NetEntry, Netlist}
use Rattle.scratch.specs.Run.{wave_of}

-- the changes of a wave, the last moment of its run, and the moment at which the cursor stands
pub record CursorRecord : Type 0 where
  pub changes : List (ℕ × Value)
  pub horizon : ℕ
  pub time : ℕ

-- a cursor on the wave of a net, at the first moment
abbrev pub begin_of : Netlist → NetEntry → CursorRecord
begin_of d n = record { changes = wave_of advance d n; horizon = d.horizon; time = 0 }

-- the cursor at a moment
abbrev pub at_time : CursorRecord → ℕ → CursorRecord
at_time c t = record { changes = c.changes; horizon = c.horizon; time = t }

-- the cursor at the change that a move goes to; where there is none it stays
abbrev pub moved : CursorRecord → Option (ℕ × Value) → CursorRecord
moved c None = c
moved c (Some change) = at_time c change.0
