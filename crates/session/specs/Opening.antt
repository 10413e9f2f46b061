-- How a session opens.
use Rattle.std.specs.Prelude.{◌≡◌, ◌≤◌, ◌<◌, ℕ, List, Option, length}
use Rattle.fourstate.specs.declared.limits.TheConstants.{MAX_TIME}
use Rattle.design.specs.Netlist.{Netlist, with_horizon}
use Rattle.edits.specs.declared.fault.EditFault.TheVariants as edit
use Rattle.vread.specs.Reads.{IsReadFault, MAX_TEXT, Spells}
use Rattle.session.specs.declared.fault.SessionFault.{SessionFault}
use Rattle.session.specs.declared.fault.SessionFault.TheVariants as fault
use Rattle.session.specs.declared.open.Options.{Options}
use Rattle.session.specs.Standing.{SessionState, opened_with}

-- A session opens in this state: version 0, and the design that the text spells, up to the horizon.
pub record Opens (text : List ℕ) (options : Options) (first : SessionState) : Type 0 where
  pub spelled : Netlist
  pub spells : Spells options.delay text spelled
  pub within : options.horizon ≤ MAX_TIME
  pub state : first ≡ opened_with options.tools (with_horizon spelled options.horizon)

-- a session opens in a state of which this holds
abbrev pub FromOpening : List ℕ → Options → (SessionState → Type 0) → Type 0
FromOpening text options P = (first : SessionState) × Opens text options first × P first

-- the text spells a design, and the horizon is over the limit
pub record IsHorizonOver (text : List ℕ) (options : Options) : Type 0 where
  pub spelled : Netlist
  pub spells : Spells options.delay text spelled
  pub over : MAX_TIME < options.horizon

-- why a text opens no session: it has this fault, or an allocation was refused, as may happen to a text within its limit
abbrev pub IsTextRefused : Option ℕ → List ℕ → SessionFault → Type 0
IsTextRefused delay text (fault.Design f) = IsReadFault delay text f
IsTextRefused delay text fault.OutOfMemory = length text ≤ MAX_TEXT
IsTextRefused delay text _ = ⊥

-- Why a session does not open: the text first, then the horizon. A worker is lost only where both would open it; an allocation may be
-- refused there too.
abbrev pub Refuses : List ℕ → Options → SessionFault → Type 0
Refuses text options (fault.Edit f) = (f ≡ edit.TimeTooLarge) × IsHorizonOver text options
Refuses text options fault.WorkerLost = (first : SessionState) × Opens text options first
Refuses text options fault = IsTextRefused options.delay text fault

-- the fault comes at the opening
abbrev pub IsOpeningFault : SessionFault → Type 0
IsOpeningFault fault.Read = ⊥
IsOpeningFault fault.Write = ⊥
IsOpeningFault _ = Unit {0}
