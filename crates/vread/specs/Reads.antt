-- Reading a design text: the design that it spells, or its fault.
use Rattle.std.specs.Prelude.{◌≡◌, ◌⊎◌, ℕ, List, Option, None, Some}
use Rattle.design.specs.Netlist.{Netlist}
use Rattle.vtext.specs.declared.fault.ReadFault.{ReadFault}
use Rattle.vtext.specs.Modules.{ModuleList}
use Rattle.vtext.specs.Reads.{IsFirstFault, Says}
pub use Rattle.lexing.specs.declared.limits.TheConstants.{MAX_TEXT}
use Rattle.vread.specs.LateFaults.{late_fault}
use Rattle.vread.specs.Netlists.{design_of}

-- The text spells this design: it says modules that have no fault, and the design is theirs. `default` is the delay of a gate item
-- without one.
pub record Spells (default : Option ℕ) (text : List ℕ) (netlist : Netlist) : Type 0 where
  pub list : ModuleList
  pub says : Says default text list
  pub faultless : late_fault text list ≡ None
  pub whole : design_of list ≡ Some netlist

-- the modules that the text says have this fault
pub record IsLateFault (default : Option ℕ) (text : List ℕ) (fault : ReadFault) : Type 0 where
  pub list : ModuleList
  pub says : Says default text list
  pub late : late_fault text list ≡ Some fault

-- The fault of a text: the first one of its tokens; of a text whose tokens have none, that of its modules.
abbrev pub IsReadFault : Option ℕ → List ℕ → ReadFault → Type 0
IsReadFault default text fault = IsFirstFault default text fault ⊎ IsLateFault default text fault
