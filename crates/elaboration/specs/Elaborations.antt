-- The design that the modules of a text make: its top and its scopes, or the fault of the modules.
use Rattle.std.specs.Prelude.{ℕ, List, Option, None, Some, if◌then◌else◌}
use Rattle.std.specs.Option.{option_map_or, option_or}
use Rattle.edits.specs.declared.fault.EditFault.TheVariants.{TooMany}
use Rattle.vtext.specs.declared.fault.ReadFault.{ReadFault}
use Rattle.vtext.specs.declared.fault.ReadFaultKind.TheVariants.{Edit}
use Rattle.vtext.specs.Modules.{ModuleEntry}
use Rattle.elaboration.specs.Levels.{has_many_instances}
use Rattle.elaboration.specs.Ports.{fault_at, second_pass}
use Rattle.elaboration.specs.Tops.{third_pass, top_of}

-- The design of this top has too many levels or instances: the fault is at its word `module`.
abbrev pub levels_fault : List ℕ → List (ℕ × ModuleEntry) → ℕ × ModuleEntry → Option ReadFault
levels_fault text modules top =
    if has_many_instances modules top.1 then Some (fault_at text top.1.start (Edit TooMany)) else None

-- The first fault of instances, of the modules together, and of levels and numbers of instances.
abbrev pub elaboration_fault : List ℕ → List (ℕ × ModuleEntry) → Option ReadFault
elaboration_fault text modules =
    option_or (second_pass text modules)
    (option_or (third_pass text modules) (option_map_or (levels_fault text modules) (top_of modules) None))
