-- Why a design text is refused: numbers and names (own).
use Rattle.std.specs.Prelude.{ℕ, List, codes}
use Rattle.edits.specs.EditFaults.{fault_name}
use Rattle.edits.specs.declared.fault.EditFault.TheVariants as edit
use Rattle.vtext.specs.declared.cause.Cause.{Cause}
use Rattle.vtext.specs.declared.cause.Cause.TheVariants as cause
use Rattle.vtext.specs.declared.fault.ReadFault.{ReadFault}
use Rattle.vtext.specs.declared.fault.ReadFaultKind.{ReadFaultKind}
use Rattle.vtext.specs.declared.fault.ReadFaultKind.TheVariants.{Text, Syntax, Unsupported, UnknownModule, Recursive, NoTop, ManyTops, WidthMismatch, PortKind, PortCount, Edit}

abbrev pub kind_code : ReadFaultKind → ℕ
kind_code Text = 1
kind_code Syntax = 2
kind_code Unsupported = 3
kind_code UnknownModule = 4
kind_code Recursive = 5
kind_code NoTop = 6
kind_code ManyTops = 7
kind_code WidthMismatch = 8
kind_code PortKind = 9
kind_code PortCount = 10
kind_code (Edit fault) = 11

abbrev pub kind_name : ReadFaultKind → List ℕ
kind_name Text = codes "Text"
kind_name Syntax = codes "Syntax"
kind_name Unsupported = codes "Unsupported"
kind_name UnknownModule = codes "UnknownModule"
kind_name Recursive = codes "Recursive"
kind_name NoTop = codes "NoTop"
kind_name ManyTops = codes "ManyTops"
kind_name WidthMismatch = codes "WidthMismatch"
kind_name PortKind = codes "PortKind"
kind_name PortCount = codes "PortCount"
kind_name (Edit fault) = fault_name fault

-- a text over its limit is refused on its first line
abbrev pub too_long : ReadFault
too_long = record { line = 1; kind = Text }

-- an allocation was refused
abbrev pub out_of_memory : ReadFault
out_of_memory = record { line = 0; kind = Edit edit.OutOfMemory }

-- the kind of fault that a cause gives
abbrev pub kind_of : Cause → ReadFaultKind
kind_of cause.Byte = Text
kind_of cause.Unsupported = Unsupported
kind_of cause.Syntax = Syntax
kind_of cause.BadName = Edit edit.BadName
kind_of cause.ZeroDelay = Edit edit.ZeroDelay
kind_of cause.DelayTooLarge = Edit edit.DelayTooLarge
kind_of cause.TooMany = Edit edit.TooMany
kind_of cause.DuplicateName = Edit edit.DuplicateName
kind_of cause.WidthMismatch = WidthMismatch
kind_of cause.WrongArity = Edit edit.WrongArity
kind_of cause.PortKind = PortKind
