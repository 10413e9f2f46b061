-- Why an edit was refused: numbers and names (own).
use Rattle.std.specs.Prelude.{ℕ, List, codes}
use Rattle.edits.specs.declared.fault.EditFault.{EditFault}
use Rattle.edits.specs.declared.fault.EditFault.TheVariants.{UnknownNet, UnknownGate, DuplicateName, BadName, ZeroDelay, DelayTooLarge, WrongArity, DrivenInput, NotInput, NetInUse, TimeTooLarge, NoSuchPoint, TooMany, OutOfMemory, NoTurnOff}

abbrev pub fault_code : EditFault → ℕ
fault_code UnknownNet = 1
fault_code UnknownGate = 2
fault_code DuplicateName = 3
fault_code BadName = 4
fault_code ZeroDelay = 5
fault_code DelayTooLarge = 6
fault_code WrongArity = 7
fault_code DrivenInput = 8
fault_code NotInput = 9
fault_code NetInUse = 10
fault_code TimeTooLarge = 11
fault_code NoSuchPoint = 12
fault_code TooMany = 13
fault_code OutOfMemory = 14
fault_code NoTurnOff = 21

abbrev pub fault_name : EditFault → List ℕ
fault_name UnknownNet = codes "UnknownNet"
fault_name UnknownGate = codes "UnknownGate"
fault_name DuplicateName = codes "DuplicateName"
fault_name BadName = codes "BadName"
fault_name ZeroDelay = codes "ZeroDelay"
fault_name DelayTooLarge = codes "DelayTooLarge"
fault_name WrongArity = codes "WrongArity"
fault_name DrivenInput = codes "DrivenInput"
fault_name NotInput = codes "NotInput"
fault_name NetInUse = codes "NetInUse"
fault_name TimeTooLarge = codes "TimeTooLarge"
fault_name NoSuchPoint = codes "NoSuchPoint"
fault_name TooMany = codes "TooMany"
fault_name OutOfMemory = codes "OutOfMemory"
fault_name NoTurnOff = codes "NoTurnOff"
