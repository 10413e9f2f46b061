-- The fault of an opening by a fault of a text.
use Rattle.edits.specs.declared.fault.EditFault.TheVariants as edit
use Rattle.vtext.specs.declared.fault.ReadFault.{ReadFault}
use Rattle.vtext.specs.declared.fault.ReadFaultKind.{ReadFaultKind}
use Rattle.vtext.specs.declared.fault.ReadFaultKind.TheVariants as read
use Rattle.session.specs.declared.fault.SessionFault.{SessionFault}
use Rattle.session.specs.declared.fault.SessionFault.TheVariants as fault

-- what a fault of this kind of a text gives
abbrev pub fault_by : ReadFaultKind → ReadFault → SessionFault
fault_by (read.Edit edit.OutOfMemory) f = fault.OutOfMemory
fault_by kind f = fault.Design f
