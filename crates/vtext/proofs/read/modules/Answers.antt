use Rattle.std.proofs.Common.{inr}
use Rattle.vtext.specs.kept.Readings.{view}
use Rattle.vtext.proofs.ReadLemmas.{refused, said_good, says}
use Rattle.vtext.proofs.read.modules.Goals as goal

pub walk-requires : goal.walk-requires
walk-requires c = record { good = said_good c.args.text.now c.in_ok-names.names c.in_ok-names.words.items c.as_slice.result.now c.in_ok-names.ensures.said c.as_slice.ensures.value }

pub returns-in-Ok-clause-list : goal.returns-in-Ok-clause-list
returns-in-Ok-clause-list c =
    says c.args.text.now c.in_ok-names.names c.in_ok-names.words.items c.as_slice.result.now c.in_ok-names.ensures.said c.as_slice.ensures.value c.args.default (view c.in-Ok.draft) c.new.result
    c.if-text-gt-MAX_TEXT.false c.in-Ok.ensures.text c.new.ensures

pub returns-clause-fault : goal.returns-clause-fault
returns-clause-fault c =
    inr (refused c.args.text.now c.in_ok-names.names c.in_ok-names.words.items c.as_slice.result.now c.in_ok-names.ensures.said c.as_slice.ensures.value c.args.default
    c.as_slice-in-Err-Fault.result.now c.in-Err-Fault.place c.in-Err-Fault.cause c.fault_at.result c.if-text-gt-MAX_TEXT.false c.as_slice-in-Err-Fault.ensures.value
    (rw c.in-Err-Fault.field-0-is at c.in-Err-Fault.ensures.fault) c.fault_at.ensures)
