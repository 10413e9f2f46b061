use Rattle.std.proofs.Common.{◌≡◌, Some, IfErr, IfOk, drop, map, string_bytes}
use Rattle.std.specs.Vec.Iter.{into_iter_items}
use Rattle.racer.specs.Arguments.{asked}
use Rattle.racer.specs.Complaints.{StopsBy}
use Rattle.racer.proofs.ArgumentLemmas.{along}
use Rattle.racer.proofs.start.asked.Goals as goal

pub returns-in-Ok-clause-ok : goal.returns-in-Ok-clause-ok
returns-in-Ok-clause-ok c =
    along c.args.words (λ all. drop 1 (into_iter_items all)) c.in-Ok.words.items
    (λ items. IfOk c.arguments.result (λ args. asked (map string_bytes items) ≡ Some (record { design = string_bytes args.design; script = string_bytes args.script; viewers = args.viewers; looks = args.looks })))
    c.in-Ok.ensures.ok (rw c.as_slice.ensures.value at c.arguments.ensures.ok)

pub returns-in-Ok-clause-stopped : goal.returns-in-Ok-clause-stopped
returns-in-Ok-clause-stopped c =
    along c.args.words (λ all. drop 1 (into_iter_items all)) c.in-Ok.words.items (λ items. IfErr c.arguments.result (StopsBy (map string_bytes items)))
    c.in-Ok.ensures.ok (rw c.as_slice.ensures.value at c.arguments.ensures.stopped)
