use Rattle.std.proofs.Common.{◌≡◌, Some, IfErr, IfOk, drop, map, string_bytes}
use Rattle.std.specs.Vec.Iter.{into_iter_items}
use Rattle.app.specs.Arguments.{asked}
use Rattle.app.specs.kept.Complaints.{StopsBy}
use Rattle.app.proofs.StartLemmas.{along}
use Rattle.app.proofs.start.asked.Goals as goal

pub returns-in-Ok-clause-ok : goal.returns-in-Ok-clause-ok
returns-in-Ok-clause-ok c =
    along c.args.words (λ all. drop 1 (into_iter_items all)) c.in-Ok.words.items
    (λ items. IfOk c.asked_by.result (λ args. asked (map string_bytes items) ≡ Some (record { design = string_bytes args.design; horizon = args.horizon; workers = args.workers; delay = args.delay })))
    c.in-Ok.ensures.ok (rw c.as_slice.ensures.value at c.asked_by.ensures.ok)

pub returns-in-Ok-clause-stopped : goal.returns-in-Ok-clause-stopped
returns-in-Ok-clause-stopped c =
    along c.args.words (λ all. drop 1 (into_iter_items all)) c.in-Ok.words.items (λ items. IfErr c.asked_by.result (StopsBy (map string_bytes items)))
    c.in-Ok.ensures.ok (rw c.as_slice.ensures.value at c.asked_by.ensures.stopped)
