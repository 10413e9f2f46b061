use Rattle.std.proofs.Common.{◌≡◌, ◌<◌, [], ℕ}
use Rattle.event_queue.specs.kept.Noted.{noted}
use Rattle.event_queue.proofs.row.Row.first.Given as goal

abbrev pub invariant-loop-t : goal.invariant-loop-t
invariant-loop-t l = (u : ℕ) → u < l.t → noted l.self u ≡ []
