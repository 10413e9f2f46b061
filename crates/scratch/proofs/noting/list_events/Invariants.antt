use Rattle.std.proofs.Common.{◌≡◌, ◌<◌, ℕ, true, [], All}
use Rattle.gatestep.specs.Tasks.{PendingFrom}
use Rattle.event_queue.specs.kept.Noted.{noted}
use Rattle.scratch.specs.kept.Places.{has, pends_at}
use Rattle.scratch.proofs.noting.list_events.Given as goal

-- the events so far
abbrev pub invariant-loop-place : goal.invariant-loop-place
invariant-loop-place l =
    record {
      covers : (k u : ℕ) → k < l.place → pends_at l.states k u ≡ true → has k (noted l.events u) ≡ true;
      early : (n : ℕ) → All (PendingFrom n) l.states → (u : ℕ) → u < n → noted l.events u ≡ [];
    }
