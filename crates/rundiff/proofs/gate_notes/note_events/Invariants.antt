use Rattle.std.proofs.Common.{◌≡◌, ◌≤◌, ℕ, true, take, map}
use Rattle.event_queue.specs.kept.Noted.{noted}
use Rattle.gatestep.specs.Step.{State}
use Rattle.rundiff.specs.kept.Noting.{pends}
use Rattle.rundiff.specs.kept.Places.{is_among}
use Rattle.scratch.specs.kept.Places.{Keeps, has}
use Rattle.rundiff.proofs.gate_notes.note_events.Given as goal

-- the events of the gates so far are noted
abbrev pub invariant-loop-i : goal.invariant-loop-i
invariant-loop-i l =
    record {
      events : (f : ℕ → State) → l.states ≡ map f l.places → (p u : ℕ) → is_among (take l.i l.places) p ≡ true → pends (f p) u ≡ true → has p (noted l.queue u) ≡ true;
      kept : Keeps (noted l.fn.queue) (noted l.queue);
      early : (u : ℕ) → u ≤ l.t → noted l.queue u ≡ noted l.fn.queue u;
    }
