use Rattle.std.proofs.Common.{◌≡◌, ◌<◌, ℕ, [], true, take}
use Rattle.event_queue.specs.kept.Noted.{noted}
use Rattle.rundiff.specs.kept.Places.{is_among}
use Rattle.scratch.specs.kept.Places.{has}
use Rattle.rundiff.proofs.opening.note_all.Given as goal

-- the places so far are noted
abbrev pub invariant-loop-place : goal.invariant-loop-place
invariant-loop-place l = record {
  listed : (p : ℕ) → is_among (take l.place-index l.place-items) p ≡ true → has p (noted l.queue l.t) ≡ true;
  early : (u : ℕ) → u < l.t → noted l.queue u ≡ [];
}
