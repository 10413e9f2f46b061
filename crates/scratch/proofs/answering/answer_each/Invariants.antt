use Rattle.std.proofs.Common.{◌≡◌, ◌<◌, ◌+◌, ◌++◌, ℕ, [], map, take, length, slice_get}
use Rattle.std.specs.Prelude.{◌&&◌}
use Rattle.std.specs.List.{flat_map}
use Rattle.event_queue.specs.kept.Noted.{noted}
use Rattle.waveform.specs.kept.Changes.{trace_below}
use Rattle.design.specs.Keys.{netlist}
use Rattle.scratch.specs.kept.Places.{Covers, Keeps, has, pends_at}
use Rattle.scratch.specs.Run.{state_after, state_before}
use Rattle.scratch.specs.kept.Open.{asked_at}
use Rattle.scratch.proofs.Between.{Between}
use Rattle.scratch.proofs.answering.answer_each.Given as goal

-- the gates so far were asked; at their places all is as it is to be, elsewhere as it was
abbrev pub invariant-loop-i : goal.invariant-loop-i
invariant-loop-i g l =
    let answer = g.S.Stepper.answer in let d = netlist l.present.design.now in let t = l.present.t in let done = take l.i l.gates in
    let next = map (state_before answer d (t + 1)) d.gates in
    let is_open = g.B.Beside.is_open answer d l.fn.beside in
    record {
      asked : g.S.Stepper.asked l.stepper ≡ g.S.Stepper.asked l.fn.stepper ++ flat_map (asked_at is_open answer d t) done;
      losses : g.S.Stepper.losses l.stepper ≡ g.S.Stepper.losses l.fn.stepper;
      fits : g.B.Beside.fits answer d l.beside;
      same : g.B.Beside.is_open answer d l.beside ≡ is_open;
      states : Between done (slice_get l.fn.states.items) (slice_get next) (slice_get l.states.items);
      traces : Between done (slice_get l.fn.traces) (slice_get (map (λ gate. trace_below (state_after answer d gate) (t + 1)) d.gates)) (slice_get l.traces);
      events : Covers (λ k u. has k done && pends_at next k u) (noted l.events) (t + 1);
      kept : Keeps (noted l.fn.events) (noted l.events);
      early : (u : ℕ) → u < t + 1 → noted l.events u ≡ [];
      as_many : length l.states.items ≡ length d.gates;
      as_many_traces : length l.traces ≡ length d.gates;
    }
