use Rattle.std.proofs.Common.{◌≡◌, ◌<◌, ◌+◌, ℕ, [], map, take, length, slice_get}
use Rattle.std.specs.Prelude.{◌&&◌}
use Rattle.event_queue.specs.kept.Noted.{noted}
use Rattle.waveform.specs.kept.Changes.{trace_below}
use Rattle.design.specs.Keys.{netlist}
use Rattle.scratch.specs.kept.Places.{Covers, Keeps, has, pends_at}
use Rattle.scratch.specs.Run.{state_after, state_before}
use Rattle.scratch.proofs.Between.{Between}
use Rattle.scratch.proofs.settling.settle.Given as goal

-- at the places so far all is as it is to be, elsewhere as it was
abbrev pub invariant-loop-i : goal.invariant-loop-i
invariant-loop-i g l =
    let answer = g.S.Stepper.answer in
    let d = netlist l.design in
    let next = map (state_before answer d (l.t + 1)) d.gates in
    record {
      states : Between (take l.i l.gates) (slice_get l.fn.states.items) (slice_get next) (slice_get l.states.items);
      traces : Between (take l.i l.gates) (slice_get l.fn.traces) (slice_get (map (λ gate. trace_below (state_after answer d gate) (l.t + 1)) d.gates)) (slice_get l.traces);
      events : Covers (λ k u. has k (take l.i l.gates) && pends_at next k u) (noted l.events) (l.t + 1);
      kept : Keeps (noted l.fn.events) (noted l.events);
      early : (u : ℕ) → u < l.t + 1 → noted l.events u ≡ [];
      as_many : length l.states.items ≡ length d.gates;
      as_many_traces : length l.traces ≡ length d.gates;
    }
