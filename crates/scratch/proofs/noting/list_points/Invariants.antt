use Rattle.std.proofs.Common.{◌≡◌, ◌<◌, ◌≤◌, ◌+◌, ℕ, true, []}
use Rattle.event_queue.specs.kept.Noted.{noted}
use Rattle.design.specs.Keys.{netlist}
use Rattle.scratch.specs.kept.Places.{IsNotedWithin, point_at}
use Rattle.scratch.proofs.noting.list_points.Given as goal

-- the points of the nets so far
abbrev pub invariant-loop-place : goal.invariant-loop-place
invariant-loop-place l =
    record {
      next : (m u : ℕ) → m < l.place → l.t < u → point_at (netlist l.design).nets m u ≡ true → IsNotedWithin (noted l.points) m (l.t + 1) u;
      early : (u : ℕ) → u ≤ l.t → noted l.points u ≡ [];
    }
