use Rattle.std.proofs.Common.{◌≡◌, ◌<◌, ◌≤◌, ◌+◌, ℕ, true, take}
use Rattle.event_queue.specs.kept.Noted.{noted}
use Rattle.design.specs.Keys.{netlist}
use Rattle.scratch.specs.kept.Places.{IsNotedWithin, Keeps, has, point_at}
use Rattle.scratch.proofs.stirring.note_next_points.Given as goal

-- the next points of the nets so far
abbrev pub invariant-loop-net : goal.invariant-loop-net
invariant-loop-net l =
    record {
      next : (m u : ℕ) → has m (take l.net-index l.nets) ≡ true → l.t < u → point_at (netlist l.design).nets m u ≡ true → IsNotedWithin (noted l.points) m (l.t + 1) u;
      kept : Keeps (noted l.fn.points) (noted l.points);
      early : (u : ℕ) → u ≤ l.t → noted l.points u ≡ noted l.fn.points u;
    }
