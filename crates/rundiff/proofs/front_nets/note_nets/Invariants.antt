use Rattle.std.proofs.Common.{◌≡◌, ◌<◌, ◌≤◌, ℕ, suc, true, take}
use Rattle.event_queue.specs.kept.Noted.{noted}
use Rattle.design.specs.Keys.{netlist}
use Rattle.scratch.specs.kept.Places.{IsNotedWithin, Keeps}
use Rattle.rundiff.specs.kept.Noting.{net_moves}
use Rattle.rundiff.specs.kept.Places.{is_among}
use Rattle.rundiff.proofs.front_nets.note_nets.Given as goal

-- the nets so far are noted
abbrev pub invariant-loop-place : goal.invariant-loop-place
invariant-loop-place g l = record {
  next : (p u : ℕ) → is_among (take l.place-index l.nets) p ≡ true → l.t < u → net_moves g.S.Stepper.answer (netlist l.former.old.now) (netlist l.former.new.now) p u ≡ true → IsNotedWithin (noted l.queue) p (suc l.t) u;
  kept : Keeps (noted l.fn.queue) (noted l.queue);
  early : (u : ℕ) → u ≤ l.t → noted l.queue u ≡ noted l.fn.queue u;
}
