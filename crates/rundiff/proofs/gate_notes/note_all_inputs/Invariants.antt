use Rattle.std.proofs.Common.{◌≡◌, ◌<◌, ◌≤◌, ℕ, suc, true, take, nat_cmp}
use Rattle.std.specs.BTreeSet.{contains}
use Rattle.event_queue.specs.kept.Noted.{noted}
use Rattle.design.specs.Keys.{netlist}
use Rattle.rundiff.specs.kept.Noting.{input_moves}
use Rattle.rundiff.specs.kept.Places.{is_among}
use Rattle.scratch.specs.kept.Places.{IsNotedWithin, Keeps}
use Rattle.rundiff.proofs.gate_notes.note_all_inputs.Given as goal

-- the inputs of the gates so far are noted
abbrev pub invariant-loop-place : goal.invariant-loop-place
invariant-loop-place g l =
    record {
      next : (p u : ℕ) → is_among (take l.place-index l.places) p ≡ true → l.t < u → input_moves g.S.Stepper.answer (netlist l.former.old.now) (netlist l.former.new.now) (contains nat_cmp l.live) p u ≡ true →
          IsNotedWithin (noted l.queue) p (suc l.t) u;
      kept : Keeps (noted l.fn.queue) (noted l.queue);
      early : (u : ℕ) → u ≤ l.t → noted l.queue u ≡ noted l.fn.queue u;
    }
