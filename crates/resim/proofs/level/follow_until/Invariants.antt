use Rattle.std.proofs.Common.{◌-◌, ◌≡◌, ◌≤◌, ◌++◌}
use Rattle.design.specs.Keys.{netlist}
use Rattle.rundiff.specs.Dirty.{rework_below}
use Rattle.rundiff.specs.kept.Fronts.{IsFront}
use Rattle.resim.proofs.level.follow_until.Given as goal

-- the moments below `next` are done
abbrev pub invariant-loop-next : goal.invariant-loop-next
invariant-loop-next g l =
    let answer = g.S.Stepper.answer in
    let before = netlist l.fn.former.old.now in
    let now = netlist l.fn.former.new.now in
    record {
      front : IsFront answer before now l.front l.next;
      within : l.next ≤ l.end;
      asked : g.S.Stepper.asked l.stepper ≡ g.S.Stepper.asked l.fn.stepper ++ rework_below answer before now l.next;
      losses : g.S.Stepper.losses l.stepper ≡ g.S.Stepper.losses l.fn.stepper;
    }

abbrev pub decreases-loop-next : goal.decreases-loop-next
decreases-loop-next g l = l.end - l.next
