use Rattle.std.proofs.Common.{◌≡◌, ◌++◌, List, ℕ, take}
use Rattle.design.specs.Keys.{netlist}
use Rattle.scratch.specs.kept.Kept.{currents_of}
use Rattle.scratch.specs.kept.Nets.{Part}
use Rattle.scratch.specs.kept.Tallies.{Counts}
use Rattle.scratch.proofs.resolving.resolve_nets.Given as goal

-- the nets at the places so far are done, and the drivers are counted
abbrev pub invariant-loop-place : goal.invariant-loop-place
invariant-loop-place g l =
    let d = netlist l.setting.design.now in let t = l.setting.t in
    record {
      part : Part g.S.Stepper.answer d t (l.fn.changed.items ++ take l.place-index l.nets) l.values.items l.waves l.changed.items;
      counts : Counts d l.tallies (currents_of l.states t);
      grows : (more : List ℕ) × (l.changed.items ≡ l.fn.changed.items ++ more);
    }
