use Rattle.std.proofs.Common.{◌≡◌, suc, length, map}
use Rattle.design.specs.Connections.{to_net}
use Rattle.design.specs.Keys.{netlist}
use Rattle.waveform.specs.Changes.{wave_changes_below}
use Rattle.rundiff.specs.kept.Kept.{read_at}
use Rattle.rundiff.specs.kept.OldRuns.{HoldsEach}
use Rattle.rundiff.specs.kept.Places.{net_at}
use Rattle.rundiff.proofs.old_run.old_waves.Given as goal

-- those of the nets so far
abbrev pub invariant-loop-place : goal.invariant-loop-place
invariant-loop-place g l =
    let old = netlist l.former.old.now in let new = netlist l.former.new.now in
    record {
      count : length (map (λ wave. wave.now) l.waves.items) ≡ l.place;
      each : HoldsEach (map (λ wave. wave.now) l.waves.items) (λ p wave. wave ≡ wave_changes_below (read_at g.S.Stepper.answer old (to_net (net_at new p).name)) (suc old.horizon));
    }
