use Rattle.std.proofs.Common.{refl, []}
use Rattle.fourstate.specs.Values.{same_value}
use Rattle.gatestep.specs.Step.{advance}
use Rattle.design.specs.Netlist.{Netlist}
use Rattle.waveform.specs.Entries.{standing}
use Rattle.waveform.specs.kept.Timelines.{IsTimeline}
use Rattle.scratch.specs.Run.{value}
use Rattle.vcd.proofs.ListLemmas.{each_mapped}
use Rattle.vcd.proofs.waves.Waves.lawful.Goals as goal

pub returns-clause-timelines : goal.returns-clause-timelines
returns-clause-timelines c =
    let d : Netlist = c.self.inside.snapshot.now.design in
    rw (← c.self.view_is)
    (λ k below. each_mapped (IsTimeline same_value standing) _ d.nets k []
    (λ n. c.timeline_of_changes.ensures (value advance d n) (λ t. refl) d.horizon) below)
