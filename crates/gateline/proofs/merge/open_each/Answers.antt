use Rattle.std.proofs.Common.{◌+◌, sym, subst, map, take}
use Rattle.std.proofs.lemmas.List.{take_all}
use Rattle.gateline.proofs.Stands.{stand_next}
use Rattle.gateline.proofs.merge.open_each.Goals as goal
use Rattle.gateline.specs.kept.Readers.{StandAt}
use Rattle.waveform.specs.Changes.{wave_at}

pub loop-wave-preserved : goal.loop-wave-preserved
loop-wave-preserved c =
    let waves = c.args.waves.now in let i = c.loop-wave.wave-index in let x = c.wave-item.result in
    subst (λ readers. StandAt (map wave_at (take (i + 1) waves)) readers 0) (sym c.in_ok-push.ensures.items)
    (stand_next wave_at waves i x c.loop-wave.readers.items c.open.result 0 c.loop-wave-test.true c.wave-item.is c.loop-wave.invariant c.open.ensures)

pub returns : goal.returns
returns c =
    subst (λ waves. StandAt (map wave_at waves) c.loop-wave.readers.items 0)
    (take_all c.loop-wave.wave-index c.args.waves.now c.loop-wave-test.false)
    c.loop-wave.invariant
