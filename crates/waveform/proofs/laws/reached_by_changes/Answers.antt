use Rattle.waveform.proofs.Drifts.{Drifts}
use Rattle.waveform.proofs.Functions.{reached_from}
use Rattle.waveform.proofs.laws.reached_by_changes.Goals as goal

pub returns : goal.returns
returns g c =
    let sample = g.V.Sample in
    let laws = g.met.V.Sample in
    let drifts : Drifts sample.same sample.drift = record { same_is_equal = laws.same_is_equal; equal_is_same = laws.equal_is_same; drift_twice = laws.drift_twice } in
    reached_from drifts
