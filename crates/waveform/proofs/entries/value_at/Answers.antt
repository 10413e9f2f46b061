use Rattle.std.proofs.Common.{◌≡◌, map, subst, sym, ap, ◌∙◌}
use Rattle.std.specs.Option.{option_map_or}
use Rattle.waveform.proofs.Drifts.{Drifts}
use Rattle.waveform.specs.Timelines.{value_by}
use Rattle.waveform.proofs.Splices.{value_can_store}
use Rattle.waveform.proofs.entries.value_at.Goals as goal

pub returns-clause-can : goal.returns-clause-can
returns-clause-can g c =
    let sample = g.V.Sample in
    let laws = g.met.V.Sample in
    let drifts : Drifts sample.same sample.drift = record { same_is_equal = laws.same_is_equal; equal_is_same = laws.equal_is_same; drift_twice = laws.drift_twice } in
    let entries = map sample.stored c.args.entries.now in
    let can = value_can_store drifts sample.can_store laws.stored_later sample.start entries c.args.t c.requires.timeline c.requires.stored in
    let value : c.drifted.result ≡ value_by sample.drift sample.start entries c.args.t =
    c.drifted.ensures ∙ sym (ap (λ o. option_map_or (λ e. sample.drift e.1 c.args.t) o sample.start) c.latest_entry.ensures) in
    λ low. subst (sample.can_store c.args.t) (sym value) (can low)
