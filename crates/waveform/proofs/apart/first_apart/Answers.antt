use Rattle.std.proofs.Common.{sym, ◌∙◌, ap}
use Rattle.waveform.specs.kept.Partings.{earlier}
use Rattle.waveform.proofs.Partings.{parting_at}
use Rattle.waveform.proofs.apart.first_apart.Goals as goal

pub returns : goal.returns
returns c =
    let there = parting_at c.args.changes.now c.args.other.now c.common_count-count.result c.common_count-count.ensures.parted in
    c.earlier.ensures ∙ ap (λ o. earlier o c.time_at-second.result) c.time_at-first.ensures ∙ ap (earlier _) c.time_at-second.ensures ∙ sym (c.common_count-count.ensures.alike ∙ there)
