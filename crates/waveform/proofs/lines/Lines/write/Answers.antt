use Rattle.std.proofs.Common.{◌≡◌, ◌∙◌, ap, map}
use Rattle.std.proofs.lemmas.Result.{on_ok_weaker}
use Rattle.waveform.specs.kept.Notes.{noted, with_notes}
use Rattle.waveform.proofs.lines.Lines.write.Goals as goal

pub returns : goal.returns
returns g c =
    let sample = g.V.Sample in
    let was = c.self.inside.lines.items in
    let now = c.write_notes-written.new.lines.items in
    let whole : now ≡ with_notes was (map (noted sample.stored) c.as_slice.result.now) →
    with_notes now (map (noted sample.stored) c.clear.new.self.items) ≡ c.args.self.now =
    λ all. ap (λ ns. with_notes now (map (noted sample.stored) ns)) c.clear.ensures.items ∙ all
    ∙ ap (λ ns. with_notes was (map (noted sample.stored) ns)) c.as_slice.ensures.value ∙ c.self.view_is in
    on_ok_weaker c.write_notes-written.result whole c.write_notes-written.ensures
