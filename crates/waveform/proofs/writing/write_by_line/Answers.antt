use Rattle.std.proofs.Common.{◌≡◌, ◌∙◌, ◌<◌, subst, sym, All, length}
use Rattle.waveform.proofs.Written.{places_within}
use Rattle.waveform.proofs.writing.write_by_line.Goals as goal

pub link_notes-requires-clause-within : goal.link_notes-requires-clause-within
link_notes-requires-clause-within g c =
    let sample = g.V.Sample in
    let lines = c.args.lines.now in
    let as_many : length lines.items ≡ c.len.result = sym {b = length lines.items} (c.len.ensures ∙ lines.ok.0) in
    subst (λ count. All (λ note. note.0 < count) c.args.notes.now) as_many
    (places_within sample.same sample.drift sample.can_store sample.stored lines.items c.args.notes.now c.requires.noted)
