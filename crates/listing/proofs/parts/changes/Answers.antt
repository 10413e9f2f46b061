use Rattle.std.proofs.Common.{◌≡◌, Some, None, sym, ◌∙◌}
use Rattle.waveform.specs.Timelines.{first_after}
use Rattle.listing.proofs.PartLemmas.{more_there, no_more}
use Rattle.listing.proofs.parts.changes.Goals as goal

pub returns-in-Some : goal.returns-in-Some
returns-in-Some c =
    let wave = c.args.wave.now in
    let found : first_after wave c.args.after ≡ Some (c.in-Some.time, c.in-Some.field-0-1) = sym c.next_after.ensures.found ∙ c.in-Some.is in
    sym (more_there wave c.args.after c.args.end (c.in-Some.time, c.in-Some.field-0-1) c.requires found)

pub returns-in-None : goal.returns-in-None
returns-in-None c =
    let wave = c.args.wave.now in
    let none : first_after wave c.args.after ≡ None = sym c.next_after.ensures.found ∙ c.in-None.is in
    sym (no_more wave c.args.after c.args.end none)
