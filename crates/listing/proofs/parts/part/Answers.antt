use Rattle.std.proofs.Common.{◌≡◌, Some, None, sym, ◌∙◌, arith}
use Rattle.std.proofs.lemmas.Grind.{common_steps}
use Rattle.waveform.specs.Timelines.{first_after}
use Rattle.listing.proofs.PartLemmas.{part_late, part_none, part_there}
use Rattle.listing.proofs.parts.part.Goals as goal

pub returns-then-time-end : goal.returns-then-time-end
returns-then-time-end g c =
    let wave = c.args.wave.now in
    let found : first_after wave c.args.start ≡ Some (c.in-Some.time, c.in-Some.field-0-1) = sym c.next_after.ensures.found ∙ c.in-Some.is in
    let there = part_there wave c.args.start c.args.end (c.in-Some.time, c.in-Some.field-0-1) c.requires found c.if-time-end.true in
    rw there (grind (arith, common_steps))

pub returns-else-time-end : goal.returns-else-time-end
returns-else-time-end g c =
    let wave = c.args.wave.now in
    let found : first_after wave c.args.start ≡ Some (c.in-Some.time, c.in-Some.field-0-1) = sym c.next_after.ensures.found ∙ c.in-Some.is in
    let late = part_late wave c.args.start c.args.end (c.in-Some.time, c.in-Some.field-0-1) c.requires found c.if-time-end.false in
    rw late (grind (arith, common_steps))

pub returns-in_default : goal.returns-in_default
returns-in_default g c =
    let wave = c.args.wave.now in
    let none : first_after wave c.args.start ≡ None = sym c.next_after.ensures.found ∙ c.in_default.is in
    let nothing = part_none wave c.args.start c.args.end none in
    rw nothing (grind (arith, common_steps))
