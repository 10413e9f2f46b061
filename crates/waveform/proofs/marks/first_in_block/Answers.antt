use Rattle.std.proofs.Common.{◌≡◌, true, not, get_or, sym}
use Rattle.waveform.specs.kept.Marks.{mark_of}
use Rattle.waveform.proofs.Marking.{none_in_block, not_true}
use Rattle.waveform.proofs.marks.first_in_block.Goals as goal

pub returns-then-is_without : goal.returns-then-is_without
returns-then-is_without g c =
    let sample = g.V.Sample in
    let laws = g.met.V.Sample in
    let said : not (get_or c.args.marks.now (mark_of c.args.from (sample.digit c.args.value)) true) ≡ true = cc in
    let without = not_true (get_or c.args.marks.now (mark_of c.args.from (sample.digit c.args.value)) true) said in
    sym (none_in_block sample.stored sample.digit sample.same laws.same_is_equal c.args.marks.now c.args.entries.now c.requires.marks c.args.from c.args.end c.args.value
    c.requires.block c.requires.order without)
