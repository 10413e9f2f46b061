use Rattle.std.proofs.Common.{◌∙◌, ◌-◌, ap, sym, arith}
use Rattle.waveform.specs.Timelines.{entries_until, changes_below}
use Rattle.rundiff.proofs.NamedLines.{keeps_none}
use Rattle.rundiff.proofs.Putting.{if_mapped}
use Rattle.rundiff.proofs.Tasks.{next_one}
use Rattle.rundiff.proofs.finishing.whole.Goals as goal

pub returns-in-None : goal.returns-in-None
returns-in-None g c =
    let same = g.V.Sample.same in let drift = g.V.Sample.drift in
    let end = c.args.end in
    let some = c.requires.some in
    if_mapped c.fork.result _ _ c.fork.ensures.entries
    (λ line is f former settled_f settled_former stored keeps.
    is
    ∙ ap (λ entries. entries_until entries (end - 1)) stored
    ∙ c.cut_of_changes.ensures former (end - 1) end (omega arith)
    ∙ ap (changes_below same drift former) (next_one end some)
    ∙ sym (c.same_changes.ensures f former end (keeps_none same drift f former end c.args.patch c.in-None.is keeps)))
