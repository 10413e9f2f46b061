use Rattle.std.proofs.Common.{◌≡◌, ◌∙◌, ap, sym}
use Rattle.vcd.specs.Changes.{change_line, value_line}
use Rattle.vcd.specs.kept.Waves.{wave_in}
use Rattle.vcd.proofs.WaveLemmas.{line_of, next_of, some_left}
use Rattle.vcd.proofs.upcoming.pass_change.Goals as goal

pub returns-clause-next : goal.returns-clause-next
returns-clause-next g c =
    rw c.split_at.ensures.back
    (next_of _ c.args.t c.args.left.now (c.lawful.ensures.timelines c.args.place c.requires.place) c.requires.moment c.requires.next)

pub returns-clause-text : goal.returns-clause-text
returns-clause-text g c =
    let line : change_line c.args.place (wave_in c.args.waves.now.waves c.args.place) c.args.t ≡ value_line c.args.place c.value.result =
    line_of c.args.place _ c.args.t c.args.left.now c.index-left-0.result (c.lawful.ensures.timelines c.args.place c.requires.place) c.requires.moment c.requires.next
    ∙ (ap (λ d. value_line c.args.place d.1) (sym c.index-left-0.is) ∙ ap (value_line c.args.place) (sym c.value.ensures)) in
    rw line c.value_line.ensures

pub bounds-left-0 : goal.bounds-left-0
bounds-left-0 g c = some_left _ c.args.t c.args.left.now c.requires.moment c.requires.next
