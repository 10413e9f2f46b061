use Rattle.std.proofs.Common.{◌≡◌, ◌-◌, ◌∙◌, sym, subst, take, drop, length, length-drop, arith}
use Rattle.std.proofs.lemmas.List.{take_all}
use Rattle.fourstate.specs.Values.{same_value}
use Rattle.gateline.proofs.Goes.{wave_goes_on}
use Rattle.gateline.proofs.reader.Reader.open.Goals as goal
use Rattle.gateline.specs.kept.Readers.{GoesOn}
use Rattle.waveform.specs.Changes.{wave_at}
use Rattle.waveform.specs.Entries.{standing}
use Rattle.waveform.specs.kept.Timelines.{IsTimeline}

pub returns : goal.returns
returns c =
    let changes = c.changes-changes.result.now in let n = c.count_until-count.result in let x = c.index-changes-count.result in let t = c.args.t in
    let count = c.count_until-count.ensures in
    let rest : take (length changes - n) (drop n changes) ≡ drop n changes = take_all (length changes - n) (drop n changes) (rw length-drop (omega arith)) in
    let timeline = subst (IsTimeline same_value standing) (sym c.changes-changes.ensures) c.last-last.ensures.timeline in
    let goes : GoesOn (wave_at changes) x.1 (drop n changes) t = wave_goes_on changes n t x timeline count.begun count.within count.until count.after c.index-changes-count.is in
    subst (λ w. GoesOn (wave_at w) c.behind.result.value c.behind.result.rest.now t) c.changes-changes.ensures
    (subst (λ v. GoesOn (wave_at changes) v c.behind.result.rest.now t) (sym (c.behind.ensures.value ∙ c.value.ensures))
    (subst (λ l. GoesOn (wave_at changes) x.1 l t) (sym (c.behind.ensures.rest ∙ rest)) goes))
