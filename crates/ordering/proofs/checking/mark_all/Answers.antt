use Rattle.std.proofs.Common.{◌∙◌, ap, refl, Bool, length}
use Rattle.std.specs.Prelude.{◌&&◌}
use Rattle.std.specs.List.{list_all}
use Rattle.waveform.specs.Timelines.{moments}
use Rattle.scratch.specs.kept.Places.{has}
use Rattle.ordering.proofs.Marks.{all_among}
use Rattle.ordering.proofs.checking.mark_all.Goals as goal

pub returns-then-not-mark_each : goal.returns-then-not-mark_each
returns-then-not-mark_each c =
    ap (λ (b : Bool). b && list_all (λ k. has k c.args.order.now) (moments (length c.args.marks.now))) c.if-not-mark_each.ensures.follow

pub returns : goal.returns
returns c =
    c.are_all_marked.ensures ∙ all_among c.mark_each.new.marks c.args.order.now (c.if-not-mark_each.ensures.marked refl)
    ∙ ap (λ n. list_all (λ k. has k c.args.order.now) (moments n)) c.mark_each.auto.marks
    ∙ ap (λ (b : Bool). b && list_all (λ k. has k c.args.order.now) (moments (length c.args.marks.now))) c.if-not-mark_each.ensures.follow
