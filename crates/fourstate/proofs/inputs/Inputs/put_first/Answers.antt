use Rattle.std.proofs.Common.{◌≡◌, ◌∙◌, sym, ap}
use Rattle.fourstate.specs.kept.Summaries.{next_summary, summary_of}
use Rattle.fourstate.proofs.Planes.{put_are}
use Rattle.fourstate.proofs.inputs.Inputs.put_first.Goals as goal

pub invariant_of-self : goal.invariant_of-self
invariant_of-self c =
    let v = c.args.value in
    put_are c.self.inside v c.low_bit.result c.high_bit.result c.next_summary-summary.result c.self.invariant (rw c.self.view_is c.requires) c.low_bit.ensures c.high_bit.ensures
    (c.next_summary-summary.ensures ∙ ap (λ n. next_summary n v) c.summary.ensures.value ∙ ap (λ values. next_summary (summary_of values) v) (sym c.self.view_is))
