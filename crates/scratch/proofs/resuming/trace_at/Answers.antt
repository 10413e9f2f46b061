use Rattle.std.proofs.Common.{◌∙◌, ap, sym}
use Rattle.design.specs.kept.Keys.{gate_by_key}
use Rattle.std.specs.Option.{option_copied}
use Rattle.scratch.proofs.Copies.{trace_there}
use Rattle.scratch.proofs.resuming.trace_at.Goals as goal

pub returns : goal.returns
returns c = λ answer is.
    let design = c.args.design.now in
    trace_there answer design c.args.run.now is c.args.place c.number.result (ap (gate_by_key design) c.number.ensures ∙ c.gate_key_at-key.ensures.gate)
    ∙ sym c.trace.ensures ∙ ap (λ o. option_copied o) c.in-Some.is
