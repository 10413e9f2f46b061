use Rattle.std.proofs.Common.{◌∙◌, ap}
use Rattle.waveform.specs.kept.Changes.{state_at}
use Rattle.base_tests.proofs.timelines.state_at.Goals as goal

pub returns : goal.returns
returns c =
    λ f n settled those before. c.at.ensures.value ∙ ap (λ entries. state_at entries c.args.t) those ∙ c.value_of_changes.ensures f settled c.args.t n before
