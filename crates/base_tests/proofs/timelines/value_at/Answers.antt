use Rattle.std.proofs.Common.{◌∙◌, ap, refl}
use Rattle.waveform.specs.Changes.{wave_at}
use Rattle.base_tests.proofs.timelines.value_at.Goals as goal

pub returns : goal.returns
returns c =
    λ f n those before. c.at.ensures.value ∙ ap (λ entries. wave_at entries c.args.t) those ∙ c.value_of_changes.ensures f (λ t. refl) c.args.t n before
