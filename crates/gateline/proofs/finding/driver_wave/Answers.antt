use Rattle.std.proofs.Common.{◌∙◌, ap, [], ◌∷◌}
use Rattle.gatestep.specs.Step.{State}
use Rattle.gateline.proofs.finding.driver_wave.Goals as goal

pub append_currents-requires-clause-wave : goal.append_currents-requires-clause-wave
append_currents-requires-clause-wave c =
    c.in_ok-wave.ensures ∙ ap (λ v. (0, v) ∷ []) (c.current.ensures ∙ ap (λ (s : State). s.current) c.at.ensures.value)
