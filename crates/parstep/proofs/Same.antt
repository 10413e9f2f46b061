-- When two evaluations are the same.
use Rattle.std.proofs.Common.{◌≡◌}
use Rattle.gatestep.specs.Step.{Evaluation}

pub same_parts : (a b : Evaluation) → a.kind ≡ b.kind → a.delays ≡ b.delays → a.state ≡ b.state → a.inputs ≡ b.inputs → a ≡ b
same_parts a b kind delays state inputs = λ i. record { kind = kind i; delays = delays i; state = state i; inputs = inputs i }
