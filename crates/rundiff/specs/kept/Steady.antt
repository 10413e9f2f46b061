-- Nets of the new run that keep their value over a moment.
use Rattle.std.specs.Prelude.{◌≡◌, ◌⊎◌, ◌-◌, ◌<◌, Bool, true, ℕ, length}
use Rattle.gatestep.specs.Step.{State, Evaluation}
use Rattle.design.specs.Netlist.{Netlist, reads}
use Rattle.scratch.specs.Run.{value}
use Rattle.rundiff.specs.kept.Places.{gate_at, net_at}

-- a net has at t the value of the moment before, or all its readers are at these places
abbrev pub IsSteady : (Evaluation → ℕ → State) → (new : Netlist) → (found : ℕ → Bool) → ℕ → ℕ → Type 0
IsSteady answer new found t p =
    (value answer new (net_at new p) t ≡ value answer new (net_at new p) (t - 1))
    ⊎ ((q : ℕ) → q < length new.gates → reads (gate_at new q) (net_at new p).name ≡ true → found q ≡ true)
