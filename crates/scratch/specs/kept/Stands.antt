-- What stands between two moments of a run that skips the moments at which nothing happens.
use Rattle.std.specs.Prelude.{◌≡◌, ◌<◌, ◌-◌, ◌+◌, ◌&&◌, ℕ, [], map, not, All}
use Rattle.event_queue.specs.kept.Noted.{noted}
use Rattle.gatestep.specs.Step.{State, Evaluation}
use Rattle.gatestep.specs.Tasks.{PendingFrom}
use Rattle.design.specs.Netlist.{Netlist}
use Rattle.waveform.specs.kept.Changes.{trace_below}
use Rattle.scratch.specs.kept.Kept.{currents_of}
use Rattle.scratch.specs.kept.Places.{Announces, Covers, has, passing, pends_at, point_at}
use Rattle.scratch.specs.kept.Recorded.{recorded_below}
use Rattle.scratch.specs.Run.{state_after, state_before, value}
use Rattle.scratch.specs.kept.Tallies.{Counts}
use Rattle.scratch.specs.Work.{is_stirred}
use Rattle.scratch.specs.declared.engine.Engine.{Engine}
use Rattle.scratch.specs.declared.opening.Opening.{Opening}

-- the moments below n are done, n not 0: each list is as the run has it, and what is still to happen is noted
pub record Stands (answer : Evaluation → ℕ → State) (d : Netlist) (e : Engine) (n : ℕ) : Type 0 where
  pub begun : 0 < n
  pub states : e.states.items ≡ map (state_before answer d n) d.gates
  pub values : e.values.items ≡ map (λ x. value answer d x (n - 1)) d.nets
  pub waves : e.waves ≡ map (λ x. recorded_below answer d x n) d.nets
  pub traces : e.traces ≡ map (λ g. trace_below (state_after answer d g) n) d.gates
  pub events : Covers (pends_at e.states.items) (noted e.events) n
  pub points : Announces (point_at d.nets) (noted e.points) n
  pub no_early_event : (t : ℕ) → t < n → noted e.events t ≡ []
  pub no_early_point : (t : ℕ) → t < n → noted e.points t ≡ []
  pub counts : Counts d e.tallies (map (λ s. s.current) e.states.items)

-- the moments below t are done, t not 0, and so are the nets at t; the gates that are stirred at t are known, in no order
pub record AreFound (answer : Evaluation → ℕ → State) (d : Netlist) (e : Engine) (t : ℕ) : Type 0 where
  pub begun : 0 < t
  pub states : e.states.items ≡ map (state_before answer d t) d.gates
  pub ready : All (PendingFrom t) e.states.items
  pub values : e.values.items ≡ map (λ x. value answer d x t) d.nets
  pub waves : e.waves ≡ map (λ x. recorded_below answer d x (t + 1)) d.nets
  pub traces : e.traces ≡ map (λ g. trace_below (state_after answer d g) t) d.gates
  pub gates : (k : ℕ) → has k e.gates ≡ has k (passing (λ g. is_stirred answer d g t) 0 d.gates)
  pub events : Covers (λ k u. not (has k e.gates) && pends_at e.states.items k u) (noted e.events) (t + 1)
  pub points : Announces (point_at d.nets) (noted e.points) (t + 1)
  pub no_early_event : (u : ℕ) → u < t + 1 → noted e.events u ≡ []
  pub no_early_point : (u : ℕ) → u < t + 1 → noted e.points u ≡ []
  pub counts : Counts d e.tallies (currents_of e.states.items t)

-- and they are in order
pub record IsStirred (answer : Evaluation → ℕ → State) (d : Netlist) (e : Engine) (t : ℕ) : Type 0 where
  pub found : AreFound answer d e t
  pub in_order : e.gates ≡ passing (λ g. is_stirred answer d g t) 0 d.gates

-- the nets at 0 are done, and no gate, all of which are stirred
pub record IsOpening (answer : Evaluation → ℕ → State) (d : Netlist) (o : Opening) : Type 0 where
  pub states : o.states.items ≡ map (state_before answer d 0) d.gates
  pub ready : All (PendingFrom 0) o.states.items
  pub values : o.values.items ≡ map (λ x. value answer d x 0) d.nets
  pub gates : o.gates.items ≡ passing (λ g. is_stirred answer d g 0) 0 d.gates
  pub counts : Counts d o.tallies (map (λ s. s.current) o.states.items)
