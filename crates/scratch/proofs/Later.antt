-- What stands does not depend on the horizon.
use Rattle.std.proofs.Common.{◌≡◌, ◌∙◌, subst, sym, ℕ, ◌-◌, map}
use Rattle.gatestep.specs.Step.{State, Evaluation}
use Rattle.design.specs.Keys.{Keyed, netlist}
use Rattle.design.specs.Netlist.{Netlist, with_horizon}
use Rattle.waveform.specs.Changes.{wave_changes_below}
use Rattle.waveform.specs.kept.Changes.{trace_below}
use Rattle.scratch.specs.kept.HorizonLaws.{after_same, before_same, value_same}
use Rattle.scratch.specs.kept.Kept.{IsWiring}
use Rattle.scratch.specs.kept.Recorded.{recorded_end}
use Rattle.scratch.specs.kept.Stands.{Stands}
use Rattle.scratch.specs.declared.engine.Engine.{Engine}
use Rattle.scratch.specs.declared.wiring.Wiring.{Wiring}

module _ (answer : Evaluation → ℕ → State) (e : Engine) (n : ℕ) where
  stands_with : (d : Netlist) (h : ℕ) → Stands answer (with_horizon d h) e n → Stands answer d e n
  stands_with d h s =
      record {
        begun = s.begun;
        states = s.states ∙ (λ i. map (λ g. before_same answer d h n g i) d.gates);
        values = s.values ∙ (λ i. map (λ x. value_same answer d h x i (n - 1)) d.nets);
        waves = s.waves ∙ (λ i. map (λ x. wave_changes_below (value_same answer d h x i) (recorded_end d x n)) d.nets);
        traces = s.traces ∙ (λ i. map (λ g. trace_below (after_same answer d h g i) n) d.gates);
        events = s.events;
        points = s.points;
        no_early_event = s.no_early_event;
        no_early_point = s.no_early_point;
        counts = record { nets = s.counts.nets; counted = s.counts.counted };
      }

  -- nor does it in a design that differs in its horizon alone
  pub stands_in : (former design : Keyed) → former ≡ record design { horizon = former.horizon } → Stands answer (netlist former) e n → Stands answer (netlist design) e n
  unfolding netlist
  stands_in former design same s = stands_with (netlist design) former.horizon (subst (λ k. Stands answer (netlist k) e n) same s)

-- nor do the connections
wired_with : (w : Wiring) (d : Netlist) (h : ℕ) → IsWiring d w → IsWiring (with_horizon d h) w
wired_with w d h is =
    record { cells = is.cells; drivers = is.drivers; outputs = is.outputs; driven = is.driven; readers = is.readers; kinds = is.kinds; lone_drivers = is.lone_drivers }

pub wired_in : (w : Wiring) (former design : Keyed) → former ≡ record design { horizon = former.horizon } → IsWiring (netlist design) w → IsWiring (netlist former) w
unfolding netlist
wired_in w former design same is = subst (λ k. IsWiring (netlist k) w) (sym same) (wired_with w (netlist design) former.horizon is)
