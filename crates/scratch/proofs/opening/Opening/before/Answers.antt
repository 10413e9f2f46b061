use Rattle.std.proofs.Common.{◌∙◌, sym, subst, map, All}
use Rattle.gatestep.specs.Step.{initial}
use Rattle.gatestep.specs.Tasks.{PendingFrom}
use Rattle.design.specs.Keys.{netlist}
use Rattle.scratch.specs.kept.Tallies.{Counts}
use Rattle.scratch.proofs.Runs.{all_map}
use Rattle.scratch.proofs.opening.Opening.before.Goals as goal

pub returns : goal.returns
returns g c =
    let d = netlist c.args.design.now in
    record {
      states = c.parts-states.ensures.states ∙ c.resolve.ensures.states ∙ c.in_ok-moment.ensures.states;
      ready = subst (All (PendingFrom 0)) (sym (c.parts-states.ensures.states ∙ c.resolve.ensures.states ∙ c.in_ok-moment.ensures.states)) (all_map (PendingFrom 0) (λ _. initial) (λ gate event none. absurd (cc)) d.gates);
      values = c.parts-states.ensures.values ∙ c.in_ok-resolve.ensures.values;
      gates = c.in_ok-gates.ensures;
      counts = subst (λ ss. Counts d c.in_ok-tallies.tallies (map (λ s. s.current) ss)) c.as_slice.ensures.value c.in_ok-tallies.ensures;
    }
