use Rattle.std.proofs.Common.{◌≡◌, refl, suc, add-one, arith}
use Rattle.std.proofs.lemmas.Grind.{common_steps}
use Rattle.std.proofs.lemmas.List.{map-append}
use Rattle.gatestep.specs.Step.{initial}
use Rattle.gatestep.specs.Tasks.{PendingFrom}
use Rattle.design.specs.Keys.{netlist}
use Rattle.scratch.proofs.Runs.{all_map}
use Rattle.scratch.proofs.plain.values.Goals as goal

pub loop-t-init : goal.loop-t-init
loop-t-init g c =
    let gates = (netlist c.args.design.now).gates in
    record {
      states = c.in_ok-moment.ensures.states;
      ready = rw c.in_ok-moment.ensures.states (all_map (PendingFrom 0) (λ _. initial) (λ gate event none. absurd (cc)) gates);
      rows = rw c.new-rows.ensures.items refl;
    }

pub loop-t-preserved : goal.loop-t-preserved
loop-t-preserved g c =
    record {
      states = c.in_ok-pass.ensures.states;
      ready = c.in_ok-pass.ensures.ready;
      rows = rw (add-one, c.in_ok-push_row.ensures, c.loop-t.invariant.rows, map-append, c.as_slice.ensures.value, c.in_ok-pass.ensures.values) refl;
    }

pub returns : goal.returns
returns g c =
    let at_end : c.loop-t.t ≡ suc (netlist c.args.design.now).horizon = grind (arith, common_steps) in
    rw (c.loop-t.invariant.rows, at_end) refl
