use Rattle.std.proofs.Common.{◌≡◌, ◌++◌, ◌∙◌, ap, map, subst, sym, Result, Ok, Err, MatchResult, All, add-one, inr}
use Rattle.gatestep.specs.Record.{at_moment}
use Rattle.gatestep.specs.Tasks.{PendingFrom}
use Rattle.design.specs.Keys.{netlist}
use Rattle.event_queue.proofs.Changes.{by_ok}
use Rattle.scratch.specs.Run.{evaluation_at, net_at, state_before}
use Rattle.scratch.proofs.Moments.{evaluations_are, map_twice, task_states}
use Rattle.scratch.proofs.Lists.{on_ok}
use Rattle.scratch.proofs.moment.Moment.pass.Goals as goal

-- what holds anyway, and what follows of it on an `Err`
either : {A E P Q : Type 0} (r : Result A E) → P → (P → Q) → MatchResult r (λ _. P) (λ _. Q)
either (Ok x) p follows = p
either (Err e) p follows = follows p

pub step-requires-clause-ready : goal.step-requires-clause-ready
step-requires-clause-ready g c =
    rw c.in_ok-find_tasks.ensures
    (task_states (PendingFrom c.args.t) c.as_slice.result.now c.args.wiring.now.cells.items c.as_slice-2.result.now
    (subst (All (PendingFrom c.args.t)) (sym (c.as_slice-2.ensures.value ∙ c.resolve.ensures.states)) c.requires.ready))

pub returns : goal.returns
returns g c =
    let d = netlist c.args.design.now in
    let answer = g.S.Stepper.answer in
    let before = state_before answer d c.args.t in
    let values : c.as_slice.result.now ≡ map (λ n. net_at d before n c.args.t) d.nets = c.as_slice.ensures.value ∙ c.in_ok-resolve.ensures.values in
    let states : c.as_slice-2.result.now ≡ map before d.gates = c.as_slice-2.ensures.value ∙ c.resolve.ensures.states ∙ c.requires.states in
    let tasks : c.find_tasks.new.out.items ≡ map (λ g. evaluation_at d before g c.args.t) d.gates =
    c.in_ok-find_tasks.ensures
    ∙ evaluations_are d before c.args.t c.as_slice.result.now c.args.wiring.now.cells.items c.as_slice-2.result.now values c.requires.wired.cells states in
    record {
      values = on_ok c.step.result (c.step.ensures.values ∙ c.in_ok-resolve.ensures.values);
      states = by_ok c.step.result c.step.ensures.states (λ answers.
          rw add-one (answers ∙ ap (map (λ task. answer task c.args.t)) tasks ∙ map_twice (λ g. evaluation_at d before g c.args.t) (λ task. answer task c.args.t) d.gates));
      ready = c.step.ensures.later;
      asked = either c.step.result (c.step.ensures.asked ∙ ap (λ l. g.S.Stepper.asked c.args.stepper.now ++ at_moment c.args.t l) tasks) inr;
      lost = c.step.ensures.lost;
    }
