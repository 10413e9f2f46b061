use Rattle.std.proofs.Common.{◌≡◌, ◌∙◌, ap, sym, ℕ, map, arith}
use Rattle.std.proofs.lemmas.Grind.{common_steps}
use Rattle.std.specs.List.{flat_map}
use Rattle.std.proofs.lemmas.List.{nil_from_length}
use Rattle.gatestep.specs.Step.{Evaluation}
use Rattle.design.specs.Keys.{netlist}
use Rattle.scratch.specs.kept.Open.{asked_at}
use Rattle.scratch.proofs.Tasks.{answered}
use Rattle.scratch.proofs.asking.deal.Goals as goal
use Rattle.scratch.proofs.asking.deal.Goals.{then-not-is_empty+in_ok-step, else-not-is_empty}

pub weave-requires-clause-fresh : goal.weave-requires-clause-fresh
weave-requires-clause-fresh g c =
    let answer = g.S.Stepper.answer in let d = netlist c.args.present.now.design.now in let t = c.args.present.now.t in
    let tasks = c.find_open_tasks.new.tasks.items in let found = c.in_ok-find_open_tasks.ensures in
    let fresh : c.as_slice-fresh.result.now ≡ map (λ task. answer task t) tasks = c.as_slice-fresh.ensures.value ∙ elim c.if-not-is_empty.branch [
      | then-not-is_empty+in_ok-step w ↦ ap (λ (lists : _). lists.fresh.items) w.asking-is ∙ w.in_ok-step.ensures.answers ∙ ap (map (λ task. answer task t)) w.as_slice.ensures.value
      | else-not-is_empty w ↦
          ap (λ (lists : _). lists.fresh.items) w.asking-is ∙ c.clear.ensures.items
          ∙ ap (map (λ task. answer task t)) (sym (nil_from_length tasks (let off = w.if-not-is_empty.false in grind (arith, common_steps))))
    ] in
    fresh ∙ answered answer t tasks ∙ ap (map (λ (asked : Evaluation × ℕ). answer asked.0 asked.1)) (found.tasks ∙ ap (λ o. flat_map (asked_at o answer d t) c.args.gates.now) (sym found.same))
