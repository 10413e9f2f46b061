use Rattle.std.proofs.Common.{◌≡◌, ◌<◌, ◌+◌, ◌-◌, length, sym, ap, ◌∙◌, set, arith}
use Rattle.std.proofs.lemmas.Grind.{common_steps}
use Rattle.floor.proofs.Standing.{count_of_pieces}
use Rattle.floor.proofs.Changes.{out_of, out_not_all, answer_fits, after_answer, never_given}
use Rattle.floor.proofs.Finishing.{held, one_written}
use Rattle.floor.specs.kept.Pieces.{fail_reply, answer_reply, after, Answer, first_task}
use Rattle.floor.specs.declared.stage.Stage.TheVariants as stage
use Rattle.floor.proofs.floor.Floor.answer.Goals.{in-Some, in_default}
use Rattle.floor.proofs.floor.Floor.answer.Goals as goal

pub returns-clause-state : goal.returns-clause-state
returns-clause-state c =
    let ss = c.self.inside.stages.items in
    let n = c.self.inside.tasks in
    let k = c.args.number in
    let list = c.args.drivers.now in
    let ok = c.in_ok-piece.ensures.ok in
    let tasks : n ≡ c.args.self.now.tasks = ap (λ s. s.tasks) c.self.view_is in
    let count : length c.args.self.now.pieces ≡ length ss = ap (λ s. length s.pieces) (sym c.self.view_is) ∙ count_of_pieces _ _ 0 ss _ in
    let within = c.in_ok-piece.ensures.within in
    let below : k < length ss = omega arith in
    let long = c.if-drivers-piece.false in
    let first = c.in_ok-piece.ensures.first in
    let end = c.in_ok-piece.ensures.end in
    let fits : length list ≡ first_task c.args.self.now.tasks (length c.args.self.now.pieces) (k + 1) - first_task c.args.self.now.tasks (length c.args.self.now.pieces) k = grind (arith, common_steps) in
    let reply = answer_fits c.args.self.now k list ok fits in
    elim c.match-self.branch [
      | in-Some w ↦
          let p = length ss in
          let begins : first_task n p k ≡ c.in_ok-piece.piece.first = grind (arith, common_steps) in
          let ends : first_task n p (k + 1) ≡ c.in_ok-piece.piece.end = grind (arith, common_steps) in
          let held_long : length list ≡ first_task n p (k + 1) - first_task n p k = rw (begins, ends) long in
          ap (λ it. held (λ v. v.items) it.tasks (set it.stages.items k stage.Answered) it.answers) w.self-inside-is
          ∙ one_written (λ v. v.items) n ss c.self.inside.answers w.in-Some.answers w.write.new.answers k list w.in-Some.is c.self.invariant.whole below held_long (rw (begins, ends) w.write.ensures)
          ∙ sym (ap (λ s. after s (Answer k list)) (sym c.self.view_is) ∙ after_answer _ k list (ap (λ s. answer_reply s k list) c.self.view_is ∙ reply))
      | in_default w ↦
          let out = out_of n (length ss) ss _ k (ap (λ s. fail_reply s k) c.self.view_is ∙ ok) in
          absurd (never_given c.self.inside.answers c.self.invariant.given (out_not_all ss k out) w.in_default.is)
    ]
