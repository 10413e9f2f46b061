use Rattle.session.proofs.AnswerLemmas.{commit_named, taken}
use Rattle.session.proofs.machine.Machine.commit_naming.Goals as goal

pub returns-in-Some : goal.returns-in-Some
returns-in-Some g c = λ ws.
    commit_named c.args.self.now _ _ c.as_slice.result.now ws _ _ (cc) (taken c.take.new.self c.self.view_is c.take.ensures.after) c.commit_edits_naming.ensures
