use Rattle.std.proofs.Common.{Bool, ap, ◌∙◌}
use Rattle.session.specs.Standing.{SessionState}
use Rattle.session.specs.ToolCommands.{request_by}
use Rattle.session.proofs.AnswerLemmas.{ends_naming}
use Rattle.session.proofs.ToolLemmas.{diff_plain}
use Rattle.session.proofs.machine.Machine.answer.Goals as goal

pub answer_plainly-requires : goal.answer_plainly-requires
answer_plainly-requires g c =
    diff_plain c.in-Plain.command _ c.args.bytes.now
    (c.in-Plain.ensures ∙ ap (λ (tools : Bool). request_by tools c.args.bytes.now) c.is_some.ensures
    ∙ ap (λ (s : SessionState). request_by s.tools c.args.bytes.now) c.self.view_is)

pub returns-in-Naming-clause-ends : goal.returns-in-Naming-clause-ends
returns-in-Naming-clause-ends g c =
    c.is_quit-in-Naming.ensures
    ∙ ends_naming c.in-Naming.command c.in-Naming.words c.args.self.now.tools c.args.bytes.now
    (c.in-Naming.ensures ∙ ap (λ (tools : Bool). request_by tools c.args.bytes.now) c.is_some.ensures ∙ ap (λ (s : SessionState). request_by s.tools c.args.bytes.now) c.self.view_is)
