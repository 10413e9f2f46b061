use Rattle.std.proofs.Common.{rules, ◌≡◌, ◌∙◌, ap₂, codes}
use Rattle.std.proofs.lemmas.Result.{IfOk-weaker}
use Rattle.clap.specs.Words.{app_of, rule_of, with_rule}
use Rattle.programs.specs.CommandLine.{of_program}
use Rattle.app.specs.CommandLine.{command_line, delay_rule, design_rule, horizon_rule, workers_rule}
use Rattle.app.proofs.command_line.form.Goals as goal

pub returns : goal.returns
unfolding command_line
returns c =
    let design_is : rule_of c.positional-design.result ≡ design_rule = search rules in
    let horizon_is : rule_of c.option_of-horizon.result ≡ horizon_rule = search rules in
    let workers_is : rule_of c.option_of-workers.result ≡ workers_rule = search rules in
    let delay_is : rule_of c.option_of-delay.result ≡ delay_rule = search rules in
    let start_is : app_of c.program.result ≡ of_program (codes "gatebench") = c.program.ensures in
    let designed = c.in_ok-arg.ensures.shape (search rules) ∙ ap₂ with_rule start_is design_is in
    let timed = c.in_ok-arg-2.ensures.shape (search rules) ∙ ap₂ with_rule designed horizon_is in
    let staffed = c.in_ok-arg-3.ensures.shape (search rules) ∙ ap₂ with_rule timed workers_is in
    IfOk-weaker c.arg-4.result _ _ (λ m h. h.shape (search rules) ∙ ap₂ with_rule staffed delay_is) c.arg-4.ensures
