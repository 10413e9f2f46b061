use Rattle.std.proofs.Common.{rules, ◌≡◌, ◌∙◌, ap₂, codes}
use Rattle.std.proofs.lemmas.Result.{IfOk-weaker}
use Rattle.clap.specs.Words.{app_of, rule_of, with_rule}
use Rattle.programs.specs.CommandLine.{of_program}
use Rattle.racer.specs.CommandLine.{command_line, design_rule, looks_rule, script_rule, viewers_rule}
use Rattle.racer.proofs.command_line.form.Goals as goal

pub returns : goal.returns
unfolding command_line
returns c =
    let design_is : rule_of c.positional-design.result ≡ design_rule = search rules in
    let script_is : rule_of c.positional-script.result ≡ script_rule = search rules in
    let viewers_is : rule_of c.positional-viewers.result ≡ viewers_rule = search rules in
    let looks_is : rule_of c.positional-looks.result ≡ looks_rule = search rules in
    let start_is : app_of c.program.result ≡ of_program (codes "gaterace") = c.program.ensures in
    let designed = c.in_ok-arg.ensures.shape (search rules) ∙ ap₂ with_rule start_is design_is in
    let timed = c.in_ok-arg-2.ensures.shape (search rules) ∙ ap₂ with_rule designed script_is in
    let staffed = c.in_ok-arg-3.ensures.shape (search rules) ∙ ap₂ with_rule timed viewers_is in
    IfOk-weaker c.arg-4.result _ _ (λ m h. h.shape (search rules) ∙ ap₂ with_rule staffed looks_is) c.arg-4.ensures
