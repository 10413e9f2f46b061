use Rattle.std.proofs.Common.{◌∙◌, None, Some, ap, unwrap_or}
use Rattle.std.proofs.lemmas.Option.{unwrap_or-slice_get}
use Rattle.std.specs.Option.{option_copied}
use Rattle.waveform.specs.kept.Tables.{line_at}
use Rattle.waveform.proofs.table.Table.get.Goals as goal

pub returns-in_err-get : goal.returns-in_err-get
returns-in_err-get g c =
    ap option_copied c.from_residual.ensures ∙ ap (λ o. unwrap_or o None) c.in_err-get.ensures
    ∙ unwrap_or-slice_get c.self.inside.lines c.args.key None ∙ ap (λ lines. line_at lines c.args.key) c.self.view_is

pub returns-in_err-line : goal.returns-in_err-line
returns-in_err-line g c =
    ap option_copied c.from_residual-in_err-line.ensures ∙ c.in_err-line.ensures.value ∙ ap (λ o. unwrap_or o None) c.in_ok-get.ensures
    ∙ unwrap_or-slice_get c.self.inside.lines c.args.key None ∙ ap (λ lines. line_at lines c.args.key) c.self.view_is

pub returns : goal.returns
returns g c =
    ap Some c.value.ensures ∙ c.in_ok-line.ensures.value ∙ ap (λ o. unwrap_or o None) c.in_ok-get.ensures
    ∙ unwrap_or-slice_get c.self.inside.lines c.args.key None ∙ ap (λ lines. line_at lines c.args.key) c.self.view_is
