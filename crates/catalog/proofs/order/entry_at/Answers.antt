use Rattle.std.proofs.Common.{◌∙◌, None, ap, unwrap_or}
use Rattle.std.proofs.lemmas.Option.{unwrap_or-slice_get}
use Rattle.std.specs.Option.{option_copied}
use Rattle.catalog.proofs.order.entry_at.Goals as goal

pub returns-in_err-get : goal.returns-in_err-get
returns-in_err-get g c =
    rw (← c.order.view_is) (ap option_copied c.from_residual.ensures ∙ ap (λ o. unwrap_or o None) c.in_err-get.ensures ∙ unwrap_or-slice_get c.order.inside.cells c.args.index None)

pub returns : goal.returns
returns g c =
    rw (← c.order.view_is) (c.as_ref.ensures.value ∙ ap (λ o. unwrap_or o None) c.in_ok-get.ensures ∙ unwrap_or-slice_get c.order.inside.cells c.args.index None)
