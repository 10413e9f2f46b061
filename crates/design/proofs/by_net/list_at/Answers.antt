use Rattle.std.proofs.Common.{[], ◌∙◌, ap, unwrap_or}
use Rattle.std.proofs.lemmas.Option.{unwrap_or-slice_get}
use Rattle.design.proofs.by_net.list_at.Goals as goal

pub returns-in-None : goal.returns-in-None
returns-in-None c =
    rw (← c.net.view_is) (ap (λ o. unwrap_or o []) c.in-None.ensures ∙ unwrap_or-slice_get c.args.lists.now c.net.inside.number [])
