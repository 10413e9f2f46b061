use Rattle.std.proofs.Common.{◌∙◌, codes, map, sym}
use Rattle.app.proofs.WordLemmas.{nothing_asked, values_refused}
use Rattle.app.proofs.cause.complaint_of.Goals as goal

-- src/cause.rt:22:24
pub complaint_of_values-requires : goal.complaint_of_values-requires
complaint_of_values-requires g c =
    let ok = c.in-Ok.ensures.ok in
    let words = map g.S.AsStr.text c.args.words.now in
    values_refused words _ _ _ _ (nothing_asked words ok.0 c.requires) (sym (ok.1 (codes "design")) ∙ sym c.get_str.ensures)
    (sym (ok.1 (codes "horizon")) ∙ sym c.get_str-in-Ok.ensures) (sym (ok.1 (codes "workers")) ∙ sym c.get_str-in-Ok-2.ensures)
    (sym (ok.1 (codes "delay")) ∙ sym c.get_str-in-Ok-3.ensures)
