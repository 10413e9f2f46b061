use Rattle.std.proofs.Common.{ap, sym, ◌∙◌}
use Rattle.hub.proofs.Adding.{adds}
use Rattle.hub.proofs.history.Beginning.add.Goals as goal

pub compare_exchange-found-requires : goal.compare_exchange-found-requires
compare_exchange-found-requires g c =
    let word = c.requires.count in
    let offer = c.plain-offer.ensures in
    let pen = c.no_pen-pen.ensures in (
      ap (λ w. w.tracked) word,
      c.self.invariant.1 ∙ sym (ap (λ w. w.book) word),
      pen.0 ∙ (c.self.invariant.1 ∙ sym (ap (λ w. w.book) word)),
      offer.0,
      rw (ap (λ w. w.key) word, pen.1, offer.1, offer.3) (adds c.self.inside.reached.log c.args.entry.now c.self.inside.len (sym c.self.invariant.0)),
    )
