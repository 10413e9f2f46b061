use Rattle.std.proofs.Common.{◌≡◌, ◌∙◌, ◌++◌, ◌∷◌, [], ◌<◌, Some, ◌+◌, length, refl, sym, ap, arith}
use Rattle.catalog.proofs.GapLemmas.{filtered_more, filtered_still}
use Rattle.catalog.proofs.places.without_gaps.Goals as goal
use Rattle.catalog.proofs.places.without_gaps.Goals.{in-Some+in_ok-push_copy, in_default}

pub loop-index-preserved : goal.loop-index-preserved
loop-index-preserved g c =
    let order = c.args.order.now in
    let index = c.loop-index.index in
    elim c.match-entry_at.branch [
      | in-Some+in_ok-push_copy w ↦
          let entry = w.in-Some.entry.now in
          w.closed-is ∙ w.in_ok-push_copy.ensures ∙ ap (λ l. l ++ Some entry ∷ []) c.loop-index.invariant ∙ sym (filtered_more order index (index + 1) entry refl (sym w.in-Some.ensures))
      | in_default w ↦
          let within : index < length order = omega arith in
          w.closed-is ∙ c.loop-index.invariant ∙ sym (filtered_still order index (index + 1) refl within (sym w.in_default.ensures))
    ]
