use Rattle.std.proofs.Common.{◌≡◌, ◌∙◌, ◌/◌, ◌+◌, ap, suc, sym, subst, slice_get, length, unwrap_or, arith}
use Rattle.catalog.specs.declared.ascending.TheConstants.{STRIDE}
use Rattle.catalog.proofs.GapLemmas.{AreAround, marks_around}
use Rattle.catalog.proofs.ascending.Ascending.count.Goals as goal

pub search-requires : goal.search-requires
search-requires c =
    let limit = c.args.limit in
    let mark = limit / STRIDE in
    let numbers = c.args.self.now.numbers.items in
    let marks = c.args.self.now.marks.items in
    let next : mark + 1 ≡ suc mark = omega arith in
    let low : c.unwrap_or-low.result ≡ unwrap_or (slice_get marks mark) 0 =
    c.unwrap_or-low.ensures ∙ ap (λ o. unwrap_or o 0) (c.mark_at.ensures ∙ ap (λ l. slice_get l mark) c.deref.ensures.value) in
    let high : c.unwrap_or-high.result ≡ unwrap_or (slice_get marks (suc mark)) (length numbers) =
    c.unwrap_or-high.ensures
    ∙ ap (λ o. unwrap_or o c.len.result) (c.mark_at-2.ensures ∙ ap (λ l. slice_get l (mark + 1)) c.deref-2.ensures.value ∙ ap (λ n. slice_get marks n) next)
    ∙ ap (λ n. unwrap_or (slice_get marks (suc mark)) n) c.len.ensures in
    let around = marks_around numbers marks mark limit c.args.self.now.marked (omega arith) (omega arith) in
    let are : AreAround c.as_slice.result.now limit c.unwrap_or-low.result c.unwrap_or-high.result =
    subst (λ l. AreAround l limit c.unwrap_or-low.result c.unwrap_or-high.result) (sym c.as_slice.ensures.value)
    (subst (λ n. AreAround numbers limit n c.unwrap_or-high.result) (sym low) (subst (λ n. AreAround numbers limit (unwrap_or (slice_get marks mark) 0) n) (sym high) around)) in
    record { within = are.within; rising = are.rising; up_to = are.up_to; past = are.past }
