use Rattle.std.proofs.Common.{◌≡◌, ◌∙◌, ◌<◌, ◌/◌, ◌%◌, ap, sym, subst, length, arith, slice_index_or, get_or-set_same, get_or-set_other}
use Rattle.std.proofs.Math.ListN.{set}
use Rattle.std.specs.Vec.{with_item}
use Rattle.scratch.proofs.Among.{nat_itself}
use Rattle.rundiff.specs.declared.place_map.TheConstants.{PAGE}
use Rattle.rundiff.proofs.Pages.{number_is, other_numbers, page_here, page_is}
use Rattle.rundiff.proofs.place_map.set_number.Goals as goal

pub returns-clause-here : goal.returns-clause-here
returns-clause-here c =
    let place = c.args.place in
    let pages = c.args.pages.now.items in
    let old = c.index_mut-page.result.now in
    let new = with_item old (place % PAGE) c.args.number in
    let is = page_is pages (place / PAGE) old c.requires.page c.index_mut-page.ensures.value in
    let there : place % PAGE < length old.items = subst (λ row. place % PAGE < length row) (sym is) c.requires.there in
    number_is (set pages (place / PAGE) new) place ∙ ap (λ row. slice_index_or row (place % PAGE) 0) (page_here pages (place / PAGE) new c.requires.page)
    ∙ get_or-set_same old.items (place % PAGE) c.args.number 0 there

pub returns-clause-others : goal.returns-clause-others
returns-clause-others c =
    let place = c.args.place in
    let pages = c.args.pages.now.items in
    let old = c.index_mut-page.result.now in
    let new = with_item old (place % PAGE) c.args.number in
    let is = page_is pages (place / PAGE) old c.requires.page c.index_mut-page.ensures.value in
    λ q off. other_numbers pages (place / PAGE) q new c.requires.page (λ in_page.
    get_or-set_other old.items (place % PAGE) (q % PAGE) c.args.number 0 (λ at. let same : place ≡ q = omega (arith, at, in_page) in let itself = nat_itself q in absurd (cc))
    ∙ ap (λ row. slice_index_or row (q % PAGE) 0) is)
