use Rattle.std.proofs.Common.{◌≡◌, ◌∙◌, ◌<◌, ◌/◌, ◌%◌, ap, sym, subst, ℕ, List, length, arith, Vec}
use Rattle.std.proofs.Math.ListN.{get_or, set}
use Rattle.std.specs.Global.{Global}
use Rattle.rundiff.specs.kept.PlaceMaps.{number_at, page_at}
use Rattle.rundiff.specs.declared.place_map.TheConstants.{PAGE}
use Rattle.rundiff.proofs.Pages.{other_numbers, page_here, page_is, same_pages}
use Rattle.rundiff.proofs.place_map.reach.Goals as goal

pub returns-clause-there : goal.returns-clause-there
returns-clause-there c =
    let place = c.args.place in
    let pages = c.reach_page.new.pages.items in
    let here = page_here pages (place / PAGE) c.fill_page.new.page c.in_ok-reach_page.ensures.there in
    let whole = c.in_ok-fill_page.ensures.whole in
    subst (λ row. place % PAGE < length row) (sym here) (omega (arith, whole))

-- the numbers where pages that have those of others get a page with its former numbers
kept : (old pages : List (Vec ℕ Global)) (i : ℕ) (before page : Vec ℕ Global) → i < length pages → before ≡ get_or pages i before →
    ((q : ℕ) → page_at pages q ≡ page_at old q) → ((q : ℕ) → get_or page.items q 0 ≡ get_or before.items q 0) → (q : ℕ) → number_at (set pages i page) q ≡ number_at old q
kept old pages i before page there is same numbers q =
    other_numbers pages i q page there (λ here. numbers (q % PAGE) ∙ ap (λ row. get_or row (q % PAGE) 0) (page_is pages i before there is))
    ∙ same_pages old pages same q

pub returns-clause-same : goal.returns-clause-same
returns-clause-same c =
    kept c.args.pages.now.items c.reach_page.new.pages.items (c.args.place / PAGE) c.index_mut.result.now c.fill_page.new.page c.in_ok-reach_page.ensures.there c.index_mut.ensures.value
    c.in_ok-reach_page.ensures.same c.in_ok-fill_page.ensures.same

pub returns-in_err-reach_page-clause-same : goal.returns-in_err-reach_page-clause-same
returns-in_err-reach_page-clause-same c = same_pages c.args.pages.now.items c.reach_page.new.pages.items c.in_err-reach_page.ensures.same

pub returns-in_err-fill_page-clause-same : goal.returns-in_err-fill_page-clause-same
returns-in_err-fill_page-clause-same c =
    kept c.args.pages.now.items c.reach_page.new.pages.items (c.args.place / PAGE) c.index_mut.result.now c.fill_page.new.page c.in_ok-reach_page.ensures.there c.index_mut.ensures.value
    c.in_ok-reach_page.ensures.same c.in_err-fill_page.ensures.same
