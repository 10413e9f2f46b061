use Rattle.std.proofs.Common.{◌∙◌, ◌/◌, ◌%◌, ap, sym, length, slice_index_or}
use Rattle.rundiff.specs.kept.PlaceMaps.{page_at}
use Rattle.rundiff.specs.declared.place_map.TheConstants.{PAGE}
use Rattle.rundiff.proofs.Items.{is_past}
use Rattle.rundiff.proofs.Pages.{no_page, number_is, page_is}
use Rattle.rundiff.proofs.place_map.number_of.Goals as goal

pub returns-in-Some : goal.returns-in-Some
returns-in-Some c =
    let place = c.args.place in
    let xs = c.deref.result.now in
    let read = c.in-Some.ensures.lookup in
    c.number_in.ensures ∙ ap (λ row. slice_index_or row (place % PAGE) 0) (page_is xs (place / PAGE) c.in-Some.page.now read.3.0 read.1)
    ∙ ap (λ pages. slice_index_or (page_at pages (place / PAGE)) (place % PAGE) 0) c.deref.ensures.value ∙ sym (number_is c.args.pages.now.items place)

pub returns-in-None : goal.returns-in-None
returns-in-None c =
    let place = c.args.place in
    let xs = c.deref.result.now in
    let read = c.in-None.ensures.lookup in
    no_page xs (place / PAGE) (place % PAGE) (is_past (place / PAGE) (length xs) read.0)
    ∙ ap (λ pages. slice_index_or (page_at pages (place / PAGE)) (place % PAGE) 0) c.deref.ensures.value ∙ sym (number_is c.args.pages.now.items place)
