use Rattle.std.proofs.Common.{◌∙◌, sym, refl, arith}
use Rattle.rundiff.specs.declared.place_map.TheConstants.{PAGE}
use Rattle.rundiff.proofs.Pages.{filled}
use Rattle.rundiff.proofs.place_map.fill_page.Goals as goal

pub returns-in_ok-resize-clause-same : goal.returns-in_ok-resize-clause-same
returns-in_ok-resize-clause-same c =
    let old = c.args.page.now in
    let new = c.resize.new.self in
    let short = c.if-len-lt-PAGE.true in
    let many = c.len.ensures in
    let counted = old.ok.0 in
    λ q. filled old.items new.items PAGE q (sym new.ok.0 ∙ c.in_ok-resize.ensures.len) (omega (arith, short, many, counted))
    (λ k low there. c.in_ok-resize.ensures.by_index.0 k 0 low (omega (arith, there, counted)))
    (λ k high low. c.in_ok-resize.ensures.by_index.1 k 0 refl (omega (arith, high, counted)) low)
