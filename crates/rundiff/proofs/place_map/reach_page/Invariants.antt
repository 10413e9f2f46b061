use Rattle.std.proofs.Common.{◌≡◌, ◌-◌, ◌+◌, ℕ, length}
use Rattle.rundiff.specs.kept.PlaceMaps.{page_at}
use Rattle.rundiff.proofs.place_map.reach_page.Given as goal

-- each page has the numbers that it had
abbrev pub invariant-loop-pages : goal.invariant-loop-pages
invariant-loop-pages l = (q : ℕ) → page_at l.pages.items q ≡ page_at l.initial.pages.items q

abbrev pub decreases-loop-pages : goal.decreases-loop-pages
decreases-loop-pages l = l.page + 1 - length l.pages.items
