use Rattle.std.proofs.Common.{◌≡◌, take, is_some}
use Rattle.std.specs.List.{filter}
use Rattle.catalog.proofs.places.without_gaps.Given as goal

abbrev pub invariant-loop-index : goal.invariant-loop-index
invariant-loop-index g l = l.closed ≡ filter (λ cell. is_some cell) (take l.index l.order)
