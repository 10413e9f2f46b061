use Rattle.std.proofs.Common.{List, length, ap, arith}
use Rattle.differences.specs.declared.room.Difference.{Difference}
use Rattle.differences.specs.Differences.{first_moment}
use Rattle.differences.specs.kept.Found.{names_in}
use Rattle.differences.proofs.FoundLemmas.{found_long}
use Rattle.differences.proofs.WholeLemmas.{as_many}
use Rattle.differences.proofs.lines.differences_since.Goals as goal

pub find_gone-requires-clause-few : goal.find_gone-requires-clause-few
find_gone-requires-clause-few g c =
    let d = c.args.bench.now.snapshot.design in
    let e = c.args.other.now.design in
    let long = found_long (first_moment d e) 0 (names_in d) in
    let many = as_many d in
    let found = ap (λ (xs : List Difference). length xs) c.find_changed.ensures in
    omega arith
