use Rattle.std.proofs.Common.{◌++◌, List, length, ap, ◌∙◌, arith}
use Rattle.differences.specs.declared.room.Difference.{Difference}
use Rattle.differences.specs.Differences.{first_moment}
use Rattle.differences.specs.kept.Found.{differences_in, moment_beyond, names_in}
use Rattle.differences.proofs.FoundLemmas.{found_long}
use Rattle.differences.proofs.WholeLemmas.{as_many}
use Rattle.differences.proofs.lines.differences.Goals as goal

pub find_beyond-requires : goal.find_beyond-requires
find_beyond-requires g c =
    let d = c.args.snapshot.now.design in
    let e = c.args.other.now.design in
    let long = found_long (first_moment d e) 0 (names_in d) in
    let many = as_many d in
    let found = ap (λ (xs : List Difference). length xs) c.find_all.ensures in
    omega arith

pub write_found-requires : goal.write_found-requires
write_found-requires g c =
    let d = c.args.snapshot.now.design in
    let e = c.args.other.now.design in
    ◌∙◌ {A = List Difference} c.find_beyond.ensures (ap (λ (xs : List Difference). xs ++ differences_in (moment_beyond d) (length d.nets) (names_in e)) c.find_all.ensures)
