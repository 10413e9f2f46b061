use Rattle.std.proofs.Common.{◌≤◌, ◌++◌, List, length, ap, append-nil, arith, sym, ◌∙◌}
use Rattle.differences.specs.declared.room.Difference.{Difference}
use Rattle.differences.proofs.SinceLemmas.{none_gone}
use Rattle.differences.proofs.finding.find_gone.Goals as goal

pub returns-else-since_gone-version : goal.returns-else-since_gone-version
returns-else-since_gone-version g c =
    let bench = c.args.bench.now in
    let xs = c.args.room.now.found.items in
    let le : c.since_gone.result ≤ c.args.other.now.version = (let held = c.version.ensures in let no = c.if-since_gone-version.false in omega arith) in
    let none = none_gone bench c.args.other.now c.since_gone.result (length bench.snapshot.design.nets) c.requires.past c.since_gone.ensures le in
    sym (ap (λ (ys : List Difference). xs ++ ys) none ∙ append-nil xs)
