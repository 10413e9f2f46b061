use Rattle.std.proofs.Common.{◌≤◌, arith, sym}
use Rattle.differences.proofs.SinceLemmas.{unchanged_at}
use Rattle.differences.proofs.finding.moment_since.Goals as goal

pub returns-then-since_at-version : goal.returns-then-since_at-version
returns-then-since_at-version g c =
    let le : c.since_at.result ≤ c.args.other.now.version = (let held = c.version.ensures in let yes = c.if-since_at-version.true in omega arith) in
    sym (unchanged_at c.value_of_changes.ensures c.args.bench.now c.args.other.now c.args.place c.since_at.result c.requires.past c.requires.place c.since_at.ensures le)
