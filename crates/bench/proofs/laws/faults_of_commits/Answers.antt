use Rattle.std.proofs.Common.{◌-◌, ◌^◌, ◌==◌}
use Rattle.edits.specs.Batches.{batch}
use Rattle.bench.proofs.CommitLemmas.{refused_for}
use Rattle.bench.proofs.laws.faults_of_commits.Goals as goal

pub returns : goal.returns
returns c = λ version d edits. refused_for (version == 2 ^ 64 - 1) (batch d edits) (c.limits_of_edits.ensures.fault d edits)
