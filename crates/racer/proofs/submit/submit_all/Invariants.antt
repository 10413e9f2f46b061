use Rattle.std.proofs.Common.{◌≡◌, take}
use Rattle.racer.specs.kept.Submits.{HasSubmitted}
use Rattle.racer.specs.Tallies.{tally_of}
use Rattle.racer.proofs.submit.submit_all.Given as goal

abbrev pub invariant-commits : goal.invariant-commits
invariant-commits g l = HasSubmitted g.J.HubName.origin l.fn.editor (take l.commit-index l.commits) l.editor × (l.editor.number ≡ l.fn.editor.number) × (l.tally ≡ tally_of 0 0 0 l.commit-index)
