use Rattle.std.proofs.Common.{◌≡◌, drop}
use Rattle.vread.specs.Details.{word_from}
use Rattle.vread.proofs.detail.word_from.Given as goal

abbrev pub invariant-loop-token : goal.invariant-loop-token
invariant-loop-token l = word_from (drop l.token-index l.list) l.start ≡ word_from l.list l.start
