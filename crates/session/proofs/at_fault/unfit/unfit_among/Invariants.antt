use Rattle.std.proofs.Common.{◌≡◌, length}
use Rattle.session.specs.Forms.{unfit_among}
use Rattle.session.proofs.at_fault.unfit.unfit_among.Given as goal

-- the words that are left are looked at by the kinds that are left
abbrev pub invariant-loop-word : goal.invariant-loop-word
invariant-loop-word l = unfit_among l.rest l.kinds ≡ unfit_among l.fn.words l.fn.kinds

abbrev pub decreases-loop-word : goal.decreases-loop-word
decreases-loop-word l = length l.rest
