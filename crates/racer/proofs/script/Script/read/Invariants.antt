use Rattle.std.proofs.Common.{◌≡◌, ◌+◌, ◌≤◌, length}
use Rattle.session.specs.Lines.{lines}
use Rattle.racer.specs.Scripts.{empty, with_lines}
use Rattle.racer.proofs.script.Script.read.Given as goal

abbrev pub invariant-lines : goal.invariant-lines
invariant-lines l = (with_lines 1 empty (lines l.fn.text) ≡ with_lines l.number l.script (lines l.rest)) × (l.number + length l.rest ≤ length l.fn.text + 1)

abbrev pub decreases-lines : goal.decreases-lines
decreases-lines l = length l.rest
