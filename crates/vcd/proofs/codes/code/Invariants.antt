use Rattle.vcd.specs.Codes.{code_of}
use Rattle.vcd.proofs.Ways.{IsOnWay}
use Rattle.vcd.proofs.codes.code.Given as goal

abbrev pub invariant-loop-rest : goal.invariant-loop-rest
invariant-loop-rest g l = IsOnWay l.initial.writer l.writer (code_of l.rest) (code_of l.n)

abbrev pub decreases-loop-rest : goal.decreases-loop-rest
decreases-loop-rest g l = l.rest
