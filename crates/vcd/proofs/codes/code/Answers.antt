use Rattle.vcd.proofs.CodeLemmas.{code_of-long, code_of-short}
use Rattle.vcd.proofs.Ways.{arrived, on}
use Rattle.vcd.proofs.codes.code.Goals as goal

pub loop-rest-preserved : goal.loop-rest-preserved
loop-rest-preserved g c =
    on _ _ _ _ _ _ (rw (code_of-long c.loop-rest.rest c.loop-rest-test.true) at c.loop-rest.invariant) c.text.ensures.adds

pub returns : goal.returns
returns g c =
    arrived _ _ _ _ _ (rw (code_of-short c.loop-rest.rest c.loop-rest-test.false) at c.loop-rest.invariant) c.text-2.ensures.adds
