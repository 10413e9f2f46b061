use Rattle.std.proofs.Common.{◌<◌, length, arith}
use Rattle.design.proofs.PartingLemmas.{take_one_more}
use Rattle.design.proofs.parting.count_alike.Goals as goal

pub loop-i-preserved : goal.loop-i-preserved
loop-i-preserved c =
    let i = c.loop-i.i in
    let low : i < length c.args.one.now = omega (arith, c.min-most.ensures, c.loop-i-test.true) in
    let low' : i < length c.args.other.now = omega (arith, c.min-most.ensures, c.loop-i-test.true) in
    take_one_more c.args.one.now c.args.other.now i _ _ low low' (c.is_same.ensures c.if-not-is_same.false) c.loop-i.invariant
