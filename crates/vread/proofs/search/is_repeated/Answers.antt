use Rattle.std.proofs.Common.{arith}
use Rattle.vread.proofs.SearchLemmas.{alike_at}
use Rattle.vread.proofs.search.is_repeated.Goals as goal

pub returns-clause-alike : goal.returns-clause-alike
returns-clause-alike c = λ repeated d.
    let a = c.index-instances-place.result in
    let b = c.index-instances-place-2.result in
    alike_at c.args.names.now c.args.instances.now c.args.place a b (omega (arith, c.if-place-eq0.false)) c.requires c.index-instances-place.is c.index-instances-place-2.is (c.are_alike.ensures repeated) d
