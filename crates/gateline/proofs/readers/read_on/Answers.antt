use Rattle.std.proofs.Common.{◌<◌, sym, subst, arith}
use Rattle.gateline.proofs.Stands.{unpassed}
use Rattle.gateline.proofs.readers.read_on.Goals as goal

pub returns-clause-readers : goal.returns-clause-readers
returns-clause-readers c =
    let order = c.requires.order in let other = c.if-next-t.false in
    let low : c.args.t < c.args.next = omega arith in
    sym (unpassed c.args.readers.now.items c.args.t (subst (λ n. c.args.t < n) c.requires.next low))
