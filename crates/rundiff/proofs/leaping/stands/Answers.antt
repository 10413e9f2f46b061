use Rattle.std.proofs.Common.{◌≤◌, None, Some, arith}
use Rattle.std.proofs.lemmas.Bool.Decides.{nat_tests}
use Rattle.rundiff.proofs.Standing.{stands_until}
use Rattle.rundiff.proofs.leaping.stands.Goals as goal

pub returns-in-Some : goal.returns-in-Some
returns-in-Some c = λ yes.
    let late : c.args.end ≤ c.in-Some.point = grind (arith, nat_tests) in
    stands_until c.args.net.now.points c.args.t c.args.end (Some c.in-Some.point) c.in-Some.ensures c.lawful.ensures.rising late

pub returns-in-None : goal.returns-in-None
returns-in-None c = λ yes. stands_until c.args.net.now.points c.args.t c.args.end None c.in-None.ensures c.lawful.ensures.rising tt
