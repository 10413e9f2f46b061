use Rattle.std.proofs.Common.{◌≡◌, ◌≢◌, AllPairs, None, sym, subst}
use Rattle.design.specs.Netlist.{Netlist, net_named}
use Rattle.differences.specs.kept.Found.{IsPlaceOf, name_at}
use Rattle.differences.proofs.MomentLemmas.{alone}
use Rattle.differences.proofs.finding.first_moment.Goals as goal

pub returns-in-None : goal.returns-in-None
returns-in-None c =
    let d = c.args.snapshot.now.design in
    let e = c.args.other.now.design in
    let apart : AllPairs (λ n m. n.name ≢ m.name) d.nets = subst (λ (q : Netlist). AllPairs (λ n m. n.name ≢ m.name) q.nets) c.design.ensures c.lawful.ensures.design.distinct_nets in
    let none : net_named e (name_at d c.args.place) ≡ None = subst (IsPlaceOf e (name_at d c.args.place)) c.in-None.is c.requires.there in
    sym (alone d e c.args.place apart c.requires.place none)
