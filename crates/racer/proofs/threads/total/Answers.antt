use Rattle.std.proofs.Common.{◌≡◌, subst, sym, vec_len}
use Rattle.racer.specs.Tallies.{Counts}
use Rattle.racer.specs.kept.Threads.{looking}
use Rattle.racer.specs.declared.threads.Looking.{Looking}
use Rattle.racer.proofs.HandleLemmas.{fewer, more_counted, parted}
use Rattle.racer.proofs.threads.total.Goals as goal

pub children-preserved : goal.children-preserved
children-preserved g c =
    let handles =
    parted (λ handle. handle.promise ≡ looking c.args.looks) c.children.watching.items c.pop.new.self.items c.in-Some.child c.in-Some.ensures.items c.children.invariant.each in
    let counts : Counts 1 c.args.looks 0 c.count.result =
    subst (λ (p : Looking). Counts 1 p.looks 0 c.count.result) handles.1 c.count.ensures in
    let more =
    more_counted c.children.total c.count.result c.merge.new.self (vec_len c.children.watching) (vec_len c.pop.new.self) (vec_len c.args.watching) c.args.looks
    c.merge.ensures counts (sym c.in-Some.ensures.cases) c.children.invariant.viewers c.children.invariant.looks c.children.invariant.submits in
    record { each = handles.0; few = fewer _ _ c.in-Some.ensures.cases c.children.invariant.few; viewers = more.0; looks = more.1; submits = more.2 }
