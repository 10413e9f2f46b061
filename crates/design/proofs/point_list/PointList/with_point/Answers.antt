use Rattle.std.proofs.Common.{◌≡◌, ◌+◌, ◌∙◌, Bool, true, false, not, cond, ap, length, refl, rules, arith}
use Rattle.design.specs.kept.Lawful.{AreRising}
use Rattle.design.specs.Netlist.{has_point}
use Rattle.design.specs.kept.Pieces.{points_of}
use Rattle.design.proofs.PointLemmas.{count_set}
use Rattle.design.proofs.point_list.PointList.with_point.Goals as goal
use mir.Val.{bool_byte}

byte_of_not : (b : Bool) → bool_byte (not b) ≡ cond b 0 1
byte_of_not true = refl
byte_of_not false = refl

pub invariant_of-result : goal.invariant_of-result
invariant_of-result c =
    let t = c.args.t in
    let points = points_of c.self.inside.pieces.items in
    let rising : AreRising points = rw c.self.view_is c.requires in
    let had : c.has_point.result ≡ has_point points t = rw (← c.self.view_is) at c.has_point.ensures in
    let added : c.from-added.result ≡ cond (has_point points t) 0 1 = c.from-added.ensures ∙ byte_of_not c.has_point.result ∙ ap (λ (b : Bool). cond b 0 1) had in
    let next : c.in_ok-len.len ≡ c.self.inside.len + c.from-added.result = search rules in
    (c.in_ok-set.ensures.filled, omega (arith, next, added, c.self.invariant.1, count_set points t c.args.value rising, ap (λ l. length l) c.in_ok-set.ensures.set))
