use Rattle.std.proofs.Common.{◌≡◌, ◌∙◌, Bool, true, false, cond, ap, length, refl, arith}
use Rattle.design.specs.kept.Lawful.{AreRising}
use Rattle.design.specs.Netlist.{has_point}
use Rattle.design.specs.kept.Pieces.{points_of}
use Rattle.design.proofs.PointLemmas.{count_without}
use Rattle.design.proofs.point_list.PointList.without_point.Goals as goal
use mir.Val.{bool_byte}

byte_of : (b : Bool) → bool_byte b ≡ cond b 1 0
byte_of true = refl
byte_of false = refl

pub overflow_sub-len : goal.overflow_sub-len
overflow_sub-len c =
    let t = c.args.t in
    let points = points_of c.self.inside.pieces.items in
    let rising : AreRising points = rw c.self.view_is c.requires in
    let had : c.has_point.result ≡ has_point points t = rw (← c.self.view_is) at c.has_point.ensures in
    let less : c.from.result ≡ cond (has_point points t) 1 0 = c.from.ensures ∙ byte_of c.has_point.result ∙ ap (λ (b : Bool). cond b 1 0) had in
    omega (arith, less, c.self.invariant.1, count_without points t rising)

pub invariant_of-result : goal.invariant_of-result
invariant_of-result c =
    let t = c.args.t in
    let points = points_of c.self.inside.pieces.items in
    let rising : AreRising points = rw c.self.view_is c.requires in
    let had : c.has_point.result ≡ has_point points t = rw (← c.self.view_is) at c.has_point.ensures in
    let less : c.from.result ≡ cond (has_point points t) 1 0 = c.from.ensures ∙ byte_of c.has_point.result ∙ ap (λ (b : Bool). cond b 1 0) had in
    (c.in_ok-remove.ensures.filled, omega (arith, less, c.self.invariant.1, count_without points t rising, ap (λ l. length l) c.in_ok-remove.ensures.removed))
