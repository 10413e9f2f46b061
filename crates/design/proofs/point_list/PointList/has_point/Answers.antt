use Rattle.std.proofs.Common.{◌≡◌, ◌<◌, ◌∙◌, ap, length}
use Rattle.design.specs.kept.Lawful.{AreRising}
use Rattle.design.specs.Netlist.{has_point}
use Rattle.design.specs.kept.Pieces.{IsHome, points_in, points_of}
use Rattle.design.proofs.PieceLemmas.{home_has, rising_in}
use Rattle.design.proofs.point_list.PointList.has_point.Goals as goal

pub is_set-requires : goal.is_set-requires
is_set-requires c =
    let pieces = c.self.inside.pieces.items in
    let home = c.home_of-home.result in
    let rising : AreRising (points_of pieces) = rw c.self.view_is c.requires in
    let within : home < length pieces = rw c.deref.ensures.value at c.home_of-home.ensures.within in
    let points : c.deref-3.result.now ≡ points_in c.index.result.now = c.deref-3.ensures.value ∙ ap (λ v. v.items) c.deref-2.ensures in
    rw points (rising_in points_in pieces home c.index.result.now rising within c.index.ensures)

pub returns : goal.returns
returns c =
    let t = c.args.t in
    let pieces = c.self.inside.pieces.items in
    let home = c.home_of-home.result in
    let at : IsHome points_in t pieces home = rw c.deref.ensures.value at c.home_of-home.ensures.home in
    let points : c.deref-3.result.now ≡ points_in c.index.result.now = c.deref-3.ensures.value ∙ ap (λ v. v.items) c.deref-2.ensures in
    c.is_set.ensures ∙ ap (λ l. has_point l t) points ∙ home_has points_in t pieces home c.index.result.now at c.index.ensures ∙ ap (λ l. has_point l t) c.self.view_is
