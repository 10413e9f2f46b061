use Rattle.std.proofs.Common.{◌≡◌, ◌<◌, ◌∙◌, ap, length}
use Rattle.design.specs.kept.Lawful.{AreRising}
use Rattle.design.specs.Netlist.{stimulus}
use Rattle.design.specs.kept.Pieces.{HasBegun, IsHome, begins_by, points_in, points_of}
use Rattle.design.proofs.PieceLemmas.{home_stimulus, rising_in}
use Rattle.design.proofs.point_list.PointList.value_at.Goals as goal

pub value_at-requires : goal.value_at-requires
value_at-requires c =
    let pieces = c.self.inside.pieces.items in
    let home = c.home_of-home.result in
    let rising : AreRising (points_of pieces) = rw c.self.view_is c.requires in
    let within : home < length pieces = rw c.deref.ensures.value at c.home_of-home.ensures.within in
    let points : c.deref-3.result.now ≡ points_in c.index.result.now = c.deref-3.ensures.value ∙ ap (λ v. v.items) c.deref-2.ensures in
    rw points (rising_in points_in pieces home c.index.result.now rising within c.index.ensures)

pub returns : goal.returns
returns c =
    let t = c.args.t in
    let pieces = c.self.inside.pieces.items in
    let home = c.home_of-home.result in
    let at : IsHome points_in t pieces home = rw c.deref.ensures.value at c.home_of-home.ensures.home in
    let begun : HasBegun points_in t pieces home = rw c.deref.ensures.value at c.home_of-home.ensures.begun in
    let points : c.deref-3.result.now ≡ points_in c.index.result.now = c.deref-3.ensures.value ∙ ap (λ v. v.items) c.deref-2.ensures in
    c.value_at.ensures ∙ ap (λ l. stimulus l t) points
    ∙ home_stimulus points_in t pieces home c.index.result.now c.self.invariant.0 at c.index.ensures (λ above. ap (λ p. begins_by t (points_in p)) c.index.ensures ∙ begun c.index.result.now above)
    ∙ ap (λ l. stimulus l t) c.self.view_is
