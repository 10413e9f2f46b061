use Rattle.std.proofs.Common.{◌≡◌, ◌<◌, ◌+◌, ◌∙◌, ap, sym, length, nat_lt, Option, Some, None, slice_get, refl, ℕ}
use Rattle.std.specs.List.{find}
use Rattle.std.specs.Option.{option_map}
use Rattle.fourstate.specs.declared.value.Value.{Value}
use Rattle.design.specs.kept.Lawful.{AreRising}
use Rattle.design.specs.kept.Netlist.{next_point}
use Rattle.design.specs.kept.Pieces.{IsHome, first_in, points_in, points_of}
use Rattle.design.proofs.NextLemmas.{home_next, or_else}
use Rattle.design.proofs.PieceLemmas.{rising_in}
use Rattle.design.proofs.point_list.PointList.next_after.Goals as goal

abbrev time : Option (ℕ × Value) → Option ℕ
time = option_map (λ point. point.0)

from_home : (here later : Option (ℕ × Value)) (next : ℕ) → time here ≡ Some next → time (or_else here later) ≡ Some next
from_home None later next is = absurd (cc)
from_home (Some point) later next is = is

from_later : (here later : Option (ℕ × Value)) → time here ≡ None → time (or_else here later) ≡ time later
from_later None later is = refl
from_later (Some point) later is = absurd (cc)

pub next_after-requires : goal.next_after-requires
next_after-requires c =
    let pieces = c.self.inside.pieces.items in
    let home = c.home_of-home.result in
    let rising : AreRising (points_of pieces) = rw c.self.view_is c.requires in
    let within : home < length pieces = rw c.deref.ensures.value at c.home_of-home.ensures.within in
    let points : c.deref-3.result.now ≡ points_in c.index.result.now = c.deref-3.ensures.value ∙ ap (λ v. v.items) c.deref-2.ensures in
    rw points (rising_in points_in pieces home c.index.result.now rising within c.index.ensures)

pub returns-in-Some : goal.returns-in-Some
returns-in-Some c =
    let t = c.args.t in
    let pieces = c.self.inside.pieces.items in
    let home = c.home_of-home.result in
    let old = c.index.result.now in
    let at : IsHome points_in t pieces home = rw c.deref.ensures.value at c.home_of-home.ensures.home in
    let points : c.deref-3.result.now ≡ points_in old = c.deref-3.ensures.value ∙ ap (λ v. v.items) c.deref-2.ensures in
    let is : time (find (λ p. nat_lt t p.0) (points_in old)) ≡ Some c.in-Some.next = ap (λ l. next_point l t) (sym points) ∙ sym c.in-Some.ensures in
    sym (from_home (find (λ p. nat_lt t p.0) (points_in old)) (first_in points_in (slice_get pieces (home + 1))) c.in-Some.next is)
    ∙ ap time (sym (home_next points_in t pieces home old c.self.invariant.0 at c.index.ensures)) ∙ ap (λ l. next_point l t) c.self.view_is

pub returns-in-None : goal.returns-in-None
returns-in-None c =
    let t = c.args.t in
    let pieces = c.self.inside.pieces.items in
    let home = c.home_of-home.result in
    let old = c.index.result.now in
    let at : IsHome points_in t pieces home = rw c.deref.ensures.value at c.home_of-home.ensures.home in
    let points : c.deref-3.result.now ≡ points_in old = c.deref-3.ensures.value ∙ ap (λ v. v.items) c.deref-2.ensures in
    let is : time (find (λ p. nat_lt t p.0) (points_in old)) ≡ None = ap (λ l. next_point l t) (sym points) ∙ sym c.in-None.ensures in
    c.first_at.ensures ∙ ap (λ l. time (first_in points_in (slice_get l (home + 1)))) c.deref-in-None.ensures.value
    ∙ sym (from_later (find (λ p. nat_lt t p.0) (points_in old)) (first_in points_in (slice_get pieces (home + 1))) is)
    ∙ ap time (sym (home_next points_in t pieces home old c.self.invariant.0 at c.index.ensures)) ∙ ap (λ l. next_point l t) c.self.view_is
