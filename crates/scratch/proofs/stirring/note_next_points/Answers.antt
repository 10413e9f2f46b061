use Rattle.std.proofs.Common.{◌≡◌, ◌+◌, ◌<◌, ◌∙◌, ◌++◌, ◌∷◌, [], ap, sym, subst, refl, ℕ, Bool, true, false, take, slice_index_or, List, arith}
use Rattle.std.specs.Prelude.{nat_eq, ◌||◌}
use Rattle.std.proofs.lemmas.List.{take_all}
use Rattle.std.proofs.lemmas.Option.{slice_get-get_or}
use Rattle.std.proofs.lemmas.Bool.{eqb-true}
use Rattle.std.proofs.Math.Bool.{or-false}
use Rattle.event_queue.specs.kept.Noted.{noted}
use Rattle.design.specs.Keys.{netlist}
use Rattle.design.specs.Netlist.{NetEntry}
use Rattle.scratch.specs.kept.Places.{IsNotedWithin, Keeps, has, point_at}
use Rattle.scratch.proofs.Among.{has_more}
use Rattle.scratch.proofs.Lists.{take_next}
use Rattle.scratch.proofs.Notes.{within_on}
use Rattle.scratch.proofs.stirring.note_next_points.Goals as goal

next_by : (nets : List NetEntry) (t p : ℕ) (done : List ℕ) (old new : List (ℕ × List ℕ)) → Keeps (noted old) (noted new) →
    ((m u : ℕ) → has m done ≡ true → t < u → point_at nets m u ≡ true → IsNotedWithin (noted old) m (t + 1) u) →
    ((u : ℕ) → t < u → point_at nets p u ≡ true → IsNotedWithin (noted new) p (t + 1) u) →
    (m u : ℕ) → t < u → point_at nets m u ≡ true → (b : Bool) → nat_eq m p ≡ b → (has m done || b) ≡ true → IsNotedWithin (noted new) m (t + 1) u
next_by nets t p done old new stay before here m u after h true same among =
    let one = eqb-true m p same in
    subst (λ k. IsNotedWithin (noted new) k (t + 1) u) (sym one) (here u after (ap (λ k. point_at nets k u) (sym one) ∙ h))
next_by nets t p done old new stay before here m u after h false apart among = within_on (noted old) (noted new) m (t + 1) u stay (before m u (sym (or-false (has m done)) ∙ among) after h)

pub loop-net-preserved : goal.loop-net-preserved
loop-net-preserved c =
    let nets = (netlist c.args.design.now).nets in let places = c.args.nets.now in let i = c.loop-net.net-index in
    let p = slice_index_or places i 0 in
    let more : take (i + 1) places ≡ take i places ++ p ∷ [] = take_next places i p (slice_get-get_or places i 0 c.loop-net-test.true) in
    let old = c.loop-net.points in let new = c.note_next_point.new.points in let stay = c.in_ok-note_next_point.ensures.kept in
    record {
      next = λ m u among after h. next_by nets c.args.t p (take i places) old new stay c.loop-net.invariant.next (λ v later at. c.in_ok-note_next_point.ensures.next v later at)
          m u after h (nat_eq m p) refl (sym (has_more m p (take i places)) ∙ ap (has m) (sym more) ∙ among);
      kept = λ k u h. stay k u (c.loop-net.invariant.kept k u h);
      early = λ u low. c.in_ok-note_next_point.ensures.early u low ∙ c.loop-net.invariant.early u low;
    }

pub returns-clause-next : goal.returns-clause-next
returns-clause-next c = λ m u among after h.
    let whole : take c.loop-net.net-index c.args.nets.now ≡ c.args.nets.now = take_all c.loop-net.net-index c.args.nets.now (let past = c.loop-net-test.false in omega arith) in
    c.loop-net.invariant.next m u (ap (has m) whole ∙ among) after h
