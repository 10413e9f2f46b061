use Rattle.std.proofs.Common.{◌≡◌, ◌<◌, ◌+◌, ◌∙◌, ap, sym, subst, ℕ, true, ◌⊎◌, inl, inr, List, arith}
use Rattle.event_queue.specs.kept.Noted.{noted}
use Rattle.design.specs.Keys.{netlist}
use Rattle.design.specs.Netlist.{NetEntry, has_point}
use Rattle.scratch.specs.kept.Places.{IsNotedWithin, Keeps, point_at}
use Rattle.scratch.proofs.Notes.{within_on}
use Rattle.scratch.proofs.Passing.{in_list}
use Rattle.scratch.proofs.noting.list_points.Goals as goal

next_by : (nets : List NetEntry) (t p : ℕ) (old new : List (ℕ × List ℕ)) → Keeps (noted old) (noted new) → ((m u : ℕ) → m < p → t < u → point_at nets m u ≡ true → IsNotedWithin (noted old) m (t + 1) u) →
    ((u : ℕ) → t < u → point_at nets p u ≡ true → IsNotedWithin (noted new) p (t + 1) u) → (m u : ℕ) → t < u → point_at nets m u ≡ true → (m < p) ⊎ (m ≡ p) → IsNotedWithin (noted new) m (t + 1) u
next_by nets t p old new stay before here m u above h (inl low) = within_on (noted old) (noted new) m (t + 1) u stay (before m u low above h)
next_by nets t p old new stay before here m u above h (inr same) = subst (λ k. IsNotedWithin (noted new) k (t + 1) u) (sym same) (here u above (ap (λ k. point_at nets k u) (sym same) ∙ h))

pub loop-place-preserved : goal.loop-place-preserved
loop-place-preserved c =
    record {
      next = λ m u low above h. next_by (netlist c.args.design.now).nets c.args.t c.loop-place.place c.loop-place.points c.note_next_point.new.points c.in_ok-note_next_point.ensures.kept c.loop-place.invariant.next
          (λ v later at. c.in_ok-note_next_point.ensures.next v later at) m u above h (search arith);
      early = λ u low. c.in_ok-note_next_point.ensures.early u low ∙ c.loop-place.invariant.early u low;
    }

pub returns-clause-announces : goal.returns-clause-announces
returns-clause-announces c = λ k t from h.
    let within = in_list (λ (n : NetEntry). has_point n.points t) (netlist c.args.design.now).nets k h in
    c.loop-place.invariant.next k t (let past = c.loop-place-test.false in omega arith) (omega arith) h
