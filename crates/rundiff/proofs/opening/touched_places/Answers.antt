use Rattle.std.proofs.Common.{◌≡◌, subst, ℕ, List, true, Some, slice_get}
use Rattle.catalog.specs.kept.Catalog.{place_of}
use Rattle.design.specs.kept.Keys.{gate_by_key}
use Rattle.rundiff.specs.kept.Places.{is_among}
use Rattle.rundiff.proofs.Driven.{read_get}
use Rattle.rundiff.proofs.Steps.{each_more}
use Rattle.rundiff.proofs.opening.touched_places.Goals as goal

pub loop-net-preserved : goal.loop-net-preserved
loop-net-preserved c =
    let keys = c.args.touched.now.nets.items in let i = c.loop-net.net-index in let x = c.net-item.result in
    let nets = c.args.new.now.nets in
    let at : slice_get keys i ≡ Some x = subst (λ (l : List ℕ). slice_get l i ≡ Some x) c.deref-net-items.ensures.value (read_get c.deref-net-items.result.now i x c.loop-net-test.true c.net-item.is) in
    let done = c.in_ok-add_net.ensures in
    record {
      there = done.there c.loop-net.invariant.there;
      nets = λ key among p found.
          each_more (λ k. place_of nets k ≡ Some p → is_among c.add_net.new.places.items p ≡ true) keys i x at
          (λ k was apart found. done.more p (c.loop-net.invariant.nets k was p found)) (done.net p) key among found;
    }

pub loop-gate-preserved : goal.loop-gate-preserved
loop-gate-preserved c =
    let keys = c.args.touched.now.gates.items in let i = c.loop-gate.gate-index in let x = c.gate-item.result in
    let at : slice_get keys i ≡ Some x = subst (λ (l : List ℕ). slice_get l i ≡ Some x) c.deref-gate-items.ensures.value (read_get c.deref-gate-items.result.now i x c.loop-gate-test.true c.gate-item.is) in
    let done = c.in_ok-add_output.ensures in
    record {
      there = done.there c.loop-gate.invariant.there;
      nets = λ key among p found. done.more p (c.loop-gate.invariant.nets key among p found);
      gates = λ key among gate under p found.
          each_more (λ k. gate_by_key c.args.new.now k ≡ Some gate → is_among c.add_output.new.places.items p ≡ true) keys i x at
          (λ k was apart under. done.more p (c.loop-gate.invariant.gates k was gate under p found)) (λ under. done.output gate under p found) key among under;
    }
