use Rattle.std.proofs.Common.{◌<◌, ◌≤◌, ℕ, length, arith, slice_index_or}
use Rattle.design.specs.Keys.{netlist}
use Rattle.design.specs.Netlist.{Netlist}
use Rattle.rundiff.specs.kept.Inputs.{IsSameInput}
use Rattle.rundiff.proofs.Steps.{at_index, each_next}
use Rattle.rundiff.proofs.leaping.all_same_until.Goals as goal

-- what is the same until a moment is so until an earlier one
sooner : (old new : Netlist) (p n u v : ℕ) → v ≤ u → IsSameInput old new p n u → IsSameInput old new p n v
sooner old new p n u v order is =
    record { was = is.was; named = is.named; was_input = is.was_input; now_input = is.now_input; same = λ m from until. is.same m from (omega arith) }

pub same_until-requires : goal.same_until-requires
same_until-requires c = record { there = at_index (λ p. p < length (netlist c.args.former.now.new.now).nets) c.args.places.now c.loop-place.place-index c.loop-place-test.true c.requires.there }

pub loop-place-preserved : goal.loop-place-preserved
loop-place-preserved c =
    let xs = c.args.places.now in let i = c.loop-place.place-index in let x = slice_index_or xs i 0 in
    let old = netlist c.args.former.now.old.now in let new = netlist c.args.former.now.new.now in
    let now = c.min-until.result in
    record {
      until = omega (arith, c.min-until.ensures, c.loop-place.invariant.until);
      same = λ after.
          each_next (λ p. IsSameInput old new p c.args.t now) xs i c.loop-place-test.true
          (λ p was. sooner old new p c.args.t c.loop-place.until now (omega (arith, c.min-until.ensures)) (c.loop-place.invariant.same (omega (arith, c.min-until.ensures)) p was))
          (sooner old new x c.args.t c.same_until.result now (omega (arith, c.min-until.ensures)) (c.same_until.ensures (omega (arith, c.min-until.ensures))));
    }
