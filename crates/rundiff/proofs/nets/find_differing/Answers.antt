use Rattle.std.proofs.Common.{Bool, ℕ, ◌||◌, nat_cmp}
use Rattle.std.specs.BTreeSet.{contains}
use Rattle.design.specs.Keys.{netlist}
use Rattle.rundiff.specs.kept.Fronts.{IsAlike}
use Rattle.rundiff.specs.kept.Places.{is_among}
use Rattle.rundiff.proofs.Alike.{alike_grows, either_more}
use Rattle.rundiff.proofs.Steps.{at_index, each_next}
use Rattle.rundiff.proofs.nets.find_differing.Goals as goal

pub add_differing-requires-clause-there : goal.add_differing-requires-clause-there
add_differing-requires-clause-there g c = at_index _ c.args.live.now c.loop-place.place-index c.loop-place-test.true c.requires.there

pub add_differing-requires-clause-wave : goal.add_differing-requires-clause-wave
add_differing-requires-clause-wave g c = at_index _ c.args.live.now c.loop-place.place-index c.loop-place-test.true c.requires.waves

pub loop-place-preserved : goal.loop-place-preserved
loop-place-preserved g c =
    let old = netlist c.args.former.now.old.now in let new = netlist c.args.former.now.new.now in let t = c.args.t in
    let done = c.in_ok-add_differing.ensures in
    let live : ℕ → Bool = contains nat_cmp c.args.all_live.now in
    let was : ℕ → Bool = λ q. is_among c.loop-place.found.items q || live q in
    let now : ℕ → Bool = λ q. is_among c.add_differing.new.found.items q || live q in
    record {
      there = done.there c.loop-place.invariant.there;
      alike =
          each_next (IsAlike g.S.Stepper.answer old new now t) c.args.live.now c.loop-place.place-index c.loop-place-test.true
          (λ p so_far.
          alike_grows g.S.Stepper.answer old new was now t p (λ q on. either_more (is_among c.loop-place.found.items q) (is_among c.add_differing.new.found.items q) (live q) (done.more q) on)
          (c.loop-place.invariant.alike p so_far)) done.alike;
    }
