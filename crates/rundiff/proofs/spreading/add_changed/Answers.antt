use Rattle.std.proofs.Common.{◌≡◌, ℕ, Bool, true, inl, inr}
use Rattle.gatestep.specs.Step.{State, Evaluation}
use Rattle.design.specs.Keys.{netlist}
use Rattle.design.specs.Netlist.{Netlist}
use Rattle.rundiff.specs.kept.Places.{is_among}
use Rattle.rundiff.specs.kept.Steady.{IsSteady}
use Rattle.rundiff.proofs.Steps.{at_index, each_next}
use Rattle.rundiff.proofs.spreading.add_changed.Goals as goal

steady_grows : (answer : Evaluation → ℕ → State) (new : Netlist) (f g : ℕ → Bool) (t p : ℕ) → ((q : ℕ) → f q ≡ true → g q ≡ true) → IsSteady answer new f t p → IsSteady answer new g t p
steady_grows answer new f g t p more (inl same) = inl same
steady_grows answer new f g t p more (inr readers) = inr (λ q low reading. more q (readers q low reading))

pub add_if_changed-requires-clause-there : goal.add_if_changed-requires-clause-there
add_if_changed-requires-clause-there g c = at_index _ c.args.nets.now c.loop-place.place-index c.loop-place-test.true c.requires.there

pub add_if_changed-requires-clause-wave : goal.add_if_changed-requires-clause-wave
add_if_changed-requires-clause-wave g c = at_index _ c.args.nets.now c.loop-place.place-index c.loop-place-test.true c.requires.waves

pub loop-place-preserved : goal.loop-place-preserved
loop-place-preserved g c =
    let answer = g.S.Stepper.answer in let new = netlist c.args.former.now.new.now in let t = c.args.t in
    let now = is_among c.add_if_changed.new.gates.items in
    let done = c.in_ok-add_if_changed.ensures in
    record {
      more = λ q on. done.more q (c.loop-place.invariant.more q on);
      steady =
          each_next (IsSteady answer new now t) c.args.nets.now c.loop-place.place-index c.loop-place-test.true
          (λ p was. steady_grows answer new (is_among c.loop-place.gates.items) now t p done.more (c.loop-place.invariant.steady p was)) done.steady;
    }
