-- What a run up to an earlier horizon has.
use Rattle.std.proofs.Common.{◌≡◌, ◌∙◌, ap, subst, ℕ, suc, List, length, Option, Some, None, IfSome, slice_get}
use Rattle.std.specs.Option.{option_map}
use Rattle.gatestep.specs.Step.{State, Evaluation}
use Rattle.design.specs.Keys.{Keyed, netlist}
use Rattle.design.specs.Netlist.{GateEntry, Netlist, with_horizon}
use Rattle.scratch.specs.Run.{state_after}
use Rattle.scratch.specs.kept.HorizonLaws.{after_same}
use Rattle.scratch.specs.kept.Run.{trace_of}
use Rattle.waveform.specs.kept.Changes.{trace_below}

module _ (answer : Evaluation → ℕ → State) (trace : List (ℕ × State)) where
  trace_in : (d : Netlist) (h : ℕ) (o : Option GateEntry) → option_map (trace_of answer (with_horizon d h)) o ≡ Some trace → IfSome o (λ g. trace ≡ trace_below (state_after answer d g) (suc h))
  trace_in d h None e = tt
  trace_in d h (Some g) e =
      let same : trace ≡ trace_of answer (with_horizon d h) g = cc in
      same ∙ ap (λ f. trace_below f (suc h)) (after_same answer d h g)

  -- the trace of a gate in it is that in the design up to there
  pub trace_early : (design former : Keyed) → former ≡ record design { horizon = former.horizon } → (k : ℕ) →
      option_map (trace_of answer (netlist former)) (slice_get (netlist former).gates k) ≡ Some trace →
      IfSome (slice_get (netlist design).gates k) (λ g. trace ≡ trace_below (state_after answer (netlist design) g) (suc (netlist former).horizon))
  unfolding netlist
  trace_early design former same k e =
      trace_in (netlist design) former.horizon (slice_get (netlist design).gates k)
      (subst (λ d. option_map (trace_of answer (netlist d)) (slice_get (netlist d).gates k) ≡ Some trace) same e)

-- it has the same gates
pub gates_early : (design former : Keyed) → former ≡ record design { horizon = former.horizon } → length (netlist former).gates ≡ length (netlist design).gates
unfolding netlist
gates_early design former same = ap (λ d. length (netlist d).gates) same
