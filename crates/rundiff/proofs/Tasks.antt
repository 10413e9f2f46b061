-- What holds of every state of a run.
use Rattle.std.proofs.Common.{◌≡◌, ◌<◌, refl, ℕ, suc, ◌-◌, List, Option, Some, None, All, arith}
use Rattle.std.specs.Option.{option_map_or}
use Rattle.gatestep.specs.Step.{State, Evaluation, due, initial}
use Rattle.gatestep.specs.kept.Tasks.{IsTask, NothingDue}
use Rattle.design.specs.kept.Lawful.{IsGate}
use Rattle.design.specs.Names.{same_name}
use Rattle.design.specs.Netlist.{GateEntry, Netlist, gate_named}
use Rattle.waveform.specs.kept.Timelines.{IsAlwaysSettled}
use Rattle.scratch.specs.Run.{state_after}
use Rattle.scratch.proofs.Runs.{settled}
use Rattle.rundiff.specs.kept.Fronts.{named_state}
use Rattle.rundiff.proofs.Lists.{found_in}

module _ (answer : Evaluation → ℕ → State) (d : Netlist) (pending : (e : Evaluation) (t : ℕ) → IsTask e → NothingDue t (answer e t)) where
  named_settled : (name : List ℕ) (o : Option GateEntry) → gate_named d name ≡ o → All IsGate d.gates → IsAlwaysSettled due (λ t. option_map_or (λ g. state_after answer d g t) o initial)
  named_settled name None is are = λ t. refl
  named_settled name (Some g) is are = settled answer d pending g (found_in IsGate (λ h. same_name h.name name) d.gates g are is).0

  pub old_settled : (name : List ℕ) → All IsGate d.gates → IsAlwaysSettled due (named_state answer d name)
  old_settled name are = named_settled name (gate_named d name) refl are

pub next_one : (t : ℕ) → 0 < t → suc (t - 1) ≡ t
next_one t some = omega arith
