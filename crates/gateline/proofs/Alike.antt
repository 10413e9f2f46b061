-- What a gate does up to a moment depends on its inputs before that moment alone.
use Rattle.std.proofs.Common.{◌≡◌, ◌<◌, ◌≤◌, refl, cond, Bool, not, ℕ, zero, suc, List, [], ◌∷◌, ◌++◌, arith}
use Rattle.std.specs.Prelude.{◌||◌, ◌&&◌, nat_le}
use Rattle.fourstate.specs.declared.delay_times.DelayTimes.{DelayTimes}
use Rattle.fourstate.specs.declared.gate.GateKind.{GateKind}
use Rattle.fourstate.specs.declared.value.Value.{Value}
use Rattle.gatestep.specs.Step.{State, Evaluation, due}
use Rattle.gateline.specs.kept.Line.{is_stirred_by, line_trace, line_work_from, state_by, task_by, work_at}
use Rattle.scratch.specs.Work.{is_due, same_values}
use Rattle.waveform.specs.Entries.{same_state}
use Rattle.waveform.specs.Timelines.{changes_below}

-- functions that are the same below a moment have the same changes below it (`waveform::laws::same_changes`)
abbrev pub SameChanges : Type 0
SameChanges = (f g : ℕ → State) (n : ℕ) → ((t : ℕ) → t < n → f t ≡ g t) → changes_below same_state due f n ≡ changes_below same_state due g n

module _ (answer : Evaluation → ℕ → State) (kind : GateKind) (delays : DelayTimes) (f g : ℕ → List Value) (n : ℕ)
    (same : (t : ℕ) → t < n → f t ≡ g t) where
  pub states : (t : ℕ) → t ≤ n → state_by answer kind delays f t ≡ state_by answer kind delays g t
  states zero low = refl
  states (suc t) low = λ i. answer (record { kind = kind; delays = delays; state = states t (omega arith) i; inputs = same t (omega arith) i }) t

  tasks : (t : ℕ) → t < n → task_by answer kind delays f t ≡ task_by answer kind delays g t
  tasks t low = λ i. record { kind = kind; delays = delays; state = states t (omega arith) i; inputs = same t low i }

  stirred : (t : ℕ) → t < n → is_stirred_by answer kind delays f t ≡ is_stirred_by answer kind delays g t
  stirred zero low = refl
  stirred (suc t) low = λ i. not (same_values (same (suc t) low i) (same t (omega arith) i)) || is_due (states (suc t) (omega arith) i) (suc t)

  -- and what is asked from a moment on
  module _ (wanted : Evaluation → ℕ → Bool) where
    here_too : (t : ℕ) → t < n → work_at answer kind delays f wanted t ≡ work_at answer kind delays g wanted t
    here_too t low = λ i. cond (wanted (tasks t low i) t && stirred t low i) ((tasks t low i, t) ∷ []) []

    pub works : (a m : ℕ) → m ≤ n → line_work_from answer kind delays f wanted a m ≡ line_work_from answer kind delays g wanted a m
    works a zero low = refl
    works a (suc m) low = λ i. cond (nat_le a m) (works a m (omega arith) i ++ here_too m (omega arith) i) []

  pub traces : SameChanges → line_trace answer kind delays f n ≡ line_trace answer kind delays g n
  traces law = law (λ t. state_by answer kind delays f (suc t)) (λ t. state_by answer kind delays g (suc t)) n (λ t low. states (suc t) (omega arith))
