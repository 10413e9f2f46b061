-- In the run of a design a gate does what it does by itself.
use Rattle.std.proofs.Common.{◌≡◌, ◌≤◌, ◌∙◌, ap, sym, refl, cond, Bool, true, false, not, ℕ, zero, suc, List, [], ◌∷◌, ◌++◌, map, arith, ⊎_elim}
use Rattle.std.specs.List.{filter}
use Rattle.std.specs.Prelude.{◌||◌, ◌&&◌, nat_le}
use Rattle.std.proofs.lemmas.Bool.{cases_lt, le-leb, lt-leb}
use Rattle.std.proofs.lemmas.List.{map-append}
use Rattle.std.proofs.lemmas.List.Elements.{filter-append}
use Rattle.design.specs.Netlist.{GateEntry, Netlist}
use Rattle.fourstate.specs.declared.delay_times.DelayTimes.{DelayTimes}
use Rattle.fourstate.specs.declared.gate.GateKind.{GateKind}
use Rattle.fourstate.specs.declared.value.Value.{Value}
use Rattle.gatestep.specs.Step.{Evaluation, State}
use Rattle.gateline.proofs.Still.{one_more_from}
use Rattle.gateline.specs.kept.Gates.{gate_work_from, moments_from}
use Rattle.gateline.specs.kept.Line.{is_asked_by, is_stirred_by, line_work_from, state_by, task_by, work_at}
use Rattle.scratch.specs.Run.{state_before}
use Rattle.scratch.specs.Work.{inputs_at, is_due, is_stirred, same_values, task_at}
use Rattle.waveform.specs.Timelines.{moments}

module _ (answer : Evaluation → ℕ → State) (d : Netlist) (g : GateEntry) where
  -- a gate's evaluation in this state at t
  abbrev evaluation : ℕ → State → Evaluation
  evaluation t s = record { kind = g.kind; delays = g.delays; state = s; inputs = inputs_at answer d g t }

  pub states : (t : ℕ) → state_by answer g.kind g.delays (inputs_at answer d g) t ≡ state_before answer d t g
  states zero = refl
  states (suc t) = ap (λ s. answer (evaluation t s) t) (states t)

  pub tasks : (t : ℕ) → task_by answer g.kind g.delays (inputs_at answer d g) t ≡ task_at answer d g t
  tasks t = ap (evaluation t) (states t)

  pub stirred : (t : ℕ) → is_stirred_by answer g.kind g.delays (inputs_at answer d g) t ≡ is_stirred answer d g t
  stirred zero = refl
  stirred (suc t) = ap (λ s. not (same_values (inputs_at answer d g (suc t)) (inputs_at answer d g t)) || is_due s (suc t)) (states (suc t))

-- no moment below n lies at a or later, where n is at most a
none_from : (a n : ℕ) → n ≤ a → moments_from a n ≡ []
none_from a zero low = refl
none_from a (suc n) low =
    filter-append (λ t. nat_le a t) (moments n) (n ∷ [])
    ∙ ap (λ l. l ++ filter (λ t. nat_le a t) (n ∷ [])) (none_from a n (omega arith))
    ∙ ap (λ (b : Bool). cond b (n ∷ []) []) (lt-leb a n (omega arith))

one_more_moment : (a n : ℕ) → a ≤ n → moments_from a (suc n) ≡ moments_from a n ++ n ∷ []
one_more_moment a n from =
    filter-append (λ t. nat_le a t) (moments n) (n ∷ [])
    ∙ ap (λ l. moments_from a n ++ l) (ap (λ (b : Bool). cond b (n ∷ []) []) (le-leb a n from))

-- what is asked from a on, below n, by the moments
module _ (p : ℕ → Bool) (task : ℕ → Evaluation) where
  abbrev timed : ℕ → Evaluation × ℕ
  timed u = (task u, u)

  asked_at : (t : ℕ) (b : Bool) → map timed (cond b (t ∷ []) []) ≡ cond b ((task t, t) ∷ []) []
  asked_at t true = refl
  asked_at t false = refl

  one_more_asked : (a n : ℕ) → a ≤ n → map timed (filter p (moments_from a (suc n))) ≡ map timed (filter p (moments_from a n)) ++ cond (p n) ((task n, n) ∷ []) []
  one_more_asked a n from =
      ap (λ ts. map timed (filter p ts)) (one_more_moment a n from)
      ∙ ap (map timed) (filter-append p (moments_from a n) (n ∷ []))
      ∙ map-append timed (filter p (moments_from a n)) (filter p (n ∷ []))
      ∙ ap (λ l. map timed (filter p (moments_from a n)) ++ l) (asked_at n (p n))

module _ (answer : Evaluation → ℕ → State) (kind : GateKind) (delays : DelayTimes) (inputs : ℕ → List Value) (wanted : Evaluation → ℕ → Bool) where
  abbrev asked : ℕ → Bool
  asked = is_asked_by answer kind delays inputs wanted

  abbrev own_work : ℕ → ℕ → List (Evaluation × ℕ)
  own_work a n = map (λ t. (task_by answer kind delays inputs t, t)) (filter asked (moments_from a n))

  abbrev from : ℕ → ℕ → List (Evaluation × ℕ)
  from = line_work_from answer kind delays inputs wanted

  -- its work from a moment on is that of the moments from it on
  by_moments : (a n : ℕ) → from a n ≡ own_work a n
  by_moments a zero = refl
  by_moments a (suc n) =
      ⊎_elim
      (λ early.
      ap (λ (b : Bool). cond b (from a n ++ work_at answer kind delays inputs wanted n) []) (lt-leb a n early)
      ∙ sym (ap (λ ts. map (timed asked (task_by answer kind delays inputs)) (filter asked ts)) (none_from a (suc n) (omega arith))))
      (λ on.
      one_more_from answer kind delays inputs wanted a n on
      ∙ ap (λ l. l ++ work_at answer kind delays inputs wanted n) (by_moments a n)
      ∙ sym (one_more_asked asked (task_by answer kind delays inputs) a n on))
      (cases_lt n a)

-- so it is in the run of a design
pub work : (answer : Evaluation → ℕ → State) (d : Netlist) (g : GateEntry) (wanted : Evaluation → ℕ → Bool) (a n : ℕ) →
    line_work_from answer g.kind g.delays (inputs_at answer d g) wanted a n ≡ gate_work_from answer d wanted g a n
work answer d g wanted a n =
    by_moments answer g.kind g.delays (inputs_at answer d g) wanted a n
    ∙ (λ i. map (λ t. (tasks answer d g t i, t)) (filter (λ t. wanted (tasks answer d g t i) t && stirred answer d g t i) (moments_from a n)))
