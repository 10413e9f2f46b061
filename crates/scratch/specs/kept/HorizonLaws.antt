-- What nets and gates do up to a moment does not depend on the horizon.
use Rattle.std.specs.Prelude.{◌≡◌, ◌<◌, ◌≤◌, Bool, ℕ, zero, suc, List, [], ◌∷◌, map, refl}
use Rattle.std.proofs.Common.{◌∙◌, ap, sym, arith}
use Rattle.fourstate.specs.declared.value.Value.{Value}
use Rattle.fourstate.specs.Values.{same_value}
use Rattle.gatestep.specs.Step.{State, Evaluation, due}
use Rattle.design.specs.Connections.{Connection, to_net, to_constant}
use Rattle.design.specs.Netlist.{GateEntry, NetEntry, Netlist, with_horizon}
use Rattle.waveform.specs.Changes.{wave_changes_below}
use Rattle.waveform.specs.kept.Changes.{trace_below}
use Rattle.waveform.specs.Entries.{same_state, standing}
use Rattle.waveform.specs.Timelines.{changes_below, entries_until}
use Rattle.scratch.specs.Run.{evaluation_at, net_at, state_after, state_before, terminal_at, value, wave_of}
use Rattle.scratch.specs.kept.Run.{trace_of}

map_alike : {A B : Type 0} (f g : A → B) → ((x : A) → f x ≡ g x) → (xs : List A) → map f xs ≡ map g xs
map_alike f g alike [] = refl
map_alike f g alike (x ∷ xs) = rw (alike x) (ap (λ l. g x ∷ l) (map_alike f g alike xs))

-- the changes of a function, cut at a moment (`waveform::laws::cut_of_changes`)
abbrev pub CutsChanges : {A : Type 0} → (A → A → Bool) → (A → ℕ → A) → Type 0
CutsChanges {A = A} same drift = (f : ℕ → A) (t n : ℕ) → t < n → entries_until (changes_below same drift f n) t ≡ changes_below same drift f (suc t)

module _ (answer : Evaluation → ℕ → State) (d : Netlist) (h : ℕ) where
  -- what a gate reads
  pub read_same : (before : GateEntry → State) (t : ℕ) (connection : Connection) → terminal_at (with_horizon d h) before connection t ≡ terminal_at d before connection t
  read_same before t (to_net name) = refl
  read_same before t (to_constant v) = refl

  -- what is evaluated
  pub task_same : (before : GateEntry → State) (g : GateEntry) (t : ℕ) → evaluation_at (with_horizon d h) before g t ≡ evaluation_at d before g t
  task_same before g t =
      ap (λ (inputs : List Value). record { kind = g.kind; delays = g.delays; state = before g; inputs = inputs })
      (map_alike (λ c. terminal_at (with_horizon d h) before c t) (λ c. terminal_at d before c t) (read_same before t) g.inputs)

  -- the states
  pub before_same : (t : ℕ) (g : GateEntry) → state_before answer (with_horizon d h) t g ≡ state_before answer d t g
  before_same zero g = refl
  before_same (suc t) g =
      let states : state_before answer (with_horizon d h) t ≡ state_before answer d t = λ i x. before_same t x i in
      ap (λ before. answer (evaluation_at (with_horizon d h) before g t) t) states
      ∙ ap (λ task. answer task t) (task_same (state_before answer d t) g t)

  pub after_same : (g : GateEntry) → state_after answer (with_horizon d h) g ≡ state_after answer d g
  after_same g = λ i t. before_same (suc t) g i

  -- the values
  pub value_same : (n : NetEntry) → value answer (with_horizon d h) n ≡ value answer d n
  value_same n = λ i t. net_by t i
    where
      net_by : (t : ℕ) → value answer (with_horizon d h) n t ≡ value answer d n t
      net_by t = λ i. net_at d (λ g. before_same t g i) n t

  module _ (early : h ≤ d.horizon) where
    -- a wave that is cut
    pub wave_cut : CutsChanges same_value standing → (n : NetEntry) → entries_until (wave_of answer d n) h ≡ wave_of answer (with_horizon d h) n
    wave_cut cuts n =
        cuts (value answer d n) h (suc d.horizon) (omega arith)
        ∙ ap (λ f. wave_changes_below f (suc h)) (sym (value_same n))

    -- and a trace
    pub trace_cut : CutsChanges same_state due → (g : GateEntry) → entries_until (trace_of answer d g) h ≡ trace_of answer (with_horizon d h) g
    trace_cut cuts g =
        cuts (state_after answer d g) h (suc d.horizon) (omega arith)
        ∙ ap (λ f. trace_below f (suc h)) (sym (after_same g))
