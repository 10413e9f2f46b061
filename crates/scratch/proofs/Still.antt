-- What stays over a moment: nets of which nothing happens, and gates that are not stirred.
use Rattle.std.proofs.Common.{◌≡◌, ◌<◌, ◌≤◌, ◌∙◌, sym, ap, refl, Bool, true, false, not, cond, ℕ, suc, List, [], ◌∷◌, map, Option, Some, None, All, arith}
use Rattle.std.specs.Prelude.{nat_le, ◌&&◌, ◌||◌, ◌==◌}
use Rattle.std.specs.List.{filter, find, list_any, last_or}
use Rattle.std.specs.Option.{option_map_or, ForSome}
use Rattle.std.proofs.lemmas.Bool.Decides.{nat_tests}
use Rattle.std.proofs.lemmas.List.Elements.{All-head, All-tail, All-filter}
use Rattle.std.proofs.lemmas.Bool.{or_parts, and_parts, not-false}
use Rattle.fourstate.specs.declared.value.Value.{Value}
use Rattle.fourstate.specs.declared.value.Value.TheVariants.{Unknown}
use Rattle.fourstate.specs.Nets.{net_of}
use Rattle.fourstate.specs.Values.{same_value}
use Rattle.gatestep.specs.Step.{State, Evaluation, due, due_of}
use Rattle.gatestep.specs.kept.Tasks.{NothingDue, again}
use Rattle.design.specs.Connections.{Connection, to_net, to_constant}
use Rattle.design.specs.Names.{same_name}
use Rattle.design.specs.Netlist.{NetEntry, GateEntry, Netlist, drivers_of, stimulus, has_point}
use Rattle.waveform.specs.Changes.{wave_changes_below}
use Rattle.waveform.specs.kept.Changes.{trace_below}
use Rattle.waveform.specs.Entries.{same_state, standing}
use Rattle.fourstate.specs.kept.ValueLaws.{is_same, same_self}
use Rattle.waveform.specs.kept.SampleLaws.{same_state_self}
use Rattle.waveform.specs.Timelines.{changes_below, is_change}
use Rattle.scratch.specs.kept.Quiet.{IsQuiet}
use Rattle.scratch.specs.Run.{terminal_at, state_after, state_before, value}
use Rattle.scratch.specs.Work.{inputs_at, is_due, is_stirred, same_values, task_at}
use Rattle.scratch.proofs.Lists.{map_alike}
use Rattle.scratch.proofs.Runs.{map_where}

pub same_values_equal : (vs ws : List Value) → same_values vs ws ≡ true → vs ≡ ws
same_values_equal [] [] h = refl
same_values_equal [] (w ∷ ws) h = cc
same_values_equal (v ∷ vs) [] h = cc
same_values_equal (v ∷ vs) (w ∷ ws) h =
    let parts = and_parts (same_value v w) (same_values vs ws) h in
    let one = is_same v w parts.0 in let rest = same_values_equal vs ws parts.1 in cc

pub same_values_itself : (vs : List Value) → same_values vs vs ≡ true
same_values_itself [] = refl
same_values_itself (v ∷ vs) = ap (λ (b : Bool). b && same_values vs vs) (same_self v) ∙ same_values_itself vs

due_at : (p : Option (Value × ℕ)) (t : ℕ) → option_map_or (λ event. nat_le event.1 t) p false ≡ false → ForSome p (λ event. t < event.1)
due_at None t h = λ event is. absurd (cc)
due_at (Some event) t h = λ other is.
    let late : t < event.1 = grind (arith, nat_tests) in
    let same : event ≡ other = cc in
    rw (← same) late

pub nothing_due : (s : State) (t : ℕ) → is_due s t ≡ false → NothingDue t s
nothing_due s t h = due_at s.pending t h

none_due_of : (c : Value) (p : Option (Value × ℕ)) (t : ℕ) → option_map_or (λ event. nat_le event.1 t) p false ≡ false → due_of c p t ≡ record { current = c; pending = p }
none_due_of c None t h = refl
none_due_of c (Some event) t h = ap (λ (b : Bool). cond {A = State} b (record { current = event.0; pending = None }) (record { current = c; pending = Some event })) h

-- where nothing is due a state stays
pub none_due : (s : State) (t : ℕ) → is_due s t ≡ false → due s t ≡ s
none_due s t h = none_due_of s.current s.pending t h

le_next : (m t : ℕ) → (m == suc t) ≡ false → nat_le m (suc t) ≡ nat_le m t
le_next m t h = grind (arith, nat_tests)

points_kept : (points : List (ℕ × Value)) (t : ℕ) → has_point points (suc t) ≡ false →
    filter (λ point. nat_le point.0 (suc t)) points ≡ filter (λ point. nat_le point.0 t) points
points_kept [] t h = refl
points_kept (p ∷ ps) t h =
    let parts = or_parts (p.0 == suc t) (list_any (λ point. point.0 == suc t) ps) h in
    let one = le_next p.0 t parts.0 in let rest = points_kept ps t parts.1 in
    ap (λ (b : Bool). cond b (p ∷ filter (λ point. nat_le point.0 (suc t)) ps) (filter (λ point. nat_le point.0 (suc t)) ps)) one
    ∙ ap (λ (qs : List (ℕ × Value)). cond (nat_le p.0 t) (p ∷ qs) qs) rest

-- without a point at a moment a stimulus stays
pub same_stimulus : (points : List (ℕ × Value)) (t : ℕ) → has_point points (suc t) ≡ false → stimulus points (suc t) ≡ stimulus points t
same_stimulus points t h = ap (λ (ps : List (ℕ × Value)). option_map_or (λ point. point.1) (last_or None ps) Unknown) (points_kept points t h)

-- a function of time that does not change adds nothing to its changes (`waveform::laws::no_change`)
abbrev pub Stays : {A : Type 0} → (A → A → Bool) → (A → ℕ → A) → Type 0
Stays {A = A} same drift = (f : ℕ → A) (t u : ℕ) → t ≤ u → ((k : ℕ) → t ≤ k → k < u → is_change same drift f k ≡ false) → changes_below same drift f u ≡ changes_below same drift f t

-- a moment at which a function of time drifts adds no change
pub no_change : {A : Type 0} (same : A → A → Bool) (drift : A → ℕ → A) → Stays same drift → (f : ℕ → A) (t : ℕ) →
    same (f (suc t)) (drift (f t) (suc t)) ≡ true → changes_below same drift f (suc (suc t)) ≡ changes_below same drift f (suc t)
no_change same drift stays f t h =
    stays f (suc t) (suc (suc t)) (omega arith) (λ k from below.
    let one : suc t ≡ k = omega arith in
    ap (is_change same drift f) (sym one) ∙ ap not h)

-- a net that keeps its value adds no change to its wave
pub wave_stays : Stays same_value standing → (answer : Evaluation → ℕ → State) (d : Netlist) (n : NetEntry) (t : ℕ) → value answer d n (suc t) ≡ value answer d n t →
    wave_changes_below (value answer d n) (suc (suc t)) ≡ wave_changes_below (value answer d n) (suc t)
wave_stays stays answer d n t same =
    no_change same_value standing stays (value answer d n) t (ap (λ v. same_value v (value answer d n t)) same ∙ same_self (value answer d n t))

-- a net that is found by its name is one of the nets
found_by : (f h : NetEntry → Value) (q : NetEntry → Bool) (n : NetEntry) (ns : List NetEntry) (b : Bool) → f n ≡ h n →
    option_map_or f (find q ns) Unknown ≡ option_map_or h (find q ns) Unknown → q n ≡ b → option_map_or f (cond b (Some n) (find q ns)) Unknown ≡ option_map_or h (cond b (Some n) (find q ns)) Unknown
found_by f h q n ns true one rest is = one
found_by f h q n ns false one rest is = rest

found : (P : NetEntry → Type 0) (f h : NetEntry → Value) → ((n : NetEntry) → P n → f n ≡ h n) → (q : NetEntry → Bool) (ns : List NetEntry) →
    All P ns → option_map_or f (find q ns) Unknown ≡ option_map_or h (find q ns) Unknown
found P f h same q [] all = refl
found P f h same q (n ∷ ns) all = found_by f h q n ns (q n) (same n (All-head P n ns all)) (found P f h same q ns (All-tail P n ns all)) refl

-- a gate's evaluation with this state and these inputs
abbrev pub evaluation : GateEntry → State → List Value → Evaluation
evaluation g s inputs = record { kind = g.kind; delays = g.delays; state = s; inputs = inputs }

module _ (answer : Evaluation → ℕ → State) (d : Netlist) where
  -- a gate is not stirred where nothing of it is due and its inputs stay
  pub is_still : (g : GateEntry) (t : ℕ) → is_due (state_before answer d (suc t) g) (suc t) ≡ false → inputs_at answer d g (suc t) ≡ inputs_at answer d g t → is_stirred answer d g (suc t) ≡ false
  is_still g t none inputs =
      let now = inputs_at answer d g (suc t) in
      ap (λ (vs : List Value). not (same_values now vs) || is_due (state_before answer d (suc t) g) (suc t)) (sym inputs)
      ∙ ap (λ (b : Bool). not b || is_due (state_before answer d (suc t) g) (suc t)) (same_values_itself now) ∙ none

  module _ (current : (e : Evaluation) (t : ℕ) → (answer e t).current ≡ (due e.state t).current) where
    -- a driver of which nothing is due gives what it gave
    still_driver : (t : ℕ) (g : GateEntry) → is_due (state_before answer d (suc t) g) (suc t) ≡ false →
        (due (state_before answer d (suc t) g) (suc t)).current ≡ (due (state_before answer d t g) t).current
    still_driver t g h = ap (λ s. s.current) (none_due (state_before answer d (suc t) g) (suc t) h) ∙ current (task_at answer d g t) t

    -- a net keeps its value over a moment at which it has no point and none of its drivers has an event due
    pub still_net : (n : NetEntry) (t : ℕ) → has_point n.points (suc t) ≡ false →
        All (λ g. is_due (state_before answer d (suc t) g) (suc t) ≡ false) (drivers_of d n.name) → value answer d n (suc t) ≡ value answer d n t
    still_net n t points none =
        ap (λ (v : Value). cond n.is_input v (net_of n.kind (map (λ g. (due (state_before answer d (suc t) g) (suc t)).current) (drivers_of d n.name)))) (same_stimulus n.points t points)
        ∙ ap (λ (vs : List Value). cond n.is_input (stimulus n.points t) (net_of n.kind vs))
        (map_where (λ g. is_due (state_before answer d (suc t) g) (suc t) ≡ false) (λ g. (due (state_before answer d (suc t) g) (suc t)).current) (λ g. (due (state_before answer d t g) t).current) (still_driver t) (drivers_of d n.name) none)

    -- at a quiet moment each net keeps its value
    pub quiet_net : (t : ℕ) → IsQuiet answer d (suc t) → (n : NetEntry) → has_point n.points (suc t) ≡ false → value answer d n (suc t) ≡ value answer d n t
    quiet_net t quiet n none =
        still_net n t none
        (All-filter (λ g. same_name g.output n.name) (λ g. is_due (state_before answer d (suc t) g) (suc t) ≡ false) d.gates quiet.nothing_due)

    quiet_terminal : (t : ℕ) → IsQuiet answer d (suc t) → (terminal : Connection) →
        terminal_at d (state_before answer d (suc t)) terminal (suc t) ≡ terminal_at d (state_before answer d t) terminal t
    quiet_terminal t quiet (to_net name) =
        found (λ n. has_point n.points (suc t) ≡ false) (λ n. value answer d n (suc t)) (λ n. value answer d n t)
        (quiet_net t quiet) (λ n. same_name n.name name) d.nets quiet.no_point
    quiet_terminal t quiet (to_constant v) = refl

    -- so no gate is stirred
    pub quiet_gate : (t : ℕ) → IsQuiet answer d (suc t) → (g : GateEntry) → is_due (state_before answer d (suc t) g) (suc t) ≡ false → is_stirred answer d g (suc t) ≡ false
    quiet_gate t quiet g none =
        is_still g t none
        (map_alike (λ terminal. terminal_at d (state_before answer d (suc t)) terminal (suc t)) (λ terminal. terminal_at d (state_before answer d t) terminal t) (quiet_terminal t quiet) g.inputs)

  -- a gate that is not stirred has nothing due
  pub still_due : (g : GateEntry) (t : ℕ) → is_stirred answer d g (suc t) ≡ false → is_due (state_before answer d (suc t) g) (suc t) ≡ false
  still_due g t h =
      let e = task_at answer d g t in let f = task_at answer d g (suc t) in
      (or_parts (not (same_values f.inputs e.inputs)) (is_due f.state (suc t)) h).1

  module _ (stays : (e : Evaluation) (t u : ℕ) → t < u → NothingDue u (answer e t) → answer (again e (answer e t)) u ≡ answer e t) where
    -- it keeps its state
    pub still_after : (g : GateEntry) (t : ℕ) → is_stirred answer d g (suc t) ≡ false → state_before answer d (suc (suc t)) g ≡ state_before answer d (suc t) g
    still_after g t h =
        let e = task_at answer d g t in let f = task_at answer d g (suc t) in
        let parts = or_parts (not (same_values f.inputs e.inputs)) (is_due f.state (suc t)) h in
        ap (λ (vs : List Value). answer (evaluation g f.state vs) (suc t)) (same_values_equal f.inputs e.inputs (not-false (same_values f.inputs e.inputs) parts.0))
        ∙ stays e t (suc t) (omega arith) (nothing_due f.state (suc t) parts.1)

    -- and adds no entry to its trace
    pub trace_stays : Stays same_state due → (g : GateEntry) (t : ℕ) → is_stirred answer d g (suc t) ≡ false →
        trace_below (state_after answer d g) (suc (suc t)) ≡ trace_below (state_after answer d g) (suc t)
    trace_stays no_more g t h =
        no_change same_state due no_more (state_after answer d g) t
        (ap (λ s. same_state s (due (state_before answer d (suc t) g) (suc t))) (still_after g t h)
        ∙ ap (λ s. same_state (state_before answer d (suc t) g) s) (none_due (state_before answer d (suc t) g) (suc t) (still_due g t h))
        ∙ same_state_self (state_before answer d (suc t) g))
