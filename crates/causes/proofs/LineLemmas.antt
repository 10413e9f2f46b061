-- The lines of a gate and of a net, by what was found of them.
use Rattle.std.proofs.Common.{◌≡◌, ◌≢◌, ◌<◌, ◌≤◌, ◌-◌, ◌==◌, ◌&&◌, ◌++◌, ℕ, Bool, true, false, cond, codes, List, [], ◌∷◌, Option, Some, None, IsSome, IfSome, refl, sym, ap, ap₂, subst, ◌∙◌, append-nil, arith}
use Rattle.std.specs.List.{filter, flat_map}
use Rattle.std.specs.Option.{option_map_or}
use Rattle.std.proofs.lemmas.Bool.{false_from_ne_true}
use Rattle.std.proofs.lemmas.Bool.Decides.{nat_tests}
use Rattle.fourstate.specs.declared.value.Value.{Value}
use Rattle.fourstate.specs.Delays.{delay_to}
use Rattle.fourstate.specs.Values.{same_value}
use Rattle.devices.specs.Outgoing.{Adds, Outgoing}
use Rattle.design.specs.Keys.{KeyedGate, entry_in, name_of}
use Rattle.design.specs.kept.Keys.{IsKeyedGate}
use Rattle.design.specs.Netlist.{GateEntry, NetEntry, Netlist, drivers_of, has_point, net_named}
use Rattle.causes.specs.CauseLines.{cause_lines, driver_lines, turn_line, why_lines}
use Rattle.causes.specs.Causes.{changes_at, driven, ends, starts}
use Rattle.causes.proofs.ChangeLemmas.{pending_later}
use Rattle.causes.proofs.TurnLemmas.{no_start, starts_once}

-- From when on a gate turns.

module _ (d : Netlist) (nets : List (ℕ × NetEntry)) (t : ℕ) where
  pub no_start_of : (o : Option KeyedGate) (v w : Value) → 0 < t → IfSome o (λ g. v ≡ driven d (entry_in nets g) t) → IfSome o (λ g. w ≡ driven d (entry_in nets g) (t - 1))
      → same_value v w ≡ true → IfSome o (λ g. ◌≡◌ {A = List ℕ} [] (starts d (entry_in nets g) t))
  no_start_of None v w later is before same = tt
  no_start_of (Some g) v w later is before same =
      sym (no_start d (entry_in nets g) t later (ap₂ (λ x y. same_value x y) (sym is) (sym before) ∙ same))

  pub start_of : (g : KeyedGate) (v w : Value) → IsKeyedGate g → 0 < t → v ≡ driven d (entry_in nets g) t → w ≡ driven d (entry_in nets g) (t - 1) → same_value v w ≡ false
      → (starts d (entry_in nets g) t ≡ (t - delay_to g.delays v) ∷ []) × (delay_to g.delays v ≤ t)
  start_of g v w keeps later is before differ =
      let once = starts_once d (entry_in nets g) (pending_later d nets g keeps) t later (ap₂ (λ x y. same_value x y) (sym is) (sym before) ∙ differ) in (
        once.0 ∙ ap (λ x. (t - delay_to g.delays x) ∷ []) (sym is),
        subst (λ x. delay_to g.delays x ≤ t) (sym is) once.1,
      )

  -- the lines of a gate that does not turn, and of one that does
  pub no_lines : (o : Option KeyedGate) → IfSome o (λ g. ◌≡◌ {A = List ℕ} [] (starts d (entry_in nets g) t)) → option_map_or (λ g. driver_lines d t (entry_in nets g)) o [] ≡ []
  no_lines None none = refl
  no_lines (Some g) none = ap (λ us. flat_map (turn_line d (entry_in nets g)) us) (sym none)

  pub one_line : (o : Option KeyedGate) (g : KeyedGate) (u : ℕ) → o ≡ Some g → IfSome o (λ h. u ∷ [] ≡ starts d (entry_in nets h) t)
      → option_map_or (λ h. driver_lines d t (entry_in nets h)) o [] ≡ turn_line d (entry_in nets g) u
  one_line None g u found one = absurd (cc)
  one_line (Some h) g u found one =
      let same : h ≡ g = cc in
      ap (λ us. flat_map (turn_line d (entry_in nets h)) us) (sym one) ∙ (append-nil (turn_line d (entry_in nets h) u) ∙ ap (λ k. turn_line d (entry_in nets k) u) same)

-- What made a net change.

is_beginning : (t : ℕ) → t ≡ 0 → (t == 0) ≡ true
is_beginning t at = grind (arith, nat_tests)

is_later : (t : ℕ) → t ≢ 0 → (t == 0) ≡ false
is_later t later = grind (arith, nat_tests)

module _ (d : Netlist) (t : ℕ) where
  pub why_none : (o : Option NetEntry) (b : Bool) → IfSome o (λ n. b ≡ changes_at d n t) → b ≡ false → IfSome o (λ n. why_lines d n t ≡ codes "none\n")
  why_none None b is e = tt
  why_none (Some n) b is e = ap (λ a. cond a (cause_lines d n t) (codes "none\n")) (sym is ∙ e)

  pub why_changed : (o : Option NetEntry) (b : Bool) → IfSome o (λ n. b ≡ changes_at d n t) → b ≡ true → IfSome o (λ n. why_lines d n t ≡ cause_lines d n t)
  why_changed None b is e = tt
  why_changed (Some n) b is e = ap (λ a. cond a (cause_lines d n t) (codes "none\n")) (sym is ∙ e)

  -- what is told of a net with a point at t or without one, at the beginning or later
  abbrev told_by : NetEntry → Bool → Bool → List ℕ
  told_by n point first = cond point (codes "stimulus\n") (cond first (codes "beginning\n") (flat_map (driver_lines d t) (drivers_of d n.name)))

  pub by_stimulus : (o : Option NetEntry) (s : Bool) → IfSome o (λ n. s ≡ (n.is_input && has_point n.points t)) → s ≡ true → IfSome o (λ n. cause_lines d n t ≡ codes "stimulus\n")
  by_stimulus None s point p = tt
  by_stimulus (Some n) s point p = ap (λ q. told_by n q (t == 0)) (sym point ∙ p)

  pub by_beginning : (o : Option NetEntry) (s : Bool) → IfSome o (λ n. s ≡ (n.is_input && has_point n.points t)) → s ≡ false → t ≡ 0 → IfSome o (λ n. cause_lines d n t ≡ codes "beginning\n")
  by_beginning None s point p at = tt
  by_beginning (Some n) s point p at = ap (λ q. told_by n q (t == 0)) (sym point ∙ p) ∙ ap (told_by n false) (is_beginning t at)

  pub by_drivers : (o : Option NetEntry) (s : Bool) → IfSome o (λ n. s ≡ (n.is_input && has_point n.points t)) → s ≡ false → t ≢ 0
      → IfSome o (λ n. cause_lines d n t ≡ flat_map (driver_lines d t) (drivers_of d (option_map_or (λ m. m.name) o [])))
  by_drivers None s point p later = tt
  by_drivers (Some n) s point p later = ap (λ q. told_by n q (t == 0)) (sym point ∙ p) ∙ ap (told_by n false) (is_later t later)

-- What is written is what is told.

pub adds_told : (old new : Outgoing) (o : Option NetEntry) (told : NetEntry → List ℕ) (ws : List ℕ) → IfSome o (λ n. told n ≡ ws) → Adds old new ws → IfSome o (λ n. Adds old new (told n))
adds_told old new None told ws same adds = tt
adds_told old new (Some n) told ws same adds = subst (λ us. Adds old new us) (sym same) adds

pub adds_same : (old new : Outgoing) (o : Option NetEntry) (told other : NetEntry → List ℕ) → IfSome o (λ n. told n ≡ other n) → IfSome o (λ n. Adds old new (other n)) → IfSome o (λ n. Adds old new (told n))
adds_same old new None told other same adds = tt
adds_same old new (Some n) told other same adds = subst (λ us. Adds old new us) (sym same) adds
