-- Words for places in the order of the gates and of the nets. Where there is no gate or no net, nothing is so.
use Rattle.std.specs.Prelude.{◌≡◌, ◌≤◌, ◌-◌, Bool, false, true, not, ℕ, suc, nat_eq, List, [], ◌∷◌, map, slice_get, if◌then◌else◌}
use Rattle.std.specs.List.{enumerate_from, filter, list_any}
use Rattle.std.specs.Option.{option_map_or}
use Rattle.fourstate.specs.Values.{same_value}
use Rattle.gatestep.specs.Step.{State, Evaluation}
use Rattle.design.specs.Names.{same_name}
use Rattle.design.specs.Netlist.{NetEntry, Netlist, has_point, reads}
use Rattle.scratch.specs.Run.{value}
use Rattle.scratch.specs.Work.{is_due}

-- a place is among places
abbrev pub has : ℕ → List ℕ → Bool
has k places = list_any (nat_eq k) places

-- places that rise, from a on
abbrev pub AreRising : ℕ → List ℕ → Type 0
AreRising a [] = Unit {0}
AreRising a (k ∷ ks) = (a ≤ k) × AreRising (suc k) ks

-- each place is there once
abbrev pub AreApart : List ℕ → Type 0
AreApart [] = Unit {0}
AreApart (k ∷ ks) = (has k ks ≡ false) × AreApart ks

-- the places of the elements that pass a test, the first element at a
abbrev pub passing : {X : Type 0} → (X → Bool) → ℕ → List X → List ℕ
passing test a xs = map (λ q. q.0) (filter (λ q. test q.1) (enumerate_from a xs))

-- the gate at k drives the net at m
abbrev pub drives_at : Netlist → (k m : ℕ) → Bool
drives_at d k m = option_map_or (λ n. option_map_or (λ g. same_name g.output n.name) (slice_get d.gates k) false) (slice_get d.nets m) false

-- the gate at k reads the net at m
abbrev pub reads_at : Netlist → (k m : ℕ) → Bool
reads_at d k m = option_map_or (λ n. option_map_or (λ g. reads g n.name) (slice_get d.gates k) false) (slice_get d.nets m) false

-- the net at m has a point at t
abbrev pub point_at : List NetEntry → (m t : ℕ) → Bool
point_at nets m t = option_map_or (λ n. has_point n.points t) (slice_get nets m) false

-- the net at m has another value at t than at the moment before
abbrev pub changes_at : (Evaluation → ℕ → State) → Netlist → (m t : ℕ) → Bool
changes_at answer d m t = option_map_or (λ n. not (same_value (value answer d n t) (value answer d n (t - 1)))) (slice_get d.nets m) false

-- the event of the state at k is due at t
abbrev pub is_due_at : List State → (k t : ℕ) → Bool
is_due_at states k t = option_map_or (λ s. is_due s t) (slice_get states k) false

-- an event for t is pending at the state at k
abbrev pub pends_at : List State → (k t : ℕ) → Bool
pends_at states k t = option_map_or (λ s. option_map_or (λ event. nat_eq event.1 t) s.pending false) (slice_get states k) false

-- each place that is wanted at a moment from n on is noted for that moment
abbrev pub Covers : (wanted : ℕ → ℕ → Bool) → (noted : ℕ → List ℕ) → ℕ → Type 0
Covers wanted noted n = (k t : ℕ) → n ≤ t → wanted k t ≡ true → has k (noted t) ≡ true

-- the place is noted for a moment from n to t
abbrev pub IsNotedWithin : (noted : ℕ → List ℕ) → (k n t : ℕ) → Type 0
IsNotedWithin noted k n t = (u : ℕ) × (n ≤ u) × (u ≤ t) × (has k (noted u) ≡ true)

-- each place that is wanted at a moment from n on is noted for that moment, or for one between n and it
abbrev pub Announces : (wanted : ℕ → ℕ → Bool) → (noted : ℕ → List ℕ) → ℕ → Type 0
Announces wanted noted n = (k t : ℕ) → n ≤ t → wanted k t ≡ true → IsNotedWithin noted k n t

-- what was noted stays noted
abbrev pub Keeps : (old new : ℕ → List ℕ) → Type 0
Keeps old new = (k t : ℕ) → has k (old t) ≡ true → has k (new t) ≡ true

-- at the places `done` it is new, elsewhere as it was
abbrev pub Between : {X : Type 0} → (done : List ℕ) → (old new now : ℕ → X) → Type 0
Between done old new now = (k : ℕ) → now k ≡ (if has k done then new k else old k)
