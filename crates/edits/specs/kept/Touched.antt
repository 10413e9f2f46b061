-- What edits touched of a design: the nets and the gates, by key, outside of which it stayed as it was (own).
use Rattle.std.specs.Prelude.{◌≡◌, ℕ, Bool, false, ◌==◌, List, [], ◌∷◌, option_map}
use Rattle.std.specs.List.{list_any}
use Rattle.design.specs.Keys.{Keyed, entry_in}
use Rattle.design.specs.kept.Keys.{driver_keys, gate_by_key, net_by_key}
use Rattle.edits.specs.declared.changes.touch.Touch.{Touch}
use Rattle.edits.specs.declared.changes.touch.Touch.TheVariants.{Nothing, Net, Gate, Driver, Rewired}

-- the key is among these
abbrev pub is_touched : List ℕ → ℕ → Bool
is_touched keys key = list_any (λ k. k == key) keys

-- A later design is the old one outside of these nets and gates: under each other key the net and its drivers are the
-- same, or there is no net in both; and so are the gate with the keys of its nets, and the gate with their names.
pub record IsTouched (old new : Keyed) (nets gates : List ℕ) : Type 0 where
  pub nets_stay : (key : ℕ) → is_touched nets key ≡ false → net_by_key new key ≡ net_by_key old key
  pub drivers_stay : (key : ℕ) → is_touched nets key ≡ false → driver_keys new key ≡ driver_keys old key
  pub gates_stay : (key : ℕ) → is_touched gates key ≡ false → gate_by_key new key ≡ gate_by_key old key
  pub names_stay : (key : ℕ) → is_touched gates key ≡ false → option_map (entry_in new.nets) (gate_by_key new key) ≡ option_map (entry_in old.nets) (gate_by_key old key)

-- One change.

-- the nets that it touches
abbrev pub touched_nets : Touch → List ℕ
touched_nets Nothing = []
touched_nets (Net net) = net ∷ []
touched_nets (Gate gate) = []
touched_nets (Driver gate output) = output ∷ []
touched_nets (Rewired gate from to) = from ∷ to ∷ []

-- the gates that it touches
abbrev pub touched_gates : Touch → List ℕ
touched_gates Nothing = []
touched_gates (Net net) = []
touched_gates (Gate gate) = gate ∷ []
touched_gates (Driver gate output) = gate ∷ []
touched_gates (Rewired gate from to) = gate ∷ []

-- a design with a change, and what that touched
abbrev pub Touches : Keyed → Keyed × Touch → Type 0
Touches old made = IsTouched old made.0 (touched_nets made.1) (touched_gates made.1)
