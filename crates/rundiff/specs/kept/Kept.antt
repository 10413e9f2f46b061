-- What a run beside an old one keeps of its own between two moments: the nets that are live have waves of their own, and
-- their drivers have traces of their own. All else is as in the old run.
use Rattle.std.specs.Prelude.{◌≡◌, ◌<◌, ◌≤◌, Bool, true, false, ℕ, zero, suc, List, Some}
use Rattle.std.specs.List.{All}
use Rattle.fourstate.specs.declared.value.Value.{Value}
use Rattle.gatestep.specs.Step.{State, Evaluation}
use Rattle.design.specs.Connections.{Connection, to_net}
use Rattle.design.specs.Netlist.{NetEntry, Netlist, net_named, drivers_of, has_point}
use Rattle.scratch.specs.Run.{state_before, terminal_at, value}
use Rattle.rundiff.specs.Dirty.{is_new}
use Rattle.scratch.specs.Work.{is_due}

-- what a connection reads at t
abbrev pub read_at : (Evaluation → ℕ → State) → Netlist → Connection → ℕ → Value
read_at answer d connection t = terminal_at d (state_before answer d t) connection t

-- a net of the new design is the same in the old one, with the same drivers
pub record IsSameNet (old new : Netlist) (n : NetEntry) : Type 0 where
  pub net : net_named old n.name ≡ Some n
  pub drivers : drivers_of old n.name ≡ drivers_of new n.name

-- each net that is not live is the same in both designs, and so are the gates that drive it
pub record IsClosed (old new : Netlist) (live : List ℕ → Bool) : Type 0 where
  pub gates : All (λ g. live g.output ≡ false → is_new old g ≡ false) new.gates
  pub nets : All (λ n. live n.name ≡ false → IsSameNet old new n) new.nets

-- two functions of time have the same value at the moment before n
abbrev pub SameBefore : {A : Type 0} → (f g : ℕ → A) → ℕ → Type 0
SameBefore f g zero = Unit {0}
SameBefore f g (suc r) = f r ≡ g r

-- the moments below n are done: a gate whose output is not live has the same state in both runs, and read the same last; a net
-- that is not live had the same value last
pub record Agrees (answer : Evaluation → ℕ → State) (old new : Netlist) (live : List ℕ → Bool) (n : ℕ) : Type 0 where
  pub states : All (λ g. live g.output ≡ false → state_before answer old n g ≡ state_before answer new n g) new.gates
  pub inputs : All (λ g. live g.output ≡ false → All (λ connection. SameBefore (read_at answer old connection) (read_at answer new connection) n) g.inputs) new.gates
  pub nets : All (λ x. live x.name ≡ false → SameBefore (read_at answer old (to_net x.name)) (value answer new x) n) new.nets

-- at each moment after r and before u
abbrev pub Between : (r u : ℕ) → (ℕ → Type 0) → Type 0
Between r u P = (m : ℕ) → r < m → m < u → P m

-- after r and before u nothing happens to what is live, as it stands after r
pub record IsClear (answer : Evaluation → ℕ → State) (old new : Netlist) (live : List ℕ → Bool) (r u : ℕ) : Type 0 where
  pub within : (name : List ℕ) → live name ≡ false → u ≤ suc old.horizon
  pub due : All (λ g. live g.output ≡ true → Between r u (λ m. is_due (state_before answer new (suc r) g) m ≡ false)) new.gates
  pub points : All (λ x. live x.name ≡ true → Between r u (λ m. has_point x.points m ≡ false)) new.nets
  pub waves : All (λ x. live x.name ≡ true → Between r u (λ m. m ≤ old.horizon → read_at answer old (to_net x.name) m ≡ read_at answer old (to_net x.name) r)) new.nets
  pub reads : All (λ g. live g.output ≡ true → All (λ connection. Between r u (λ m. m ≤ old.horizon → read_at answer old connection m ≡ read_at answer old connection r)) g.inputs) new.gates
