-- What is noted for moments to come: for each live net and each held gate the next moment at which something happens to it.
use Rattle.std.specs.Prelude.{◌≡◌, ◌==◌, ◌-◌, ◌&&◌, ◌||◌, ◌<◌, Bool, false, not, ℕ, nat_eq, nat_le, List, []}
use Rattle.std.specs.List.{list_any}
use Rattle.std.specs.Option.{option_map_or}
use Rattle.fourstate.specs.Values.{same_value}
use Rattle.gatestep.specs.Step.{State, Evaluation}
use Rattle.design.specs.Connections.{Connection, to_net, to_constant}
use Rattle.design.specs.Netlist.{Netlist, has_point}
use Rattle.scratch.specs.kept.Places.{Announces, Covers}
use Rattle.scratch.specs.Run.{state_before}
use Rattle.rundiff.specs.kept.Kept.{read_at}
use Rattle.rundiff.specs.kept.Places.{gate_at, is_live, net_at}

-- an event of the state is pending for t
abbrev pub pends : State → ℕ → Bool
pends s t = option_map_or (λ event. nat_eq event.1 t) s.pending false

-- the connection is to a live net
abbrev pub is_at_live : Netlist → (ℕ → Bool) → Connection → Bool
is_at_live d live (to_net name) = is_live d live name
is_at_live d live (to_constant v) = false

module _ (answer : Evaluation → ℕ → State) (old new : Netlist) where
  -- a connection has another value at t than before in the old run
  abbrev pub old_moves : Connection → ℕ → Bool
  old_moves c t = nat_le t old.horizon && not (same_value (read_at answer old c t) (read_at answer old c (t - 1)))

  -- the net at a place has a point at t, or another value than before in the old run
  abbrev pub net_moves : ℕ → ℕ → Bool
  net_moves p t = has_point (net_at new p).points t || old_moves (to_net (net_at new p).name) t

  -- an input of the gate at a place that is at no live net has another value at t than before in the old run
  abbrev pub input_moves : (ℕ → Bool) → ℕ → ℕ → Bool
  input_moves live p t = list_any (λ c. not (is_at_live new live c) && old_moves c t) (gate_at new p).inputs

  -- At moment 0 all of them are looked at.

  abbrev pub wants_net : (live : ℕ → Bool) → ℕ → ℕ → Bool
  wants_net live p t = live p && (t == 0 || net_moves p t)

  abbrev pub wants_gate : (live reading : ℕ → Bool) → ℕ → ℕ → Bool
  wants_gate live reading p t = reading p && (t == 0 || input_moves live p t)

  -- an event of the gate at a place, in its state before m, is pending for t
  abbrev pub wants_event : (pending : ℕ → Bool) → ℕ → ℕ → ℕ → Bool
  wants_event pending m p t = pending p && pends (state_before answer new m (gate_at new p)) t

  -- from n on: the events of the gates that are pending are noted, in their states before m; what the gates that are reading
  -- wait for; and what the live nets wait for
  pub record IsNoted (live pending reading : ℕ → Bool) (m : ℕ) (events_at inputs_at nets_at : ℕ → List ℕ) (n : ℕ) : Type 0 where
    pub events : Covers (wants_event pending m) events_at n
    pub inputs : Announces (wants_gate live reading) inputs_at n
    pub nets : Announces (wants_net live) nets_at n
    pub no_early_event : (t : ℕ) → t < n → events_at t ≡ []
    pub no_early_input : (t : ℕ) → t < n → inputs_at t ≡ []
    pub no_early_net : (t : ℕ) → t < n → nets_at t ≡ []
