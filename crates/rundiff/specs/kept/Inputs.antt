-- Inputs whose stimulus is the same in both designs for some time.
use Rattle.std.specs.Prelude.{◌≡◌, ◌<◌, ◌≤◌, true, ℕ, Some}
use Rattle.design.specs.Netlist.{NetEntry, Netlist, net_named, stimulus}
use Rattle.rundiff.specs.kept.Places.{net_at}

-- the net at a place is an input of both designs, and has the same value in both at each moment from n on and before u
pub record IsSameInput (old new : Netlist) (p n u : ℕ) : Type 0 where
  pub was : NetEntry
  pub named : net_named old (net_at new p).name ≡ Some was
  pub was_input : was.is_input ≡ true
  pub now_input : (net_at new p).is_input ≡ true
  pub same : (m : ℕ) → n ≤ m → m < u → stimulus was.points m ≡ stimulus (net_at new p).points m
