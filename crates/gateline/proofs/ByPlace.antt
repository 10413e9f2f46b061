-- What is read by places is what is read by names.
use Rattle.std.proofs.Common.{◌≡◌, refl, ℕ, map}
use Rattle.design.specs.Connections.{Connection}
use Rattle.design.specs.Netlist.{GateEntry, Netlist}
use Rattle.gatestep.specs.Step.{State}
use Rattle.scratch.proofs.Moments.{input_is as input_by_values}
use Rattle.scratch.specs.Run.{net_at, terminal_at}
use Rattle.scratch.specs.kept.Kept.{input_of, input_value}
-- the value of a net from the current values of the drivers
pub use Rattle.scratch.proofs.Moments.{net_is}

-- the value that a gate input reads
pub input_is : (d : Netlist) (before : GateEntry → State) (t : ℕ) (connection : Connection) →
    input_value (map (λ n. net_at d before n t) d.nets) (input_of d connection) ≡ terminal_at d before connection t
input_is d before t = input_by_values d before t (map (λ n. net_at d before n t) d.nets) refl
