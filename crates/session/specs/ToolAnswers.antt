-- The lines that answer what tools ask of a design, or why a question is refused (own).
use Rattle.std.specs.Prelude.{ℕ, nat_lt, if◌then◌else◌, List, ◌++◌, Option, None, Some, Result, Ok, Err}
use Rattle.design.specs.Netlist.{GateEntry, NetEntry, Netlist, drivers_of, gate_named, has_net, net_named}
use Rattle.edits.specs.declared.fault.EditFault.{EditFault}
use Rattle.edits.specs.declared.fault.EditFault.TheVariants.{NotInput, TimeTooLarge, UnknownGate, UnknownNet}
use Rattle.bench.specs.Benches.{SnapshotRecord}
use Rattle.listing.specs.Lines.{gate_line}
use Rattle.listing.specs.Listings.{change_lines, gate_lines, gate_names, inputs_of, net_lines, readers_of}
use Rattle.causes.specs.CauseLines.{reach_lines, why_lines}
use Rattle.differences.specs.Differences.{difference_lines}
use Rattle.session.specs.declared.commands.question.ChangeName.{ChangeName}
use Rattle.session.specs.declared.commands.question.Listing.{Listing}
use Rattle.session.specs.declared.commands.question.Listing.TheVariants as listing
use Rattle.session.specs.declared.replies.refusal.Refusal.{Refusal}
use Rattle.session.specs.declared.replies.refusal.Refusal.TheVariants as refusal
use Rattle.session.specs.Replies.{ok_line}

-- of a gate, if there is one
abbrev pub gate_asked : Option GateEntry → Result (List ℕ) EditFault
gate_asked None = Err UnknownGate
gate_asked (Some g) = Ok (gate_line g)

-- of a net that has to be there
abbrev pub at_net : Netlist → List ℕ → List ℕ → Result (List ℕ) EditFault
at_net d name lines = if has_net d name then Ok lines else Err UnknownNet

-- of a net, which has to be an input
abbrev pub points_asked : Option NetEntry → Result (List ℕ) EditFault
points_asked None = Err UnknownNet
points_asked (Some n) = if n.is_input then Ok (change_lines n.points) else Err NotInput

abbrev pub listing_lines : Netlist → Listing → Result (List ℕ) EditFault
listing_lines d listing.Nets = Ok (net_lines d.nets)
listing_lines d listing.Inputs = Ok (net_lines (inputs_of d))
listing_lines d listing.Gates = Ok (gate_lines d.gates)
listing_lines d (listing.Gate name) = gate_asked (gate_named d name)
listing_lines d (listing.Drivers name) = at_net d name (gate_names (drivers_of d name))
listing_lines d (listing.Readers name) = at_net d name (gate_names (readers_of d name))
listing_lines d (listing.Points name) = points_asked (net_named d name)

-- the lines and the version behind them, or the refusal
abbrev pub lines_result : ℕ → Result (List ℕ) EditFault → Result (List ℕ) Refusal
lines_result version (Ok lines) = Ok (lines ++ ok_line version)
lines_result version (Err fault) = Err (refusal.Edit fault)

abbrev pub listing_result : Listing → SnapshotRecord → Result (List ℕ) Refusal
listing_result asked snapshot = lines_result snapshot.version (listing_lines snapshot.design asked)

-- of a change of the net of this name at a moment, which lies within the run: what is said of it, and the version
abbrev pub change_by : SnapshotRecord → ℕ → (NetEntry → List ℕ) → Option NetEntry → Result (List ℕ) EditFault
change_by snapshot t lines None = Err UnknownNet
change_by snapshot t lines (Some n) = if nat_lt snapshot.design.horizon t then Err TimeTooLarge else Ok (lines n)

abbrev pub why_asked : ChangeName → SnapshotRecord → Result (List ℕ) EditFault
why_asked change snapshot = change_by snapshot change.time (λ n. why_lines snapshot.design n change.time) (net_named snapshot.design change.net)

abbrev pub reach_asked : ChangeName → SnapshotRecord → Result (List ℕ) EditFault
reach_asked change snapshot = change_by snapshot change.time (λ n. reach_lines snapshot.design n change.time) (net_named snapshot.design change.net)

-- what differs from another snapshot, if there is one
abbrev pub diff_result : SnapshotRecord → Option SnapshotRecord → Result (List ℕ) Refusal
diff_result snapshot None = Err refusal.UnknownHold
diff_result snapshot (Some other) = Ok (difference_lines snapshot.design other.design ++ ok_line snapshot.version)
