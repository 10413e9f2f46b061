-- What is asked about the wave of a net, and the lines that answer it (own).
use Rattle.std.specs.Prelude.{Bool, false, ◌||◌, ℕ, nat_lt, if◌then◌else◌, List, Option, None, Some, Result, Ok, Err}
use Rattle.fourstate.specs.declared.value.Value.{Value}
use Rattle.fourstate.specs.Values.{same_value}
use Rattle.gatestep.specs.Step.{advance}
use Rattle.design.specs.Netlist.{NetEntry, Netlist, net_named}
use Rattle.waveform.specs.Changes.{wave_at}
use Rattle.waveform.specs.Timelines.{first_after, last_before, next_to}
use Rattle.listing.specs.Listings.{change_lines}
use Rattle.listing.specs.Parts.{window_parts}
use Rattle.listing.specs.Windows.{window}
use Rattle.scratch.specs.Run.{wave_of}
use Rattle.session.specs.declared.commands.question.Query.{Query}
use Rattle.session.specs.declared.commands.question.Query.TheVariants as query
use Rattle.session.specs.declared.commands.question.NetQuestion.{NetQuestion}
use Rattle.edits.specs.declared.fault.EditFault.{EditFault}
use Rattle.edits.specs.declared.fault.EditFault.TheVariants.{UnknownNet, TimeTooLarge}
use Rattle.session.specs.Replies.{change_or_none, value_line, wave_lines}

-- what is asked is about a moment after the horizon, or about moments of which the first lies after the second
abbrev pub is_past : ℕ → Query → Bool
is_past horizon query.Wave = false
is_past horizon (query.Value t) = nat_lt horizon t
is_past horizon (query.Next t) = nat_lt horizon t
is_past horizon (query.Prev t) = nat_lt horizon t
is_past horizon (query.Seek t v) = nat_lt horizon t
is_past horizon (query.Window from to) = nat_lt horizon to || nat_lt to from
is_past horizon (query.Parts from to parts) = nat_lt horizon to || nat_lt to from

-- the changes of the wave that is asked about, or why the question is refused: there must be a net of the name, and the
-- moment must not lie after the horizon
abbrev pub changes_within : Netlist → Query → Option NetEntry → Result (List (ℕ × Value)) EditFault
changes_within d asked None = Err UnknownNet
changes_within d asked (Some n) = if is_past d.horizon asked then Err TimeTooLarge else Ok (wave_of advance d n)

abbrev pub changes_asked : Netlist → NetQuestion → Result (List (ℕ × Value)) EditFault
changes_asked d question = changes_within d question.query (net_named d question.net)

-- the lines that answer what is asked about these changes
abbrev pub query_lines : List (ℕ × Value) → Query → List ℕ
query_lines changes (query.Value t) = value_line (wave_at changes t)
query_lines changes query.Wave = wave_lines changes
query_lines changes (query.Next t) = change_or_none (first_after changes t)
query_lines changes (query.Prev t) = change_or_none (last_before changes t)
query_lines changes (query.Seek t v) = change_or_none (next_to same_value changes t v)
query_lines changes (query.Window from to) = change_lines (window changes from to)
query_lines changes (query.Parts from to parts) = window_parts changes from to parts
