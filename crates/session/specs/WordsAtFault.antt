-- The words at fault of refused lines, where the questions of tools are known (own).
use Rattle.std.specs.Prelude.{Bool, false, ℕ, ◌-◌, ◌^◌, ◌==◌, not, nat_lt, if◌then◌else◌, List, [], ◌∷◌, take, slice_get, find, Option, None, Some, Result, Ok, Err, decimal, option_map, option_and_then}
use Rattle.fourstate.specs.Keywords.{gate_keyword}
use Rattle.fourstate.specs.declared.delay_times.DelayTimes.{DelayTimes}
use Rattle.fourstate.specs.declared.limits.TheConstants.{MAX_DELAY}
use Rattle.design.specs.Netlist.{Netlist, has_net}
use Rattle.edits.specs.declared.edit.Edit.{Edit}
use Rattle.edits.specs.declared.edit.Edit.TheVariants as edit
use Rattle.edits.specs.declared.fault.EditFault.{EditFault}
use Rattle.edits.specs.declared.fault.EditFault.TheVariants.{UnknownNet, UnknownGate, DuplicateName, BadName, ZeroDelay, DelayTooLarge, WrongArity, DrivenInput, NotInput, NetInUse, TimeTooLarge, NoSuchPoint, TooMany, OutOfMemory, NoTurnOff}
use Rattle.edits.specs.declared.pin.Pin.{Pin}
use Rattle.edits.specs.declared.pin.Pin.TheVariants as pin
use Rattle.edits.specs.Batches.{batch}
use Rattle.bench.specs.Benches.{SnapshotRecord}
use Rattle.session.specs.declared.commands.command.Command.{Command}
use Rattle.session.specs.declared.commands.command.Command.TheVariants as command
use Rattle.session.specs.declared.commands.question.ChangeName.{ChangeName}
use Rattle.session.specs.declared.commands.question.Listing.{Listing}
use Rattle.session.specs.declared.commands.question.Listing.TheVariants as listing
use Rattle.session.specs.declared.commands.question.NetQuestion.{NetQuestion}
use Rattle.session.specs.declared.commands.question.Query.{Query}
use Rattle.session.specs.declared.commands.question.Query.TheVariants as query
use Rattle.session.specs.declared.commands.question.Question.{Question}
use Rattle.session.specs.declared.commands.question.Question.TheVariants as question
use Rattle.session.specs.declared.replies.refusal.Refusal.{Refusal}
use Rattle.session.specs.declared.replies.refusal.Refusal.TheVariants as refusal
use Rattle.session.specs.EditLines.{edit_of}
use Rattle.session.specs.Forms.{unreadable_word}
use Rattle.session.specs.Held.{held_as}
use Rattle.session.specs.Standing.{SessionState}

-- Of an edit, by the design that refuses it.

-- the net or gate that an edit is about; a horizon has none
abbrev pub subject : Edit → Option (List ℕ)
subject (edit.AddNet name kind) = Some name
subject (edit.AddInput name) = Some name
subject (edit.DropNet name) = Some name
subject (edit.SetNetKind name kind) = Some name
subject (edit.AddGate name kind delays output inputs) = Some name
subject (edit.DropGate name) = Some name
subject (edit.SetDelay name delays) = Some name
subject (edit.SetGateKind name kind) = Some name
subject (edit.Rewire name output inputs) = Some name
subject (edit.Stim net time value) = Some net
subject (edit.Unstim net time) = Some net
subject (edit.Horizon time) = None

-- an input names a net that is not there
abbrev pub is_unknown : Netlist → Pin → Bool
is_unknown d (pin.Net name) = not (has_net d name)
is_unknown d (pin.Constant value) = false

abbrev pub pin_name : Pin → Option (List ℕ)
pin_name (pin.Net name) = Some name
pin_name (pin.Constant value) = None

-- the first of OUT and IN.. that names no net
abbrev pub unknown_among : Netlist → List ℕ → List Pin → Option (List ℕ)
unknown_among d output inputs = if has_net d output then option_and_then pin_name (find (is_unknown d) inputs) else Some output

abbrev pub unknown_net : Netlist → Edit → Option (List ℕ)
unknown_net d (edit.AddGate name kind delays output inputs) = unknown_among d output inputs
unknown_net d (edit.Rewire name output inputs) = unknown_among d output inputs
unknown_net d e = subject e

-- the delays that an edit gives
abbrev pub delays_in : Edit → Option DelayTimes
delays_in (edit.AddGate name kind delays output inputs) = Some delays
delays_in (edit.SetDelay name delays) = Some delays
delays_in _ = None

abbrev pub listed : Option ℕ → List ℕ
listed None = []
listed (Some n) = n ∷ []

-- the first of R, F and Z that is over the limit
abbrev pub large_delay : DelayTimes → Option ℕ
large_delay delays = find (nat_lt MAX_DELAY) (delays.rise ∷ delays.fall ∷ listed delays.off)

-- the kind of a gate, or the gate where an edit gives no kind
abbrev pub kind_word : Edit → Option (List ℕ)
kind_word (edit.AddGate name kind delays output inputs) = Some (gate_keyword kind)
kind_word (edit.SetGateKind name kind) = Some (gate_keyword kind)
kind_word e = subject e

-- the turn-off delay, or the kind where an edit gives no delays
abbrev pub off_word : Edit → Option (List ℕ)
off_word (edit.SetGateKind name kind) = Some (gate_keyword kind)
off_word e = option_map decimal (option_and_then (λ delays. delays.off) (delays_in e))

abbrev pub output_in : Edit → Option (List ℕ)
output_in (edit.AddGate name kind delays output inputs) = Some output
output_in (edit.Rewire name output inputs) = Some output
output_in _ = None

abbrev pub moment_in : Edit → Option ℕ
moment_in (edit.Stim net time value) = Some time
moment_in (edit.Unstim net time) = Some time
moment_in (edit.Horizon time) = Some time
moment_in _ = None

-- what an edit adds: a point by its moment, a net or gate by its name
abbrev pub added_word : Edit → Option (List ℕ)
added_word (edit.Stim net time value) = Some (decimal time)
added_word e = subject e

-- the word at fault of an edit that this design refuses for this
abbrev pub edit_word : Netlist → Edit → EditFault → Option (List ℕ)
edit_word d e UnknownNet = unknown_net d e
edit_word d e UnknownGate = subject e
edit_word d e DuplicateName = subject e
edit_word d e BadName = subject e
edit_word d e ZeroDelay = Some (decimal 0)
edit_word d e DelayTooLarge = option_map decimal (option_and_then large_delay (delays_in e))
edit_word d e WrongArity = kind_word e
edit_word d e DrivenInput = output_in e
edit_word d e NotInput = subject e
edit_word d e NetInUse = subject e
edit_word d e TimeTooLarge = option_map decimal (moment_in e)
edit_word d e NoSuchPoint = option_map decimal (moment_in e)
edit_word d e TooMany = added_word e
edit_word d e OutOfMemory = None
edit_word d e NoTurnOff = off_word e

-- Of a commit, by the design that the edits before the refused one make.

abbrev pub word_by : Result Netlist (ℕ × EditFault) → Option Edit → EditFault → Option (List ℕ)
word_by (Ok d) (Some e) fault = edit_word d e fault
word_by _ _ fault = None

-- the word at fault of a list of edits that is refused for this fault of the edit at this place
abbrev pub word_at : Netlist → List Edit → ℕ → EditFault → Option (List ℕ)
word_at d edits place fault = word_by (batch d (take place edits)) (slice_get edits place) fault

abbrev pub list_word : Netlist → List Edit → Result Netlist (ℕ × EditFault) → Option (List ℕ)
list_word d edits (Ok made) = None
list_word d edits (Err refused) = word_at d edits refused.0 refused.1

-- at the greatest version a commit is refused whatever its edits are
abbrev pub commit_word : SnapshotRecord → List Edit → Refusal → Option (List ℕ)
commit_word s edits (refusal.Edit OutOfMemory) = None
commit_word s edits (refusal.Edit fault) = if s.version == 2 ^ 64 - 1 then None else list_word s.design edits (batch s.design edits)
commit_word s edits r = None

-- an edit outside a batch is a commit by itself; one that a batch does not keep is at no fault
abbrev pub change_word : SnapshotRecord → Option (List Edit) → Edit → Refusal → Option (List ℕ)
change_word s None e r = commit_word s (e ∷ []) r
change_word s (Some edits) e r = None

abbrev pub batch_word : SnapshotRecord → Option (List Edit) → Refusal → Option (List ℕ)
batch_word s None r = None
batch_word s (Some edits) r = commit_word s edits r

-- Of a question.

-- the moment that a question is about; of a window its end where that lies after the horizon, else its beginning
abbrev pub moment_of : ℕ → Query → Option ℕ
moment_of horizon query.Wave = None
moment_of horizon (query.Value t) = Some t
moment_of horizon (query.Next t) = Some t
moment_of horizon (query.Prev t) = Some t
moment_of horizon (query.Seek t v) = Some t
moment_of horizon (query.Window from to) = Some (if nat_lt horizon to then to else from)
moment_of horizon (query.Parts from to parts) = Some (if nat_lt horizon to then to else from)

abbrev pub net_word : ℕ → NetQuestion → Refusal → Option (List ℕ)
net_word horizon asked (refusal.Edit UnknownNet) = Some asked.net
net_word horizon asked (refusal.Edit TimeTooLarge) = option_map decimal (moment_of horizon asked.query)
net_word horizon asked r = None

abbrev pub listing_word : Listing → Option (List ℕ)
listing_word (listing.Gate name) = Some name
listing_word (listing.Drivers name) = Some name
listing_word (listing.Readers name) = Some name
listing_word (listing.Points name) = Some name
listing_word _ = None

-- of the change of a net at a moment
abbrev pub change_word_of : ChangeName → Refusal → Option (List ℕ)
change_word_of change (refusal.Edit UnknownNet) = Some change.net
change_word_of change (refusal.Edit TimeTooLarge) = Some (decimal change.time)
change_word_of change r = None

abbrev pub question_word : Question → SnapshotRecord → Refusal → Option (List ℕ)
question_word (question.Net asked) snapshot r = net_word snapshot.design.horizon asked r
question_word (question.Listing asked) snapshot r = listing_word asked
question_word question.Vcd snapshot r = None
question_word (question.Why change) snapshot r = change_word_of change r
question_word (question.Reach change) snapshot r = change_word_of change r
question_word (question.Diff name) snapshot r = Some name

-- of the snapshot that is held under this name, if one is
abbrev pub held_word : List ℕ → Question → Option SnapshotRecord → Refusal → Option (List ℕ)
held_word name asked None r = Some name
held_word name asked (Some snapshot) r = question_word asked snapshot r

-- Of a command.

-- out of memory no word is at fault
abbrev pub hold_word : List ℕ → Refusal → Option (List ℕ)
hold_word name (refusal.Edit OutOfMemory) = None
hold_word name r = Some name

-- of one that commits no edits, whose line has these words
abbrev pub asked_word : SessionState → Command → List (List ℕ) → Refusal → Option (List ℕ)
asked_word s (command.Ask asked) ws r = question_word asked s.present r
asked_word s (command.At name asked) ws r = held_word name asked (held_as s.held name) r
asked_word s (command.Hold name) ws r = hold_word name r
asked_word s (command.Free name) ws r = Some name
asked_word s command.Unreadable ws r = unreadable_word ws
asked_word s _ ws r = None

-- the word at fault, if there is one, of a command that is refused for this in this state, where its line has these words
abbrev pub word_at_fault : SessionState → Command → List (List ℕ) → Refusal → Option (List ℕ)
word_at_fault s (command.Change line) ws r = change_word s.present s.batch (edit_of line) r
word_at_fault s command.Commit ws r = batch_word s.present s.batch r
word_at_fault s c ws r = asked_word s c ws r
