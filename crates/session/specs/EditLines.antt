-- The lines of edits (own).
use Rattle.std.specs.Prelude.{ℕ, ◌+◌, if◌then◌else◌, List, [], ◌∷◌, take, drop, position, Option, None, Some, option_map, option_and_then}
use Rattle.fourstate.specs.Delays.{delay_times, with_off}
use Rattle.fourstate.specs.Keywords.{gate_kind_of, net_kind_of}
use Rattle.fourstate.specs.declared.delay_times.DelayTimes.{DelayTimes}
use Rattle.edits.specs.declared.edit.Edit.{Edit}
use Rattle.edits.specs.declared.edit.Edit.TheVariants as edit
use Rattle.edits.specs.declared.pin.Pin.{Pin}
use Rattle.session.specs.declared.commands.edit_line.EditLine.{EditLine}
use Rattle.session.specs.declared.commands.edit_line.EditLine.TheVariants.{AddNet, AddInput, DropNet, SetNetKind, AddGate, DropGate, SetDelay, SetGateKind, Rewire, Stim, Unstim, Horizon}
use Rattle.session.specs.declared.commands.verb.EditVerb.{EditVerb}
use Rattle.session.specs.declared.commands.verb.EditVerb.TheVariants as verb
use Rattle.session.specs.Pins.{pins_of}
use Rattle.session.specs.Words.{is_slash, name_and_time, no_words, number_of, one_word, three_words, two_words, value_of}

-- Each edit from the words behind the first one of its line, if they are readable.

-- net N KIND
abbrev pub net_edit : List (List ℕ) → Option EditLine
net_edit ws = option_and_then (λ w. option_map (λ kind. AddNet w.0 kind) (net_kind_of w.1)) (two_words ws)

-- input N
abbrev pub input_edit : List (List ℕ) → Option EditLine
input_edit ws = option_map (λ name. AddInput name) (one_word ws)

-- dropnet N
abbrev pub drop_net_edit : List (List ℕ) → Option EditLine
drop_net_edit ws = option_map (λ name. DropNet name) (one_word ws)

-- kind N KIND
abbrev pub kind_edit : List (List ℕ) → Option EditLine
kind_edit ws = option_and_then (λ w. option_map (λ kind. SetNetKind w.0 kind) (net_kind_of w.1)) (two_words ws)

-- stim N T V
abbrev pub stim_edit : List (List ℕ) → Option EditLine
stim_edit ws =
    option_and_then (λ w. option_and_then (λ time. option_map (λ v. Stim w.0 time v) (value_of w.2)) (number_of w.1)) (three_words ws)

-- unstim N T
abbrev pub unstim_edit : List (List ℕ) → Option EditLine
unstim_edit ws = option_map (λ w. Unstim w.0 w.1) (name_and_time ws)

-- horizon T
abbrev pub horizon_edit : List (List ℕ) → Option EditLine
horizon_edit ws = option_and_then (λ word. option_map (λ time. Horizon time) (number_of word)) (one_word ws)

-- drop G
abbrev pub drop_edit : List (List ℕ) → Option EditLine
drop_edit ws = option_map (λ name. DropGate name) (one_word ws)

-- behind a rise, a word with its first slash at this place, if it has one: F, a fall, or F/Z, a fall and a turn-off delay
abbrev pub times_at : ℕ → List ℕ → Option ℕ → Option DelayTimes
times_at rise word None = option_map (λ fall. delay_times rise fall) (number_of word)
times_at rise word (Some slash) =
    option_and_then (λ fall. option_map (λ off. with_off (delay_times rise fall) off) (number_of (drop (slash + 1) word))) (number_of (take slash word))

abbrev pub times_of : ℕ → List ℕ → Option DelayTimes
times_of rise word = times_at rise word (position is_slash word)

-- R F or R F/Z, with which words begin: the delays that they write, and the words behind them
abbrev pub delays_of : List (List ℕ) → Option (DelayTimes × List (List ℕ))
delays_of (rise ∷ word ∷ ws) =
    option_and_then (λ r. option_map (λ times. (times, ws)) (times_of r word)) (number_of rise)
delays_of _ = None

-- delay G R F, or delay G R F/Z
abbrev pub delay_edit : List (List ℕ) → Option EditLine
delay_edit (name ∷ ws) =
    option_and_then (λ delays. if no_words delays.1 then Some (SetDelay name delays.0) else None) (delays_of ws)
delay_edit [] = None

-- type G KIND
abbrev pub type_edit : List (List ℕ) → Option EditLine
type_edit ws = option_and_then (λ w. option_map (λ kind. SetGateKind w.0 kind) (gate_kind_of w.1)) (two_words ws)

-- OUT IN..: what a gate drives and reads
abbrev pub nets_of : List (List ℕ) → Option (List ℕ × List Pin)
nets_of (output ∷ ws) = option_map (λ inputs. (output, inputs)) (pins_of ws)
nets_of [] = None

-- gate G KIND R F OUT IN.., or F/Z in place of F
abbrev pub gate_edit : List (List ℕ) → Option EditLine
gate_edit (name ∷ word ∷ ws) =
    option_and_then (λ kind. option_and_then (λ delays.
    option_map (λ nets. AddGate name kind delays.0 nets.0 nets.1) (nets_of delays.1)) (delays_of ws)) (gate_kind_of word)
gate_edit _ = None

-- wire G OUT IN..
abbrev pub wire_edit : List (List ℕ) → Option EditLine
wire_edit (name ∷ ws) = option_map (λ nets. Rewire name nets.0 nets.1) (nets_of ws)
wire_edit [] = None

-- the edit that a verb writes with the words behind it, if they are readable
abbrev pub edit_line_of : EditVerb → List (List ℕ) → Option EditLine
edit_line_of verb.Net ws = net_edit ws
edit_line_of verb.Input ws = input_edit ws
edit_line_of verb.DropNet ws = drop_net_edit ws
edit_line_of verb.Kind ws = kind_edit ws
edit_line_of verb.Gate ws = gate_edit ws
edit_line_of verb.Drop ws = drop_edit ws
edit_line_of verb.Delay ws = delay_edit ws
edit_line_of verb.Type ws = type_edit ws
edit_line_of verb.Wire ws = wire_edit ws
edit_line_of verb.Stim ws = stim_edit ws
edit_line_of verb.Unstim ws = unstim_edit ws
edit_line_of verb.Horizon ws = horizon_edit ws

-- the edit with words of its own
abbrev pub edit_of : EditLine → Edit
edit_of (AddNet name kind) = edit.AddNet name kind
edit_of (AddInput name) = edit.AddInput name
edit_of (DropNet name) = edit.DropNet name
edit_of (SetNetKind name kind) = edit.SetNetKind name kind
edit_of (AddGate name kind delays output inputs) = edit.AddGate name kind delays output inputs
edit_of (DropGate name) = edit.DropGate name
edit_of (SetDelay name delays) = edit.SetDelay name delays
edit_of (SetGateKind name kind) = edit.SetGateKind name kind
edit_of (Rewire name output inputs) = edit.Rewire name output inputs
edit_of (Stim net time value) = edit.Stim net time value
edit_of (Unstim net time) = edit.Unstim net time
edit_of (Horizon time) = edit.Horizon time
