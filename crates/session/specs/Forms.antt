-- The forms of lines, where the questions of tools are known: of which kind their words are (own).
use Rattle.std.specs.Prelude.{Bool, ℕ, ◌&&◌, if◌then◌else◌, List, [], ◌∷◌, Option, None, Some, codes, is_some, option_map, option_and_then}
use Rattle.std.specs.List.{list_all}
use Rattle.std.specs.Option.{option_or}
use Rattle.fourstate.specs.Keywords.{gate_kind_of, net_kind_of}
use Rattle.session.specs.declared.at_fault.forms.WordKind.{WordKind}
use Rattle.session.specs.declared.at_fault.forms.WordKind.TheVariants as kind
use Rattle.session.specs.declared.commands.tool_verb.ToolVerb.{ToolVerb}
use Rattle.session.specs.declared.commands.tool_verb.ToolVerb.TheVariants as tool
use Rattle.session.specs.declared.commands.verb.AskVerb.{AskVerb}
use Rattle.session.specs.declared.commands.verb.AskVerb.TheVariants as ask
use Rattle.session.specs.declared.commands.verb.EditVerb.{EditVerb}
use Rattle.session.specs.declared.commands.verb.EditVerb.TheVariants as edit
use Rattle.session.specs.declared.commands.verb.Verb.{Verb}
use Rattle.session.specs.declared.commands.verb.Verb.TheVariants as verb
use Rattle.session.specs.EditLines.{times_of}
use Rattle.session.specs.Pins.{pin_of}
use Rattle.session.specs.ToolCommands.{parts_of}
use Rattle.session.specs.ToolVerbs.{tool_verb_of}
use Rattle.session.specs.Verbs.{verb_of}
use Rattle.session.specs.Words.{is_plain, number_of, same_word, value_of}

-- a word is of a kind; any word may be a name, since what it names is asked later
abbrev pub is_of_kind : WordKind → List ℕ → Bool
is_of_kind kind.Name word = list_all is_plain word
is_of_kind kind.Number word = is_some (number_of word)
is_of_kind kind.Fall word = is_some (times_of 0 word)
is_of_kind kind.Value word = is_some (value_of word)
is_of_kind kind.NetKind word = is_some (net_kind_of word)
is_of_kind kind.GateKind word = is_some (gate_kind_of word)
is_of_kind kind.Input word = list_all is_plain word && is_some (pin_of word)
is_of_kind kind.Parts word = is_some (parts_of word)

-- the kinds of the words that may stand behind one of this kind: there may be any number of inputs
abbrev pub kinds_behind : WordKind → List WordKind → List WordKind
kinds_behind kind.Input kinds = kind.Input ∷ kinds
kinds_behind _ kinds = kinds

-- Below, the kinds of the words behind a first word. Fewer words may be a line too, and inputs may be none.

abbrev pub edit_kinds : EditVerb → List WordKind
edit_kinds edit.Net = kind.Name ∷ kind.NetKind ∷ []
edit_kinds edit.Input = kind.Name ∷ []
edit_kinds edit.DropNet = kind.Name ∷ []
edit_kinds edit.Kind = kind.Name ∷ kind.NetKind ∷ []
edit_kinds edit.Gate = kind.Name ∷ kind.GateKind ∷ kind.Number ∷ kind.Fall ∷ kind.Name ∷ kind.Input ∷ []
edit_kinds edit.Drop = kind.Name ∷ []
edit_kinds edit.Delay = kind.Name ∷ kind.Number ∷ kind.Fall ∷ []
edit_kinds edit.Type = kind.Name ∷ kind.GateKind ∷ []
edit_kinds edit.Wire = kind.Name ∷ kind.Name ∷ kind.Input ∷ []
edit_kinds edit.Stim = kind.Name ∷ kind.Number ∷ kind.Value ∷ []
edit_kinds edit.Unstim = kind.Name ∷ kind.Number ∷ []
edit_kinds edit.Horizon = kind.Number ∷ []

abbrev pub ask_kinds : AskVerb → List WordKind
ask_kinds ask.Value = kind.Name ∷ kind.Number ∷ []
ask_kinds ask.Wave = kind.Name ∷ []
ask_kinds ask.Next = kind.Name ∷ kind.Number ∷ []
ask_kinds ask.Prev = kind.Name ∷ kind.Number ∷ []
ask_kinds ask.Seek = kind.Name ∷ kind.Number ∷ kind.Value ∷ []
ask_kinds ask.Vcd = []

abbrev pub tool_kinds : ToolVerb → List WordKind
tool_kinds tool.Nets = []
tool_kinds tool.Inputs = []
tool_kinds tool.Gates = []
tool_kinds tool.Gate = kind.Name ∷ []
tool_kinds tool.Drivers = kind.Name ∷ []
tool_kinds tool.Readers = kind.Name ∷ []
tool_kinds tool.Points = kind.Name ∷ []
tool_kinds tool.Window = kind.Name ∷ kind.Number ∷ kind.Number ∷ kind.Parts ∷ []
tool_kinds tool.Why = kind.Name ∷ kind.Number ∷ []
tool_kinds tool.Reach = kind.Name ∷ kind.Number ∷ []
tool_kinds tool.Diff = kind.Name ∷ []

-- what stands behind `at` is no list of kinds, and is said below
abbrev pub verb_kinds : Verb → List WordKind
verb_kinds (verb.Edit v) = edit_kinds v
verb_kinds (verb.Ask v) = ask_kinds v
verb_kinds verb.Hold = kind.Name ∷ []
verb_kinds verb.Free = kind.Name ∷ []
verb_kinds _ = []

-- of a verb that asks
abbrev pub question_kinds : Verb → Option (List WordKind)
question_kinds (verb.Ask v) = Some (ask_kinds v)
question_kinds _ = None

-- behind the first word of a command, if it is one
abbrev pub kinds_of : List ℕ → Option (List WordKind)
kinds_of word = option_or (option_map verb_kinds (verb_of word)) (option_map tool_kinds (tool_verb_of word))

-- behind the first word of a question, if it is one
abbrev pub asked_kinds_of : List ℕ → Option (List WordKind)
asked_kinds_of word = option_or (option_and_then question_kinds (verb_of word)) (option_map tool_kinds (tool_verb_of word))

-- The first word of a line with which no line can go on as the words before it began: there is none where a word is missing.

-- behind a first word, by the kinds
abbrev pub unfit_among : List (List ℕ) → List WordKind → Option (List ℕ)
unfit_among [] kinds = None
unfit_among (word ∷ ws) [] = Some word
unfit_among (word ∷ ws) (kind ∷ kinds) = if is_of_kind kind word then unfit_among ws (kinds_behind kind kinds) else Some word

-- a first word that is none of a line, and no second `fault`
abbrev pub no_first_word : List ℕ → Option (List ℕ)
no_first_word word = if same_word (codes "fault") word then None else Some word

abbrev pub unfit_behind : List ℕ → List (List ℕ) → Option (List WordKind) → Option (List ℕ)
unfit_behind word ws None = no_first_word word
unfit_behind word ws (Some kinds) = unfit_among ws kinds

-- of a question
abbrev pub unfit_in_question : List (List ℕ) → Option (List ℕ)
unfit_in_question [] = None
unfit_in_question (word ∷ ws) = unfit_behind word ws (asked_kinds_of word)

-- behind the first word of at K LINE
abbrev pub unfit_in_at : List (List ℕ) → Option (List ℕ)
unfit_in_at [] = None
unfit_in_at (name ∷ ws) = if list_all is_plain name then unfit_in_question ws else Some name

-- of any line
abbrev pub unfit_in_line : List (List ℕ) → Option (List ℕ)
unfit_in_line [] = None
unfit_in_line (word ∷ ws) = if same_word (codes "at") word then unfit_in_at ws else unfit_behind word ws (kinds_of word)

-- a word as a reply may show it
abbrev pub if_plain : List ℕ → Option (List ℕ)
if_plain word = if list_all is_plain word then Some word else None

-- the word at fault of a line of these words that can't be read
abbrev pub unreadable_word : List (List ℕ) → Option (List ℕ)
unreadable_word ws = option_and_then if_plain (unfit_in_line ws)
