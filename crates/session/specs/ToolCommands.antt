-- The questions that tools ask beside the commands of a session (own).
use Rattle.std.specs.Prelude.{Bool, true, ◌&&◌, ℕ, nat_le, if◌then◌else◌, List, [], ◌∷◌, Option, None, Some, codes, option_map, option_and_then}
use Rattle.std.specs.List.{list_all}
use Rattle.std.specs.Option.{option_map_or, option_or}
use Rattle.session.specs.declared.commands.command.Command.{Command}
use Rattle.session.specs.declared.commands.command.Command.TheVariants.{At, Unreadable}
use Rattle.session.specs.declared.commands.question.ChangeName.{ChangeName}
use Rattle.session.specs.declared.commands.question.Listing.{Listing as Asked}
use Rattle.session.specs.declared.commands.question.Listing.TheVariants as listing
use Rattle.session.specs.declared.commands.question.Query.TheVariants as query
use Rattle.session.specs.declared.commands.question.Question.{Question}
use Rattle.session.specs.declared.commands.question.Question.TheVariants.{Diff, Listing, Net, Reach, Why}
use Rattle.session.specs.declared.commands.request.Request.{Request}
use Rattle.session.specs.declared.commands.request.Request.TheVariants.{Naming, Plain}
use Rattle.session.specs.declared.commands.tool.TheConstants.{MAX_PARTS}
use Rattle.session.specs.declared.commands.tool_verb.ToolVerb.{ToolVerb}
use Rattle.session.specs.declared.commands.tool_verb.ToolVerb.TheVariants as tool
use Rattle.session.specs.Commands.{ask_of, command_of, words_command}
use Rattle.session.specs.Lines.{without_return}
use Rattle.session.specs.ToolVerbs.{tool_verb_of}
use Rattle.session.specs.Words.{four_words, is_plain, name_and_time, no_words, number_of, one_word, same_word, three_words, words}

-- Each question from the words behind its first one, if they are readable.

-- a question of one word
abbrev pub listing_alone : List (List ℕ) → Asked → Option Question
listing_alone ws asked = if no_words ws then Some (Listing asked) else None

-- a question about what a name names
abbrev pub listing_named : List (List ℕ) → (List ℕ → Asked) → Option Question
listing_named ws asked = option_map (λ name. Listing (asked name)) (one_word ws)

-- window N FROM TO
abbrev pub whole_window : List (List ℕ) → Option Question
whole_window ws =
    option_and_then (λ w. option_and_then (λ from.
    option_map (λ to. Net (record { net = w.0; query = query.Window from to })) (number_of w.2)) (number_of w.1)) (three_words ws)

-- how many parts a word asks for
abbrev pub parts_of : List ℕ → Option ℕ
parts_of word = option_and_then (λ parts. if nat_le 1 parts && nat_le parts MAX_PARTS then Some parts else None) (number_of word)

-- window N FROM TO PARTS
abbrev pub window_in_parts : List (List ℕ) → Option Question
window_in_parts ws =
    option_and_then (λ w. option_and_then (λ from. option_and_then (λ to.
    option_map (λ parts. Net (record { net = w.0; query = query.Parts from to parts })) (parts_of w.3)) (number_of w.2)) (number_of w.1)) (four_words ws)

-- window N FROM TO, or window N FROM TO PARTS
abbrev pub window_question : List (List ℕ) → Option Question
window_question ws = option_or (whole_window ws) (window_in_parts ws)

-- a question about the change of a net at a moment
abbrev pub change_question : (ChangeName → Question) → List (List ℕ) → Option Question
change_question asked ws = option_map (λ w. asked (record { net = w.0; time = w.1 })) (name_and_time ws)

-- diff K
abbrev pub diff_question : List (List ℕ) → Option Question
diff_question ws = option_map (λ name. Diff name) (one_word ws)

-- the question that a verb asks with the words behind it, if they are readable
abbrev pub tool_question_of : ToolVerb → List (List ℕ) → Option Question
tool_question_of tool.Nets ws = listing_alone ws listing.Nets
tool_question_of tool.Inputs ws = listing_alone ws listing.Inputs
tool_question_of tool.Gates ws = listing_alone ws listing.Gates
tool_question_of tool.Gate ws = listing_named ws (λ name. listing.Gate name)
tool_question_of tool.Drivers ws = listing_named ws (λ name. listing.Drivers name)
tool_question_of tool.Readers ws = listing_named ws (λ name. listing.Readers name)
tool_question_of tool.Points ws = listing_named ws (λ name. listing.Points name)
tool_question_of tool.Window ws = window_question ws
tool_question_of tool.Why ws = change_question (λ change. Why change) ws
tool_question_of tool.Reach ws = change_question (λ change. Reach change) ws
tool_question_of tool.Diff ws = diff_question ws

-- the question that words ask, its verb first
abbrev pub tool_question_in : List (List ℕ) → Option Question
tool_question_in [] = None
tool_question_in (word ∷ ws) = option_and_then (λ v. tool_question_of v ws) (tool_verb_of word)

-- at K LINE, where LINE is such a question
abbrev pub tool_at_command : List (List ℕ) → Command
tool_at_command [] = Unreadable
tool_at_command (name ∷ ws) = option_map_or (λ question. At name question) (tool_question_in ws) Unreadable

-- the command of words that ask such a question, of the present version or of a held one
abbrev pub tool_command : List (List ℕ) → Command
tool_command [] = Unreadable
tool_command (word ∷ ws) = if same_word (codes "at") word then tool_at_command ws else ask_of (tool_question_in (word ∷ ws))

-- The command of the words behind `fault`: a command that is known without tools, or such a question. There is no empty one, none
-- that is skipped, and no second `fault`.

abbrev pub or_tool_command : List (List ℕ) → Command → Command
or_tool_command ws Unreadable = tool_command ws
or_tool_command ws command = command

abbrev pub named_command : List (List ℕ) → Command
named_command [] = Unreadable
named_command (word ∷ ws) = or_tool_command (word ∷ ws) (words_command (word ∷ ws))

-- a line is unreadable where it holds another byte
abbrev pub if_plain : List ℕ → Command → Command
if_plain line command = if list_all is_plain line then command else Unreadable

-- What a line of these words asks that is no command without tools: fault LINE asks what LINE asks, and that a refusal names the
-- word at fault.
abbrev pub tool_request : List ℕ → List (List ℕ) → Request
tool_request line [] = Plain Unreadable
tool_request line (word ∷ ws) =
    if same_word (codes "fault") word then Naming (if_plain line (named_command ws)) ws else Plain (if_plain line (tool_command (word ∷ ws)))

abbrev pub tool_request_within : List ℕ → Request
tool_request_within line = tool_request line (words line)

-- A line that is no command may ask so, where the questions of tools are known.
abbrev pub read_further : Bool → List ℕ → Command → Request
read_further true line Unreadable = tool_request_within (without_return line)
read_further tools line command = Plain command

-- what a line asks, by whether the questions of tools are known
abbrev pub request_by : Bool → List ℕ → Request
request_by tools line = read_further tools line (command_of line)

-- the command of a line, whether its refusal names a word or not
abbrev pub command_in : Request → Command
command_in (Plain command) = command
command_in (Naming command ws) = command
