-- What the lines of a session ask (own).
use Rattle.std.specs.Prelude.{ℕ, nat_lt, if◌then◌else◌, List, [], ◌∷◌, length, Option, None, Some, option_map, option_and_then}
use Rattle.std.specs.List.{list_all}
use Rattle.std.specs.Option.{option_map_or}
use Rattle.session.specs.declared.commands.command.Command.{Command}
use Rattle.session.specs.declared.commands.command.Command.TheVariants.{Skip, Change, Begin, Commit, Abort, Ask, Hold, Free, At, Quit, Unreadable, TooLong}
use Rattle.session.specs.declared.commands.command.TheConstants.{LINE_LIMIT}
use Rattle.session.specs.declared.commands.edit_line.EditLine.{EditLine}
use Rattle.session.specs.declared.commands.question.Query.TheVariants as query
use Rattle.session.specs.declared.commands.question.Question.{Question}
use Rattle.session.specs.declared.commands.question.Question.TheVariants.{Net, Vcd}
use Rattle.session.specs.declared.commands.verb.AskVerb.{AskVerb}
use Rattle.session.specs.declared.commands.verb.AskVerb.TheVariants as ask
use Rattle.session.specs.declared.commands.verb.Verb.{Verb}
use Rattle.session.specs.declared.commands.verb.Verb.TheVariants as verb
use Rattle.session.specs.EditLines.{edit_line_of}
use Rattle.session.specs.Lines.{without_return}
use Rattle.session.specs.Verbs.{verb_of}
use Rattle.session.specs.Words.{are_skipped, is_plain, name_and_time, no_words, number_of, one_word, three_words, value_of, words}

-- Each question from the words behind its first one, if they are readable.

abbrev pub value_question : List (List ℕ) → Option Question
value_question ws = option_map (λ w. Net (record { net = w.0; query = query.Value w.1 })) (name_and_time ws)

abbrev pub wave_question : List (List ℕ) → Option Question
wave_question ws = option_map (λ net. Net (record { net = net; query = query.Wave })) (one_word ws)

abbrev pub next_question : List (List ℕ) → Option Question
next_question ws = option_map (λ w. Net (record { net = w.0; query = query.Next w.1 })) (name_and_time ws)

abbrev pub prev_question : List (List ℕ) → Option Question
prev_question ws = option_map (λ w. Net (record { net = w.0; query = query.Prev w.1 })) (name_and_time ws)

abbrev pub seek_question : List (List ℕ) → Option Question
seek_question ws =
    option_and_then (λ w. option_and_then (λ time.
    option_map (λ v. Net (record { net = w.0; query = query.Seek time v })) (value_of w.2)) (number_of w.1)) (three_words ws)

abbrev pub vcd_question : List (List ℕ) → Option Question
vcd_question ws = if no_words ws then Some Vcd else None

-- the question that a verb asks with the words behind it, if they are readable
abbrev pub question_of : AskVerb → List (List ℕ) → Option Question
question_of ask.Value ws = value_question ws
question_of ask.Wave ws = wave_question ws
question_of ask.Next ws = next_question ws
question_of ask.Prev ws = prev_question ws
question_of ask.Seek ws = seek_question ws
question_of ask.Vcd ws = vcd_question ws

abbrev pub question_with : Verb → List (List ℕ) → Option Question
question_with (verb.Ask v) ws = question_of v ws
question_with _ ws = None

-- the question that words ask, its verb first
abbrev pub question_in : List (List ℕ) → Option Question
question_in [] = None
question_in (word ∷ ws) = option_and_then (λ v. question_with v ws) (verb_of word)

-- The command of a line.

abbrev pub change_of : Option EditLine → Command
change_of edit = option_map_or (λ e. Change e) edit Unreadable

abbrev pub ask_of : Option Question → Command
ask_of question = option_map_or (λ q. Ask q) question Unreadable

-- a command of one word
abbrev pub alone : List (List ℕ) → Command → Command
alone ws command = if no_words ws then command else Unreadable

-- hold K
abbrev pub hold_command : List (List ℕ) → Command
hold_command ws = option_map_or (λ name. Hold name) (one_word ws) Unreadable

-- free K
abbrev pub free_command : List (List ℕ) → Command
free_command ws = option_map_or (λ name. Free name) (one_word ws) Unreadable

-- at K LINE, where LINE is a question
abbrev pub at_command : List (List ℕ) → Command
at_command [] = Unreadable
at_command (name ∷ ws) = option_map_or (λ question. At name question) (question_in ws) Unreadable

-- the command of a verb and the words behind it
abbrev pub verb_command : Verb → List (List ℕ) → Command
verb_command (verb.Edit v) ws = change_of (edit_line_of v ws)
verb_command verb.Begin ws = alone ws Begin
verb_command verb.Commit ws = alone ws Commit
verb_command verb.Abort ws = alone ws Abort
verb_command (verb.Ask v) ws = ask_of (question_of v ws)
verb_command verb.Hold ws = hold_command ws
verb_command verb.Free ws = free_command ws
verb_command verb.At ws = at_command ws
verb_command verb.Quit ws = alone ws Quit

abbrev pub words_command : List (List ℕ) → Command
words_command [] = Skip
words_command (word ∷ ws) = option_map_or (λ v. verb_command v ws) (verb_of word) Unreadable

-- a line without words, or whose first word begins a comment, is skipped without a look at its bytes
abbrev pub command_within : List ℕ → Command
command_within line =
    if are_skipped (words line) then Skip else (if list_all is_plain line then words_command (words line) else Unreadable)

-- the command of a line without its line feed; a line that is too long is that, whatever it holds
abbrev pub command_of : List ℕ → Command
command_of line = if nat_lt LINE_LIMIT (length line) then TooLong else command_within (without_return line)
