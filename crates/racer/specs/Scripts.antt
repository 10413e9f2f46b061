-- The scripts of a race: lines that a session could read, whose edits make commits (own).
use Rattle.std.specs.Prelude.{◌≡◌, ℕ, ◌+◌, List, [], ◌∷◌, ◌++◌, Option, None, Some, Result, Ok, Err, if◌then◌else◌}
use Rattle.std.specs.Option.{option_map_or}
use Rattle.edits.specs.declared.edit.Edit.{Edit}
use Rattle.session.specs.Commands.{command_of}
use Rattle.session.specs.LineReadings.{reading_of}
use Rattle.session.specs.Lines.{lines}
use Rattle.session.specs.Steps.{has_room}
use Rattle.session.specs.declared.said.Line.{Line}
use Rattle.session.specs.declared.said.Line.TheVariants as line
use Rattle.session.specs.declared.said.LineFault.{LineFault}
use Rattle.racer.specs.declared.script.ScriptFault.{ScriptFault}
use Rattle.racer.specs.declared.script.ScriptFault.TheVariants.{Line as BadLine, OutOfMemory}

-- the commits so far, each a list of edits, and the edits of the batch, where one is open
pub record ScriptRecord : Type 0 where
  pub commits : List (List Edit)
  pub batch : Option (List Edit)

abbrev pub empty : ScriptRecord
empty = record { commits = []; batch = None }

-- Below, what a line makes of a script: nothing where it can't stand there.

-- outside a batch an edit is a commit by itself; in a batch it is kept, as long as there is room
abbrev pub with_edit : List (List Edit) → Option (List Edit) → Edit → Option ScriptRecord
with_edit commits None edit = Some (record { commits = commits ++ (edit ∷ []) ∷ []; batch = None })
with_edit commits (Some edits) edit =
    if has_room edits then Some (record { commits = commits; batch = Some (edits ++ edit ∷ []) }) else None

abbrev pub with_begin : List (List Edit) → Option (List Edit) → Option ScriptRecord
with_begin commits None = Some (record { commits = commits; batch = Some [] })
with_begin commits (Some edits) = None

abbrev pub with_commit : List (List Edit) → Option (List Edit) → Option ScriptRecord
with_commit commits None = None
with_commit commits (Some edits) = Some (record { commits = commits ++ edits ∷ []; batch = None })

abbrev pub with_abort : List (List Edit) → Option (List Edit) → Option ScriptRecord
with_abort commits None = None
with_abort commits (Some edits) = Some (record { commits = commits; batch = None })

-- a line that can't be read stands nowhere; what edits nothing stands anywhere
abbrev pub with_said : ScriptRecord → Result Line LineFault → Option ScriptRecord
with_said s (Ok line.Skip) = Some s
with_said s (Ok line.Other) = Some s
with_said s (Ok (line.Edit edit)) = with_edit s.commits s.batch edit
with_said s (Ok line.Begin) = with_begin s.commits s.batch
with_said s (Ok line.Commit) = with_commit s.commits s.batch
with_said s (Ok line.Abort) = with_abort s.commits s.batch
with_said s (Err fault) = None

abbrev pub with_line : ScriptRecord → List ℕ → Option ScriptRecord
with_line s text = with_said s (reading_of (command_of text))

-- what lines make of a script, or the number of the first one that can't stand where it stands; the first of them has this number
abbrev pub with_lines : ℕ → ScriptRecord → List (List ℕ) → Result ScriptRecord ℕ
with_lines number s [] = Ok s
with_lines number s (text ∷ texts) = option_map_or (λ t. with_lines (number + 1) t texts) (with_line s text) (Err number)

-- the script that a text writes, or the number of its first bad line; the first line of a text has the number 1
abbrev pub script_of : List ℕ → Result ScriptRecord ℕ
script_of text = with_lines 1 empty (lines text)

-- why a text is no script
abbrev pub IsScriptFault : List ℕ → ScriptFault → Type 0
IsScriptFault text (BadLine number) = script_of text ≡ Err number
IsScriptFault text OutOfMemory = Unit {0}
