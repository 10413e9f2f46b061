-- What a session writes (own).
use Rattle.std.specs.Prelude.{ℕ, List, [], ◌∷◌, ◌++◌, Option, None, Some, codes, decimal}
use Rattle.fourstate.specs.declared.value.Value.{Value}
use Rattle.fourstate.specs.Values.{symbol_of}
use Rattle.listing.specs.Lines.{change_line}
use Rattle.listing.specs.Listings.{change_lines}
use Rattle.session.specs.declared.replies.refusal.Refusal.{Refusal}
use Rattle.session.specs.declared.replies.refusal.Refusal.TheVariants.{Edit, WorkerLost, BadCommand, LongLine, UnknownHold, NoBatch, InBatch}
use Rattle.edits.specs.EditFaults.{fault_code, fault_name}

abbrev pub refusal_code : Refusal → ℕ
refusal_code (Edit fault) = fault_code fault
refusal_code WorkerLost = 15
refusal_code BadCommand = 16
refusal_code LongLine = 17
refusal_code UnknownHold = 18
refusal_code NoBatch = 19
refusal_code InBatch = 20

abbrev pub refusal_name : Refusal → List ℕ
refusal_name (Edit fault) = fault_name fault
refusal_name WorkerLost = codes "WorkerLost"
refusal_name BadCommand = codes "BadCommand"
refusal_name LongLine = codes "LongLine"
refusal_name UnknownHold = codes "UnknownHold"
refusal_name NoBatch = codes "NoBatch"
refusal_name InBatch = codes "InBatch"

-- Lines, each with its line feed.

abbrev pub ok_line : ℕ → List ℕ
ok_line version = codes "ok " ++ decimal version ++ codes "\n"

-- what stands behind a refusal, where it names a word at fault
abbrev pub behind_refusal : Option (List ℕ) → List ℕ
behind_refusal None = []
behind_refusal (Some word) = codes " " ++ word

-- a refusal, and the word at fault if it names one
abbrev pub refusal_line : Refusal → Option (List ℕ) → List ℕ
refusal_line refusal word =
    codes "no " ++ decimal (refusal_code refusal) ++ codes " " ++ refusal_name refusal ++ behind_refusal word ++ codes "\n"

abbrev pub wave_lines : List (ℕ × Value) → List ℕ
wave_lines changes = change_lines changes

abbrev pub value_line : Value → List ℕ
value_line v = (symbol_of v ∷ []) ++ codes "\n"

-- a change that was looked for, if there is one
abbrev pub change_or_none : Option (ℕ × Value) → List ℕ
change_or_none None = codes "none\n"
change_or_none (Some change) = change_line change
