-- What the lists of commits keep: what is known is a beginning of what is there, as long as the state says.
use Rattle.std.specs.Prelude.{◌≡◌, ℕ, List, [], ◌∷◌, ◌++◌, length, map, take, All, slice_index_or, slice_set, Ok, Err}
use Rattle.hubcore.specs.declared.event.Event.{Event}
use Rattle.hubcore.specs.declared.event.Event.TheVariants.{Submit, Show, Look, Learn, Release}
use Rattle.hubcore.specs.States.{CoreRecord, ViewerRecord}
use Rattle.hubcore.specs.Lists.{EntryRecord, entry, StartsWith, longer, lists_of}

-- the log, the commits that are shown, and those that each viewer saw or was told of
pub record Known : Type 0 where
  pub log : List EntryRecord
  pub shown : List EntryRecord
  pub viewers : List (List EntryRecord)

abbrev pub known : List EntryRecord → List EntryRecord → List (List EntryRecord) → Known
known log shown viewers = record { log = log; shown = shown; viewers = viewers }

-- what is shown is a beginning of the log, and what a viewer knows a beginning of that
pub record IsKnown (k : Known) : Type 0 where
  pub within : StartsWith k.log k.shown
  pub seen : All (StartsWith k.shown) k.viewers

-- the lengths of these lists are those of a state
pub record HasLengths (k : Known) (s : CoreRecord) : Type 0 where
  pub edits : s.log ≡ lists_of k.log
  pub count : s.shown ≡ length k.shown
  pub counts : map (λ (v : ViewerRecord). v.seen) s.viewers ≡ map (λ (front : List EntryRecord). length front) k.viewers

-- the lists after an event, which is a commit of this editor where it is a commit: a look gives what is shown, and a viewer that is
-- told of a beginning of it keeps the longer of that and what it knew
abbrev pub known_after : Known → ℕ → Event → Known
known_after k editor (Submit edits (Ok version)) = known (k.log ++ entry editor edits.items ∷ []) k.shown k.viewers
known_after k editor (Submit edits (Err fault)) = k
known_after k editor Show = known k.log k.log k.viewers
known_after k editor (Look number) = known k.log k.shown (slice_set k.viewers number k.shown)
known_after k editor (Learn number length) =
    known k.log k.shown (slice_set k.viewers number (longer (slice_index_or k.viewers number []) (take length k.shown)))
known_after k editor (Release number length) = k

-- the lists are beginnings of one another, and have the lengths of the state
abbrev pub Stands : Known → CoreRecord → Type 0
Stands k s = IsKnown k × HasLengths k s
