-- Timelines by place, and entries that are noted before they are written behind those of their timelines.
use Rattle.std.specs.Prelude.{◌≡◌, ◌==◌, ◌<◌, ℕ, Bool, false, List, [], ◌∷◌, ◌++◌, All, filter, length, map, slice_index_or, slice_set}
use Rattle.waveform.specs.kept.Timelines.{is_reached}

-- a note: the place of a timeline, and the moment and the value that are stored for it
abbrev pub noted : {A E : Type 0} → (E → ℕ × A) → ℕ × E → ℕ × (ℕ × A)
noted stored note = (note.0, stored note.1)

-- the timelines with an entry behind those of the one at a place
abbrev pub with_note : {A : Type 0} → List (List (ℕ × A)) → ℕ × (ℕ × A) → List (List (ℕ × A))
with_note lines note = slice_set lines note.0 (slice_index_or lines note.0 [] ++ note.1 ∷ [])

-- the timelines with all entries that are noted, one after another
abbrev pub with_notes : {A : Type 0} → List (List (ℕ × A)) → List (ℕ × (ℕ × A)) → List (List (ℕ × A))
with_notes lines [] = lines
with_notes lines (note ∷ notes) = with_notes (with_note lines note) notes

-- an entry may be written at a place: it lies after all entries that are there, it can be stored, and the last one has not
-- become it by itself
abbrev pub MayBeNoted : {A : Type 0} → (A → A → Bool) → (A → ℕ → A) → (ℕ → A → Type 0) → List (List (ℕ × A)) → ℕ × (ℕ × A) → Type 0
MayBeNoted same drift can lines note = (note.0 < length lines) × All (λ e. e.0 < note.1.0) (slice_index_or lines note.0 [])
    × can note.1.0 note.1.1 × (is_reached same drift (slice_index_or lines note.0 []) note.1.0 note.1.1 ≡ false)

-- so may each entry that is noted, once those before it are written
abbrev pub AreNoted : {A : Type 0} → (A → A → Bool) → (A → ℕ → A) → (ℕ → A → Type 0) → List (List (ℕ × A)) → List (ℕ × (ℕ × A)) → Type 0
AreNoted same drift can lines [] = Unit {0}
AreNoted same drift can lines (note ∷ notes) = MayBeNoted same drift can lines note × AreNoted same drift can (with_note lines note) notes

-- the entries that are noted for a place, in order
abbrev pub entries_at : {E : Type 0} → ℕ → List (ℕ × E) → List E
entries_at place notes = map (λ note. note.1) (filter (λ note. note.0 == place) notes)

-- entries may be written behind those of a timeline, one after another: each lies after all that are there by then, it can be
-- stored, and the last one has not become it by itself
abbrev pub MayFollow : {A : Type 0} → (A → A → Bool) → (A → ℕ → A) → (ℕ → A → Type 0) → List (ℕ × A) → List (ℕ × A) → Type 0
MayFollow same drift can line [] = Unit {0}
MayFollow same drift can line (entry ∷ entries) = All (λ e. e.0 < entry.0) line × can entry.0 entry.1
    × (is_reached same drift line entry.0 entry.1 ≡ false) × MayFollow same drift can (line ++ entry ∷ []) entries
