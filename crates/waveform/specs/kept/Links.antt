-- Entries that are noted, linked by the numbers of their notes.
use Rattle.std.specs.Prelude.{◌≡◌, ◌-◌, ◌<◌, ◌≤◌, ℕ, List, [], ◌∷◌, length, slice_index_or}
use Rattle.waveform.specs.kept.Notes.{entries_at}
use Rattle.waveform.specs.declared.writing.Links.{Links}

-- the notes with these entries, from number `at` on: for each of them `next` has the number of the one after it, which is
-- larger. The first note has number 1, and 0 ends the chain
abbrev pub IsChain : {E : Type 0} → List (ℕ × E) → List ℕ → ℕ → ℕ → List E → Type 0
IsChain notes next before at [] = at ≡ 0
IsChain notes next before at (entry ∷ entries) = (before < at) × (at ≤ length notes) × (entry ≡ (slice_index_or notes (at - 1) (0, entry)).1)
    × IsChain notes next at (slice_index_or next (at - 1) 0) entries

-- for each place the chain of its notes
abbrev pub AreLinks : {E : Type 0} → List (ℕ × E) → ℕ → Links → Type 0
AreLinks notes places links = (length links.first.items ≡ places) × (length links.next.items ≡ length notes)
    × ((place : ℕ) → place < places → IsChain notes links.next.items 0 (slice_index_or links.first.items place 0) (entries_at place notes))
