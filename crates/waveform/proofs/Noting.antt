-- Entries that are noted for timelines.
use Rattle.std.proofs.Common.{◌≡◌, ◌∙◌, refl, ℕ, Bool, List, [], ◌∷◌, ◌++◌, length}
use Rattle.std.proofs.lemmas.List.{length-set}
use Rattle.std.specs.Prelude.{slice_index_or}
use Rattle.waveform.specs.kept.Notes.{AreNoted, MayBeNoted, with_note, with_notes}

-- there are as many timelines
pub length_with_notes : {A : Type 0} (lines : List (List (ℕ × A))) (notes : List (ℕ × (ℕ × A))) → length (with_notes lines notes) ≡ length lines
length_with_notes lines [] = refl
length_with_notes lines (n ∷ notes) = length_with_notes (with_note lines n) notes ∙ length-set lines n.0 (slice_index_or lines n.0 [] ++ n.1 ∷ [])

-- one more entry is written last
pub one_more : {A : Type 0} (lines : List (List (ℕ × A))) (notes : List (ℕ × (ℕ × A))) (n : ℕ × (ℕ × A)) →
    with_notes lines (notes ++ n ∷ []) ≡ with_note (with_notes lines notes) n
one_more lines [] n = refl
one_more lines (m ∷ notes) n = one_more (with_note lines m) notes n

pub one_more_noted : {A : Type 0} (same : A → A → Bool) (drift : A → ℕ → A) (can : ℕ → A → Type 0) (lines : List (List (ℕ × A)))
    (notes : List (ℕ × (ℕ × A))) (n : ℕ × (ℕ × A)) → AreNoted same drift can lines notes → MayBeNoted same drift can (with_notes lines notes) n →
    AreNoted same drift can lines (notes ++ n ∷ [])
one_more_noted same drift can lines [] n are may = (may, tt)
one_more_noted same drift can lines (m ∷ notes) n are may = (are.0, one_more_noted same drift can (with_note lines m) notes n are.1 may)
