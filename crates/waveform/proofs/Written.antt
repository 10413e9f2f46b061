-- What stands in the timelines once the entries of their places are written.
use Rattle.std.proofs.Common.{◌≡◌, ◌∙◌, refl, ℕ, ◌+◌, ◌<◌, ◌≤◌, Bool, List, [], ◌∷◌, ◌++◌, All, ap, sym, subst, map, length, get_or, set, append_assoc, arith, inl, inr}
use Rattle.std.proofs.lemmas.Bool.{cases_eq}
use Rattle.std.proofs.lemmas.List.{append-nil, ext_get_or, get_or_default, get_or-set_same, get_or-set_other, length-set}
use Rattle.std.proofs.lemmas.List.Elements.{All-nil, All-cons}
use Rattle.waveform.proofs.Chains.{entries_here, entries_elsewhere}
use Rattle.waveform.proofs.Noting.{length_with_notes}
use Rattle.waveform.specs.kept.Notes.{AreNoted, MayBeNoted, MayFollow, entries_at, noted, with_note, with_notes}

-- the timeline at the place of a note, and those at other places, once it is written
line_here : {A : Type 0} (lines : List (List (ℕ × A))) (note : ℕ × (ℕ × A)) (place : ℕ) → place < length lines → note.0 ≡ place →
    get_or (with_note lines note) place [] ≡ get_or lines place [] ++ note.1 ∷ []
line_here lines note place less here =
    subst (λ p. get_or (set lines note.0 (get_or lines note.0 [] ++ note.1 ∷ [])) p [] ≡ get_or lines p [] ++ note.1 ∷ []) here
    (get_or-set_same lines note.0 (get_or lines note.0 [] ++ note.1 ∷ []) [] (subst (λ p. p < length lines) (sym here) less))

line_elsewhere : {A : Type 0} (lines : List (List (ℕ × A))) (note : ℕ × (ℕ × A)) (place : ℕ) → (note.0 ≡ place → ⊥) →
    get_or (with_note lines note) place [] ≡ get_or lines place []
line_elsewhere lines note place other =
    get_or-set_other lines note.0 place (get_or lines note.0 [] ++ note.1 ∷ []) [] (λ h. other (sym h))

-- there are as many timelines
as_many : {A : Type 0} (lines : List (List (ℕ × A))) (note : ℕ × (ℕ × A)) → length (with_note lines note) ≡ length lines
as_many lines note = length-set lines note.0 (get_or lines note.0 [] ++ note.1 ∷ [])

-- each timeline has the entries of its place behind its own
entries_behind : {A : Type 0} (lines : List (List (ℕ × A))) (notes : List (ℕ × (ℕ × A))) (place : ℕ) → place < length lines →
    get_or (with_notes lines notes) place [] ≡ get_or lines place [] ++ entries_at place notes
entries_behind lines [] place less = sym (append-nil (get_or lines place []))
entries_behind lines (note ∷ notes) place less =
    let line = get_or lines place [] in
    let rest : get_or (with_notes (with_note lines note) notes) place [] ≡ get_or (with_note lines note) place [] ++ entries_at place notes =
    entries_behind (with_note lines note) notes place (subst (λ n. place < n) (sym (as_many lines note)) less) in
    elim (cases_eq note.0 place) [
      | inl here ↦ rest ∙ ap (λ l. l ++ entries_at place notes) (line_here lines note place less here)
          ∙ append_assoc line (note.1 ∷ []) (entries_at place notes) ∙ ap (λ es. line ++ es) (sym (entries_here place note notes here))
      | inr other ↦ rest ∙ ap (λ l. l ++ entries_at place notes) (line_elsewhere lines note place other)
          ∙ ap (λ es. line ++ es) (sym (entries_elsewhere place note notes other))
    ]

-- and they may be written behind them
entries_follow : {A : Type 0} (same : A → A → Bool) (drift : A → ℕ → A) (can : ℕ → A → Type 0) (lines : List (List (ℕ × A)))
    (notes : List (ℕ × (ℕ × A))) (place : ℕ) → place < length lines → AreNoted same drift can lines notes →
    MayFollow same drift can (get_or lines place []) (entries_at place notes)
entries_follow same drift can lines [] place less are = tt
entries_follow same drift can lines (note ∷ notes) place less are =
    let line = get_or lines place [] in
    let rest : MayFollow same drift can (get_or (with_note lines note) place []) (entries_at place notes) =
    entries_follow same drift can (with_note lines note) notes place (subst (λ n. place < n) (sym (as_many lines note)) less) are.1 in
    elim (cases_eq note.0 place) [
      | inl here ↦
          let may : MayBeNoted same drift can lines (place, note.1) = subst (λ p. MayBeNoted same drift can lines (p, note.1)) here are.0 in
          subst (MayFollow same drift can line) (sym (entries_here place note notes here))
          (may.1, may.2, may.3, subst (λ l. MayFollow same drift can l (entries_at place notes)) (line_here lines note place less here) rest)
      | inr other ↦
          subst (MayFollow same drift can line) (sym (entries_elsewhere place note notes other))
          (subst (λ l. MayFollow same drift can l (entries_at place notes)) (line_elsewhere lines note place other) rest)
    ]

-- the entries of a place are stored as those that are noted for it
entries_stored : {A E : Type 0} (stored : E → ℕ × A) (place : ℕ) (notes : List (ℕ × E)) →
    entries_at place (map (noted stored) notes) ≡ map stored (entries_at place notes)
entries_stored stored place [] = refl
entries_stored stored place (note ∷ notes) =
    elim (cases_eq note.0 place) [
      | inl here ↦ entries_here place (noted stored note) (map (noted stored) notes) here
          ∙ ap (λ es. stored note.1 ∷ es) (entries_stored stored place notes) ∙ ap (map stored) (sym (entries_here place note notes here))
      | inr other ↦ entries_elsewhere place (noted stored note) (map (noted stored) notes) other
          ∙ entries_stored stored place notes ∙ ap (map stored) (sym (entries_elsewhere place note notes other))
    ]

-- each note has the place of a timeline
pub places_within : {A E : Type 0} (same : A → A → Bool) (drift : A → ℕ → A) (can : ℕ → A → Type 0) (stored : E → ℕ × A)
    (lines : List (List (ℕ × A))) (notes : List (ℕ × E)) → AreNoted same drift can lines (map (noted stored) notes) →
    All (λ note. note.0 < length lines) notes
places_within same drift can stored lines [] are = All-nil (λ note. note.0 < length lines)
places_within same drift can stored lines (note ∷ notes) are =
    All-cons (λ n. n.0 < length lines) note notes are.0.0
    (subst (λ count. All (λ n. n.0 < count) notes) (as_many lines (noted stored note))
    (places_within same drift can stored (with_note lines (noted stored note)) notes are.1))

-- the timelines before a place are written, and the others are as they were
pub record AreWritten {A : Type 0} (was : List (List (ℕ × A))) (notes : List (ℕ × (ℕ × A))) (place : ℕ) (lines : List (List (ℕ × A))) : Type 0 where
  pub as_many : length lines ≡ length was
  pub written : (k : ℕ) → k < place → get_or lines k [] ≡ get_or (with_notes was notes) k []
  pub others : (k : ℕ) → place ≤ k → get_or lines k [] ≡ get_or was k []

pub none_written : {A : Type 0} (was : List (List (ℕ × A))) (notes : List (ℕ × (ℕ × A))) → AreWritten was notes 0 was
none_written was notes = record { as_many = refl; written = λ k less. absurd (omega arith); others = λ k less. refl }

-- the timeline at the place is as it was
line_before : {A : Type 0} (was : List (List (ℕ × A))) (notes : List (ℕ × (ℕ × A))) (place : ℕ) (lines : List (List (ℕ × A))) (line : List (ℕ × A)) →
    place < length was → line ≡ get_or lines place line → AreWritten was notes place lines → line ≡ get_or was place []
line_before was notes place lines line within read are =
    read ∙ get_or_default lines place line [] (omega (arith, are.as_many)) ∙ are.others place (omega arith)

pub line_follow : {A E : Type 0} (same : A → A → Bool) (drift : A → ℕ → A) (can : ℕ → A → Type 0) (stored : E → ℕ × A)
    (was : List (List (ℕ × A))) (notes : List (ℕ × E)) (place : ℕ) (lines : List (List (ℕ × A))) (line : List (ℕ × A)) → place < length was →
    line ≡ get_or lines place line → AreNoted same drift can was (map (noted stored) notes) → AreWritten was (map (noted stored) notes) place lines →
    MayFollow same drift can line (map stored (entries_at place notes))
line_follow same drift can stored was notes place lines line within read may are =
    subst (λ l. MayFollow same drift can l (map stored (entries_at place notes))) (sym (line_before was (map (noted stored) notes) place lines line within read are))
    (subst (MayFollow same drift can (get_or was place [])) (entries_stored stored place notes)
    (entries_follow same drift can was (map (noted stored) notes) place within may))

-- and once its entries are written, the timelines before the next place are
pub one_line_more : {A E : Type 0} (stored : E → ℕ × A)
    (was : List (List (ℕ × A))) (notes : List (ℕ × E)) (place : ℕ) (lines : List (List (ℕ × A))) (line new : List (ℕ × A)) → place < length was →
    line ≡ get_or lines place line → new ≡ line ++ map stored (entries_at place notes) → AreWritten was (map (noted stored) notes) place lines →
    AreWritten was (map (noted stored) notes) (place + 1) (set lines place new)
one_line_more stored was notes place lines line new within read is are =
    let whole = with_notes was (map (noted stored) notes) in
    let new_is : new ≡ get_or whole place [] =
    is ∙ ap (λ l. l ++ map stored (entries_at place notes)) (line_before was (map (noted stored) notes) place lines line within read are)
    ∙ ap (λ es. get_or was place [] ++ es) (sym (entries_stored stored place notes)) ∙ sym (entries_behind was (map (noted stored) notes) place within) in
    record {
      as_many = length-set lines place new ∙ are.as_many;
      written = λ k less. elim (cases_eq k place) [
        | inl here ↦ ap (λ i. get_or (set lines place new) i []) here ∙ get_or-set_same lines place new [] (omega (arith, are.as_many))
            ∙ new_is ∙ ap (λ i. get_or whole i []) (sym here)
        | inr other ↦ get_or-set_other lines place k new [] other ∙ are.written k (omega (arith, other))
      ];
      others = λ k less. get_or-set_other lines place k new [] (λ h. omega arith) ∙ are.others k (omega arith);
    }

pub all_written : {A : Type 0} (was : List (List (ℕ × A))) (notes : List (ℕ × (ℕ × A))) (place : ℕ) (lines : List (List (ℕ × A))) →
    length was ≤ place → AreWritten was notes place lines → lines ≡ with_notes was notes
all_written was notes place lines past are =
    ext_get_or [] lines (with_notes was notes) (are.as_many ∙ sym (length_with_notes was notes)) (λ k less. are.written k (omega (arith, are.as_many)))
