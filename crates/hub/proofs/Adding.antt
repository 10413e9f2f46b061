-- The step that adds a commit keeps the rule of the book.
use Rattle.std.proofs.Common.{◌≡◌, ℕ, ◌+◌, ◌<◌, ◌==◌, Bool, true, false, List, [], ◌∷◌, ◌++◌, length, refl, ap, sym, subst, arith, inl, length-append, None}
use Rattle.std.proofs.lemmas.List.{append-nil}
use Rattle.std.proofs.lemmas.Bool.Decides.{nat_tests}
use mathlib.Core.List.{IsPrefix}
use prog.Atomic.{either}
use Rattle.logbook.specs.Pages.{Cell, Goes, Moves, cell, keeps, no_nib, step}
use Rattle.hubcore.specs.Lists.{EntryRecord}
use Rattle.hub.specs.kept.Histories.{Adds, IsCounted}
use Rattle.hub.proofs.Beginnings.{as_long}

-- nobody else keeps anything beside the book
abbrev nothing_shown : List EntryRecord → List EntryRecord
nothing_shown log = []

abbrev any_move : List EntryRecord → List EntryRecord → ℕ → Type 0
any_move before after answer = Unit {0}

abbrev set_to : ℕ → ℕ → ℕ
set_to old found = either (found == old) (old + 1) found

module _ (log seen : List EntryRecord) (e : EntryRecord) (old : ℕ) (long : length seen ≡ old) (front : IsPrefix seen log) where
  abbrev Told : ℕ → Type 0
  Told found = Goes IsCounted nothing_shown any_move 0 (seen, (no_nib, None)) (set_to old) (Adds (step 0 old (old + 1) e) (seen, (no_nib, None))) ((length log, true) ∷ (0, true) ∷ []) log

  goes : (b : Bool) → (length log == old) ≡ b → Told old
  goes true is =
      let here : length log ≡ old = grind (arith, nat_tests) in
      let same : seen ≡ log = as_long log seen (front.0, sym front.1) (omega (arith, here, long)) in
      let count : set_to old (length log) ≡ length (log ++ e ∷ []) = rw is (omega (arith, here, length-append log (e ∷ []))) in (
        keeps,
        e ∷ [],
        None,
        tt,
        ap (λ (n : ℕ). (n, true) ∷ (0, true) ∷ []) count,
        inl (refl, refl),
        rw is (ap (λ l. l ++ e ∷ []) (sym same)),
      )
  goes false is =
      let all : log ++ [] ≡ log = append-nil log in
      let count : set_to old (length log) ≡ length (log ++ []) = rw is (ap length (sym all)) in (
        keeps,
        [],
        None,
        tt,
        ap (λ (n : ℕ). (n, true) ∷ (0, true) ∷ []) count,
        inl (refl, refl),
        rw is (ap length all),
      )

-- whatever the book is, the step adds the commit behind all that was seen, or finds that the book has more
pub adds : (seen : List EntryRecord) (e : EntryRecord) (old : ℕ) → length seen ≡ old →
    Moves IsCounted nothing_shown any_move 0 (seen, (no_nib, None)) (set_to old) (Adds (step 0 old (old + 1) e) (seen, (no_nib, None)))
adds seen e old long cells log kept front away =
    let P : List Cell → Type 0 = λ c. (0 < length c) × ((cell c 0).1 ≡ true)
    × Goes IsCounted nothing_shown any_move 0 (seen, (no_nib, None)) (set_to old) (Adds (step 0 old (old + 1) e) (seen, (no_nib, None))) c log in
    subst P (sym kept) (omega arith, refl, goes log seen e old long front (length log == old) refl)
