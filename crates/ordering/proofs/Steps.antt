-- What is asked gate after gate, as it grows.
use Rattle.std.proofs.Common.{subst, ◌≡◌, ◌<◌, ◌∙◌, sym, ap, refl, ℕ, ◌+◌, List, [], ◌∷◌, ◌++◌, take, drop, length, get_or, Option, Some, None, IfSome, slice_get, append_assoc, append-nil, add-one}
use Rattle.std.specs.Borrow.{Bor}
use Rattle.std.specs.List.{flat_map}
use Rattle.std.specs.Option.{option_map_or}
use Rattle.std.proofs.Math.Seq.{drop-cons}
use Rattle.std.proofs.lemmas.List.{take-append-drop}
use Rattle.std.proofs.lemmas.List.Concat.{flat_map-append}
use Rattle.gatestep.proofs.Jobs.{none_is_part, parts_append, whole_is_part}
use Rattle.gatestep.specs.Jobs.{IsPart}
use Rattle.gatestep.specs.Step.{State, Evaluation}
use Rattle.catalog.proofs.ListLemmas.{slice_get_some}
use Rattle.design.specs.Netlist.{GateEntry, Netlist}
use Rattle.scratch.specs.Asked.{IsAskedInPart}
use Rattle.ordering.specs.kept.Gates.{gate_work_from}
use Rattle.ordering.specs.kept.OldRuns.{OldRunRecord, wanted_at}
use Rattle.ordering.specs.kept.Order.{order_work_from}
use Rattle.ordering.proofs.Marks.{one_taken}

module _ (answer : Evaluation → ℕ → State) (d : Netlist) (beside : Option (Bor OldRunRecord)) where
  abbrev gate_work : ℕ → GateEntry → (a n : ℕ) → List (Evaluation × ℕ)
  gate_work k g a n = gate_work_from answer d (wanted_at beside d k g) g a n

  module _ (a n : ℕ) (order : List ℕ) (i : ℕ) (low : i < length order) where
    abbrev f : ℕ → List (Evaluation × ℕ)
    f k = option_map_or (λ g. gate_work k g a n) (slice_get d.gates k) []

    module _ (old was new : List (Evaluation × ℕ)) (so_far : was ≡ old ++ order_work_from answer d beside a n (take i order)) (within : get_or order i 0 < length d.gates) where
      more_by : (o : Option GateEntry) → slice_get d.gates (get_or order i 0) ≡ o → IfSome o (λ g. new ≡ was ++ gate_work (get_or order i 0) g a n) → get_or order i 0 < length d.gates → new ≡ was ++ f (get_or order i 0)
      more_by None at more within = absurd (let x = slice_get_some d.gates (get_or order i 0) within in let e = x.1 in cc)
      more_by (Some g) at more within = more ∙ ap (λ o. was ++ option_map_or (λ g. gate_work (get_or order i 0) g a n) o []) (sym at)

      -- one gate more is asked
      pub one_asked : IfSome (slice_get d.gates (get_or order i 0)) (λ g. new ≡ was ++ gate_work (get_or order i 0) g a n) → new ≡ old ++ order_work_from answer d beside a n (take (i + 1) order)
      one_asked more =
          more_by (slice_get d.gates (get_or order i 0)) refl more within ∙ ap (λ l. l ++ f (get_or order i 0)) so_far
          ∙ append_assoc old (order_work_from answer d beside a n (take i order)) (f (get_or order i 0))
          ∙ ap (λ l. old ++ (order_work_from answer d beside a n (take i order) ++ l)) (sym (append-nil (f (get_or order i 0))))
          ∙ ap (λ l. old ++ l) (sym (flat_map-append f (take i order) (get_or order i 0 ∷ [])))
          ∙ ap (λ l. old ++ flat_map f l) (sym (one_taken order i low))

      whole : order_work_from answer d beside a n order ≡ order_work_from answer d beside a n (take i order) ++ (f (get_or order i 0) ++ flat_map f (drop (i + 1) order))
      whole =
          let front : drop i order ≡ get_or order i 0 ∷ drop (i + 1) order = rw add-one (drop-cons order i 0 low) in
          ap (flat_map f) (sym (take-append-drop i order)) ∙ flat_map-append f (take i order) (drop i order)
          ∙ ap (λ l. order_work_from answer d beside a n (take i order) ++ flat_map f l) front

      -- a fault while it was asked
      pub part_asked : IfSome (slice_get d.gates (get_or order i 0)) (λ g. IsAskedInPart was new (gate_work (get_or order i 0) g a n)) → IsAskedInPart old new (order_work_from answer d beside a n order)
      part_asked some = by (slice_get d.gates (get_or order i 0)) refl some
        where
          by : (o : Option GateEntry) → slice_get d.gates (get_or order i 0) ≡ o → IfSome o (λ g. IsAskedInPart was new (gate_work (get_or order i 0) g a n)) → IsAskedInPart old new (order_work_from answer d beside a n order)
          by None at some = absurd (let x = slice_get_some d.gates (get_or order i 0) within in let e = x.1 in cc)
          by (Some g) at some =
              let before = order_work_from answer d beside a n (take i order) in let later = flat_map f (drop (i + 1) order) in let work = gate_work (get_or order i 0) g a n in let piece = some.0 in
              let here : IsPart (piece ++ []) (work ++ later) = parts_append piece work [] later some.1 (none_is_part later) in
              let all : IsPart (before ++ (piece ++ [])) (before ++ (work ++ later)) = parts_append before before (piece ++ []) (work ++ later) (whole_is_part before) here in
              let are : before ++ (work ++ later) ≡ order_work_from answer d beside a n order
              = sym (whole ∙ ap (λ o. before ++ (option_map_or (λ g. gate_work (get_or order i 0) g a n) o [] ++ later)) at) in (
                before ++ piece,
                subst (λ l. IsPart (before ++ piece) l) are (subst (λ l. IsPart (before ++ l) (before ++ (work ++ later))) (append-nil piece) all),
                some.2 ∙ ap (λ l. l ++ piece) so_far ∙ append_assoc old before piece,
              )
