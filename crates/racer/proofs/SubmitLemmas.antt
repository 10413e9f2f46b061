-- One commit more that an editor submits.
use Rattle.std.proofs.Common.{◌≡◌, ◌∙◌, ◌+◌, ◌<◌, ◌++◌, ◌∷◌, ℕ, List, [], ap, length, get_or, subst, sym, take}
use Rattle.std.proofs.lemmas.List.{take_more}
use Rattle.edits.specs.declared.edit.Edit.{Edit}
use Rattle.bench.specs.Benches.{SnapshotRecord}
use Rattle.hub.specs.Desks.{EditorRecord, answered}
use Rattle.racer.specs.kept.Submits.{HasSubmitted}

joined : (from : SnapshotRecord) (editor middle now : EditorRecord) (xs : List (List Edit)) (x : List Edit) → HasSubmitted from editor xs middle
    → HasSubmitted from middle (x ∷ []) now → HasSubmitted from editor (xs ++ x ∷ []) now
joined from editor middle now [] x before next = subst (λ (e : EditorRecord). HasSubmitted from e (x ∷ []) now) before next
joined from editor middle now (y ∷ ys) x before next = (before.0, before.1, joined from (answered editor before.0.reply before.0.told) middle now ys x before.2 next)

pub submitted_more : (from : SnapshotRecord) (editor middle now : EditorRecord) (all : List (List Edit)) (place : ℕ) (commit : List Edit) → place < length all
    → commit ≡ get_or all place commit → HasSubmitted from editor (take place all) middle → HasSubmitted from middle (commit ∷ []) now
    → HasSubmitted from editor (take (place + 1) all) now
submitted_more from editor middle now all place commit within here before next =
    let grown : take (place + 1) all ≡ take place all ++ commit ∷ [] = take_more all place commit within ∙ ap (λ (x : List Edit). take place all ++ x ∷ []) (sym here) in
    subst (λ (xs : List (List Edit)). HasSubmitted from editor xs now) (sym grown) (joined from editor middle now (take place all) commit before next)
