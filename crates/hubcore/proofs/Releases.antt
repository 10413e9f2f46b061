-- A viewer lets go of a snapshot.
use Rattle.std.proofs.Common.{◌≡◌, ◌≤◌, ◌==◌, ℕ, suc, List, Option, Some, None, Result, Ok, ap, ◌∙◌, subst, All, take, drop}
use Rattle.std.specs.List.{position, remove, slice_get}
use Rattle.std.specs.Result.{IfOk, result_map_both}
use Rattle.std.proofs.lemmas.List.Elements.{All-append, All-take, All-drop}
use Rattle.hubcore.specs.declared.fault.CoreFault.{CoreFault}
use Rattle.hubcore.specs.declared.reply.Reply.TheVariants.{Done}
use Rattle.hubcore.specs.States.{ViewerRecord, CoreRecord}
use Rattle.hubcore.specs.kept.States.{IsWithin}
use Rattle.hubcore.specs.Steps.{released_at, released, releases, with_viewer}

-- what holds of all that is held holds without one
All-remove : (P : ℕ → Type 0) (xs : List ℕ) (i : ℕ) → All P xs → All P (remove xs i)
All-remove P xs i all = All-append P (take i xs) (drop (suc i) xs) (All-take P i xs all) (All-drop P (suc i) xs all)

released_at_within : (shown : ℕ) (v : ViewerRecord) (place : Option ℕ) → IsWithin shown v → IfOk (released_at v place) (IsWithin shown)
released_at_within shown v (Some place) within = (within.0, All-remove (λ length. length ≤ shown) v.held place within.1)
released_at_within shown v None within = tt

-- a viewer that knew only what is shown knows only that
pub released_within : (shown length : ℕ) (v : ViewerRecord) → IsWithin shown v → IfOk (released length v) (IsWithin shown)
released_within shown length v within = released_at_within shown v (position (λ k. k == length) v.held) within

-- the same of the viewer that it becomes
pub release_within : (shown length : ℕ) (v w : ViewerRecord) → released length v ≡ Ok w → IsWithin shown v → IsWithin shown w
release_within shown length v w ok within = subst (λ (r : Result ViewerRecord CoreFault). IfOk r (IsWithin shown)) ok (released_within shown length v within)

-- the state in which the viewer of a number let go
pub releases_done : (s : CoreRecord) (number length : ℕ) (v w : ViewerRecord) → slice_get s.viewers number ≡ Some v → released length v ≡ Ok w →
    releases s number length (slice_get s.viewers number) ≡ Ok (with_viewer s number w, Done)
releases_done s number length v w at ok =
    ap (releases s number length) at ∙ ap (result_map_both (λ w. (with_viewer s number w, Done)) (λ fault. fault)) ok
