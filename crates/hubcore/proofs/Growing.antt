-- Whatever happens, the log and what is shown of it grow, and snapshots stay.
use Rattle.std.proofs.Common.{◌≡◌, ◌≤◌, ◌+◌, ◌++◌, ◌∷◌, [], Bool, true, false, ℕ, List, length, take, Option, Some, None, Result, Ok, Err, refl, sym, ap, ◌∙◌, subst, arith, append_assoc, nat_lt, if◌then◌else◌}
use Rattle.std.specs.List.{slice_get}
use Rattle.std.specs.Result.{IsOk, IsOkAnd, result_map_both}
use Rattle.std.proofs.lemmas.List.{length-set, append-nil, take_all, take-append-le}
use Rattle.std.proofs.lemmas.Option.{slice_get_within, slice_get-get_or}
use Rattle.edits.specs.declared.edit.Edit.{Edit}
use Rattle.bench.specs.Benches.{SnapshotRecord, snapshot_of}
use Rattle.bench.specs.Commits.{after, commit_of, committed}
use Rattle.hubcore.specs.declared.event.Event.{Event}
use Rattle.hubcore.specs.declared.event.Event.TheVariants.{Submit, Show, Look, Learn, Release}
use Rattle.hubcore.specs.declared.fault.CoreFault.{CoreFault}
use Rattle.hubcore.specs.declared.fault.CoreFault.TheVariants.{AheadOfLog}
use Rattle.hubcore.specs.declared.reply.Reply.TheVariants.{Done}
use Rattle.hubcore.specs.States.{ViewerRecord, CoreRecord, opened}
use Rattle.hubcore.specs.kept.States.{Follows, IsSound}
use Rattle.hubcore.specs.Steps.{looked, learned, released, looks, learns, releases, step, with_viewer}
use Rattle.hubcore.specs.kept.Steps.{GivesAtLeast, taken, state_after}
use Rattle.hubcore.specs.kept.Snapshots.{Accepts, AreLegal, IsLegal, snapshot_at}
use Rattle.hubcore.proofs.Sound.{step_sound, taken_sound, viewer_within}

-- One event.

-- the second state differs from the first in one viewer at most
record Alike (s t : CoreRecord) : Type 0 where
  log : t.log ≡ s.log
  shown : t.shown ≡ s.shown
  viewers : length t.viewers ≡ length s.viewers

alike_same : (s : CoreRecord) → Alike s s
alike_same s = record { log = refl; shown = refl; viewers = refl }

alike_with : (s : CoreRecord) (number : ℕ) (v : ViewerRecord) → Alike s (with_viewer s number v)
alike_with s number v = record { log = refl; shown = refl; viewers = length-set s.viewers number v }

alike_looks : (s : CoreRecord) (number : ℕ) (o : Option ViewerRecord) → Alike s (taken s (looks s number o))
alike_looks s number (Some v) = alike_with s number (looked s.shown v)
alike_looks s number None = alike_same s

alike_told : (s : CoreRecord) (number length : ℕ) (v : ViewerRecord) (b : Bool) →
    Alike s (taken s (if b then Err AheadOfLog else Ok (with_viewer s number (learned length v), Done)))
alike_told s number length v true = alike_same s
alike_told s number length v false = alike_with s number (learned length v)

alike_learns : (s : CoreRecord) (number length : ℕ) (o : Option ViewerRecord) → Alike s (taken s (learns s number length o))
alike_learns s number length (Some v) = alike_told s number length v (nat_lt s.shown length)
alike_learns s number length None = alike_same s

alike_let_go : (s : CoreRecord) (number : ℕ) (r : Result ViewerRecord CoreFault) →
    Alike s (taken s (result_map_both (λ w. (with_viewer s number w, Done)) (λ fault. fault) r))
alike_let_go s number (Ok w) = alike_with s number w
alike_let_go s number (Err fault) = alike_same s

alike_releases : (s : CoreRecord) (number length : ℕ) (o : Option ViewerRecord) → Alike s (taken s (releases s number length o))
alike_releases s number length (Some v) = alike_let_go s number (released length v)
alike_releases s number length None = alike_same s

follows_alike : (s t : CoreRecord) → Alike s t → Follows s t
follows_alike s t alike =
    let shown = alike.shown in
    record { shown = omega (arith, shown); log = ([], alike.log ∙ sym (append-nil s.log)); viewers = alike.viewers }

-- an event makes of a sound state one that may come after it
step_follows : (s : CoreRecord) (event : Event) → IsSound s → Follows s (taken s (step s event))
step_follows s (Submit edits (Ok version)) sound = record { shown = omega arith; log = (edits.items ∷ [], refl); viewers = refl }
step_follows s (Submit edits (Err fault)) sound = follows_alike s s (alike_same s)
step_follows s Show sound = record { shown = sound.0; log = ([], sym (append-nil s.log)); viewers = refl }
step_follows s (Look number) sound = follows_alike s (taken s (step s (Look number))) (alike_looks s number (slice_get s.viewers number))
step_follows s (Learn number length) sound =
    follows_alike s (taken s (step s (Learn number length))) (alike_learns s number length (slice_get s.viewers number))
step_follows s (Release number length) sound =
    follows_alike s (taken s (step s (Release number length))) (alike_releases s number length (slice_get s.viewers number))

-- Lists of events.

follows_on : (s t u : CoreRecord) → Follows s t → Follows t u → Follows s u
follows_on s t u one two =
    let near = one.shown in
    let far = two.shown in
    let first = one.log.0 in
    let second = two.log.0 in
    record {
      shown = omega (arith, near, far);
      log = (first ++ second, two.log.1 ∙ ap (λ log. log ++ second) one.log.1 ∙ append_assoc s.log first second);
      viewers = two.viewers ∙ one.viewers;
    }

pub after_follows : (s : CoreRecord) (events : List Event) → IsSound s → Follows s (state_after s events)
after_follows s [] sound = follows_alike s s (alike_same s)
after_follows s (event ∷ events) sound =
    let t : CoreRecord = taken s (step s event) in
    follows_on s t (state_after t events) (step_follows s event sound) (after_follows t events (taken_sound s (step s event) (step_sound s event sound) sound))

-- Looks.

looks_give : (s : CoreRecord) (number length : ℕ) (o : Option ViewerRecord) → ((o ≡ None) → ⊥) → length ≤ s.shown →
    IsOkAnd (looks s number o) (λ done. GivesAtLeast length done.1)
looks_give s number length (Some v) there below = below
looks_give s number length None there below = absurd (there refl)

some_is : {A : Type 0} (o : Option A) (x : A) → o ≡ Some x → (o ≡ None) → ⊥
some_is o x is none = cc (is, none)

-- no look gives less than what a viewer saw or was told of before
pub looks_on : (s : CoreRecord) (events : List Event) (number : ℕ) (v : ViewerRecord) → IsSound s → slice_get s.viewers number ≡ Some v →
    IsOkAnd (step (state_after s events) (Look number)) (λ done. GivesAtLeast v.seen done.1)
looks_on s events number v sound at =
    let t : CoreRecord = state_after s events in
    let follows = after_follows s events sound in
    let grown = follows.shown in
    let seen = (viewer_within s number sound v at).0 in
    let as_many = follows.viewers in
    let inside = slice_get_within s.viewers number v at in
    looks_give t number v.seen (slice_get t.viewers number) (some_is (slice_get t.viewers number) _ (slice_get-get_or t.viewers number v (omega (arith, as_many, inside)))) (omega (arith, seen, grown))

-- Snapshots.

-- the snapshot of a length that is shown stays
pub snapshot_stays : (from : SnapshotRecord) (s : CoreRecord) (events : List Event) (k : ℕ) → IsSound s → k ≤ s.shown →
    snapshot_at from (state_after s events).log k ≡ snapshot_at from s.log k
snapshot_stays from s events k sound below =
    let follows = after_follows s events sound in
    let rest = follows.log.0 in
    let within = sound.0 in
    ap (λ log. snapshot_of (from.version + k) (after from.design log)) (ap (take k) follows.log.1 ∙ take-append-le k s.log rest (omega (arith, below, within)))

-- Commits.

accepts_more : (s : SnapshotRecord) (log : List (List Edit)) (edits : List Edit) → Accepts s log →
    IsOk (commit_of (s.version + length log) (after s.design log) edits) → Accepts s (log ++ edits ∷ [])
accepts_more s [] edits made ok =
    let none : s.version + 0 ≡ s.version = omega arith in
    (subst (λ (n : ℕ). IsOk (commit_of n s.design edits)) none ok, tt)
accepts_more s (first ∷ log) edits made ok =
    let t : SnapshotRecord = snapshot_of (s.version + 1) (committed s.design first) in
    let one_on : s.version + length (first ∷ log) ≡ s.version + 1 + length log = omega arith in
    (made.0, accepts_more t log edits made.1 (subst (λ (n : ℕ). IsOk (commit_of n (after t.design log) edits)) one_on ok))

accepts_alike : (from : SnapshotRecord) (s t : CoreRecord) → Alike s t → Accepts from s.log → Accepts from t.log
accepts_alike from s t alike made = subst (Accepts from) (sym alike.log) made

step_accepts : (from : SnapshotRecord) (s : CoreRecord) (event : Event) → IsLegal from s event → Accepts from s.log → Accepts from (taken s (step s event)).log
step_accepts from s (Submit edits (Ok version)) legal made =
    let all : take (length s.log) s.log ≡ s.log = take_all (length s.log) s.log (omega arith) in
    let ok : IsOk (commit_of (from.version + length s.log) (after from.design s.log) edits.items) =
    subst (λ (log : List (List Edit)). IsOk (commit_of (from.version + length s.log) (after from.design log) edits.items)) all legal.0
    in
    accepts_more from s.log edits.items made ok
step_accepts from s (Submit edits (Err fault)) legal made = made
step_accepts from s Show legal made = made
step_accepts from s (Look number) legal made =
    accepts_alike from s (taken s (step s (Look number))) (alike_looks s number (slice_get s.viewers number)) made
step_accepts from s (Learn number length) legal made =
    accepts_alike from s (taken s (step s (Learn number length))) (alike_learns s number length (slice_get s.viewers number)) made
step_accepts from s (Release number length) legal made =
    accepts_alike from s (taken s (step s (Release number length))) (alike_releases s number length (slice_get s.viewers number)) made

after_accepts : (from : SnapshotRecord) (s : CoreRecord) (events : List Event) → AreLegal from s events → Accepts from s.log → Accepts from (state_after s events).log
after_accepts from s [] legal made = made
after_accepts from s (event ∷ events) legal made = after_accepts from (taken s (step s event)) events legal.1 (step_accepts from s event legal.0 made)

-- the snapshot that the editors began with accepts each commit of the log
pub opened_accepts : (from : SnapshotRecord) (viewers : ℕ) (events : List Event) → AreLegal from (opened viewers) events →
    Accepts from (state_after (opened viewers) events).log
opened_accepts from viewers events legal = after_accepts from (opened viewers) events legal tt
