-- Snapshots that are held are from the bench's past.
use Rattle.std.proofs.Common.{◌≡◌, ℕ, Bool, true, false, not, cond, List, [], ◌∷◌, ◌++◌, Some, refl, subst}
use Rattle.std.specs.Prelude.{option_map}
use Rattle.std.specs.List.{AllByRecursion, filter, find}
use Rattle.bench.specs.Benches.{BenchRecord, IsPast, SnapshotRecord}
use Rattle.session.specs.Held.{held_as, without_held}
use Rattle.session.specs.kept.Held.{AreFromPast}
use Rattle.session.specs.Words.{same_word}

-- what is from the past stays so
pub all_past : (old new : BenchRecord) (held : List (List ℕ × SnapshotRecord)) → ((s : SnapshotRecord) → IsPast old s → IsPast new s) → AreFromPast old held → AreFromPast new held
all_past old new [] step all = tt
all_past old new (h ∷ held) step all = (step h.1 all.0, all_past old new held step all.1)

pub one_more : (bench : BenchRecord) (held : List (List ℕ × SnapshotRecord)) (name : List ℕ) (s : SnapshotRecord) → IsPast bench s → AreFromPast bench held → AreFromPast bench (held ++ (name, s) ∷ [])
one_more bench [] name s past all = (past, tt)
one_more bench (h ∷ held) name s past all = (all.0, one_more bench held name s past all.1)

filtered : (P : List ℕ × SnapshotRecord → Type 0) (p : List ℕ × SnapshotRecord → Bool) (held : List (List ℕ × SnapshotRecord)) → AllByRecursion P held → AllByRecursion P (filter p held)
filtered P p [] all = tt
filtered P p (h ∷ held) all =
    elim (p h) as (λ b. AllByRecursion P (cond b (h ∷ filter p held) (filter p held))) [ true ↦ (all.0, filtered P p held all.1) | false ↦ filtered P p held all.1 ]

pub freed : (bench : BenchRecord) (held : List (List ℕ × SnapshotRecord)) (name : List ℕ) → AreFromPast bench held → AreFromPast bench (without_held held name)
freed bench held name all = filtered (λ h. IsPast bench h.1) (λ h. not (same_word h.0 name)) held all

found_by : (P : SnapshotRecord → Type 0) (p : List ℕ × SnapshotRecord → Bool) (held : List (List ℕ × SnapshotRecord)) (s : SnapshotRecord) → option_map (λ h. h.1) (find p held) ≡ Some s
    → AllByRecursion (λ h. P h.1) held → P s
found_by P p [] s found all = absurd (cc)
found_by P p (h ∷ held) s found all =
    elim (p h) as (λ b. p h ≡ b → P s) [
      | true ↦ λ e. let is : h.1 ≡ s = (let at = rw e at found in cc) in subst P is all.0
      | false ↦ λ e. found_by P p held s (rw e at found) all.1
    ] refl

-- the one that is found by a name is from the past
pub past_found : (bench : BenchRecord) (held : List (List ℕ × SnapshotRecord)) (name : List ℕ) (s : SnapshotRecord) → held_as held name ≡ Some s → AreFromPast bench held → IsPast bench s
past_found bench held name s found all = found_by (IsPast bench) (λ h. same_word h.0 name) held s found all
