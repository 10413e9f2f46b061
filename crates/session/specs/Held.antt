-- Snapshots that are held by name (own).
use Rattle.std.specs.Prelude.{Bool, ℕ, not, nat_le, List, [], ◌∷◌, length, Option, option_map, is_some}
use Rattle.std.specs.List.{filter, find}
use Rattle.design.specs.Names.{is_name}
use Rattle.edits.specs.Checks.{first_fault}
use Rattle.edits.specs.declared.fault.EditFault.{EditFault}
use Rattle.edits.specs.declared.fault.EditFault.TheVariants.{BadName, DuplicateName, TooMany}
use Rattle.bench.specs.Benches.{SnapshotRecord}
use Rattle.session.specs.declared.held.TheConstants.{MAX_HELD}
use Rattle.session.specs.Words.{same_word}

-- Below, each snapshot stands behind its name.

-- the snapshot that is held under a name
abbrev pub held_as : List (List ℕ × SnapshotRecord) → List ℕ → Option SnapshotRecord
held_as held name = option_map (λ h. h.1) (find (λ h. same_word h.0 name) held)

-- a snapshot is held under the name
abbrev pub is_held : List (List ℕ × SnapshotRecord) → List ℕ → Bool
is_held held name = is_some (held_as held name)

-- what a name is checked for, in this order
abbrev pub hold_checks : List (List ℕ × SnapshotRecord) → List ℕ → List (Bool × EditFault)
hold_checks held name =
    (not (is_name name), BadName) ∷ (is_held held name, DuplicateName) ∷ (nat_le MAX_HELD (length held), TooMany) ∷ []

-- why a name may not be held, if it may not
abbrev pub hold_fault : List (List ℕ × SnapshotRecord) → List ℕ → Option EditFault
hold_fault held name = first_fault (hold_checks held name)

-- the others
abbrev pub without_held : List (List ℕ × SnapshotRecord) → List ℕ → List (List ℕ × SnapshotRecord)
without_held held name = filter (λ h. not (same_word h.0 name)) held
