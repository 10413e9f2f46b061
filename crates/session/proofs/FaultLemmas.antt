-- Words at fault.
use Rattle.std.proofs.Common.{◌≡◌, ◌≢◌, ℕ, List, Bool, true, false, cond, None, Err, refl, ap, ◌∙◌, eqb}
use Rattle.std.specs.Prelude.{◌-◌, ◌^◌}
use Rattle.design.specs.Netlist.{Netlist}
use Rattle.edits.specs.declared.edit.Edit.{Edit}
use Rattle.edits.specs.declared.fault.EditFault.{EditFault}
use Rattle.edits.specs.declared.fault.EditFault.TheVariants as fault
use Rattle.edits.specs.Batches.{batch}
use Rattle.bench.specs.Benches.{SnapshotRecord}
use Rattle.bench.specs.Commits.{commit_of}
use Rattle.session.specs.declared.replies.refusal.Refusal.{Refusal}
use Rattle.session.specs.declared.replies.refusal.Refusal.TheVariants as refusal
use Rattle.session.specs.WordsAtFault.{commit_word, list_word, word_at}

-- the word of a fault other than want of memory
by_list : (s : SnapshotRecord) (edits : List Edit) (f : EditFault) → f ≢ fault.OutOfMemory
    → commit_word s edits (refusal.Edit f) ≡ cond (eqb s.version (2 ^ 64 - 1)) None (list_word s.design edits (batch s.design edits))
by_list s edits fault.OutOfMemory other = absurd (other refl)
by_list s edits _ other = refl

by_version : (d : Netlist) (edits : List Edit) (b : Bool) (place : ℕ) (f : EditFault) → b ≡ false → cond b (Err (0, fault.TooMany)) (batch d edits) ≡ Err (place, f)
    → cond b None (list_word d edits (batch d edits)) ≡ word_at d edits place f
by_version d edits true place f e refused = absurd (cc)
by_version d edits false place f e refused = ap (list_word d edits) refused

-- the word of the edit that is refused
pub named : (s : SnapshotRecord) (edits : List Edit) (place : ℕ) (f : EditFault) → eqb s.version (2 ^ 64 - 1) ≡ false → f ≢ fault.OutOfMemory
    → commit_of s.version s.design edits ≡ Err (place, f) → commit_word s edits (refusal.Edit f) ≡ word_at s.design edits place f
named s edits place f e other refused =
    by_list s edits f other ∙ by_version s.design edits (eqb s.version (2 ^ 64 - 1)) place f e refused

at_end : (s : SnapshotRecord) (edits : List Edit) (f : EditFault) (b : Bool) → eqb s.version (2 ^ 64 - 1) ≡ b → b ≡ true → commit_word s edits (refusal.Edit f) ≡ None
at_end s edits fault.OutOfMemory b e is = refl
at_end s edits _ b e is = rw (e ∙ is) refl

-- at the greatest version there is none
pub unnamed : (s : SnapshotRecord) (edits : List Edit) (f : EditFault) → eqb s.version (2 ^ 64 - 1) ≡ true → commit_word s edits (refusal.Edit f) ≡ None
unnamed s edits f e = at_end s edits f (eqb s.version (2 ^ 64 - 1)) refl e
