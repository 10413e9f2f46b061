-- Commits one after another, accepted and refused.
use Rattle.std.proofs.Common.{◌≡◌, ◌+◌, ◌++◌, ℕ, Bool, true, false, cond, List, [], ◌∷◌, length, refl, sym, ap, subst, ◌∙◌, arith}
use Rattle.std.specs.Prelude.{Result, Ok, Err}
use Rattle.design.specs.Netlist.{Netlist}
use Rattle.edits.specs.declared.edit.Edit.{Edit}
use Rattle.edits.specs.declared.fault.EditFault.{EditFault}
use Rattle.edits.specs.declared.fault.EditFault.TheVariants.{TooMany}
use Rattle.edits.specs.Batches.{batch}
use Rattle.bench.specs.declared.fault.CommitFault.{CommitFault}
use Rattle.bench.specs.Benches.{SnapshotRecord}
use Rattle.bench.specs.Commits.{after, committed}
use Rattle.bench.specs.Histories.{LeadOn, Leads, accepted}

made_is : (last : Bool) (made : Result Netlist (ℕ × EditFault)) (d new : Netlist) → cond {A = Result Netlist (ℕ × EditFault)} last (Err (0, TooMany)) made ≡ Ok new → made ≡ Ok new
made_is true made d new e = cc
made_is false made d new e = e

design_step : (first next last : SnapshotRecord) (edits : List Edit) (answer : Result ℕ CommitFault) (commits : List (List Edit × Result ℕ CommitFault))
    → Leads first edits answer next → last.design ≡ after next.design (accepted commits) → last.design ≡ after first.design (accepted ((edits, answer) ∷ commits))
design_step first next last edits (Ok version) commits leads rest =
    let made : batch first.design edits ≡ Ok next.design = made_is _ (batch first.design edits) first.design next.design leads.0 in
    let same : committed first.design edits ≡ next.design = rw made refl in
    rest ∙ ap (λ (d : Netlist). after d (accepted commits)) (sym same)
design_step first next last edits (Err refused) commits leads rest = rest ∙ ap (λ (s : SnapshotRecord). after s.design (accepted commits)) leads

-- the design is what the accepted ones make
pub design_after : (first last : SnapshotRecord) (commits : List (List Edit × Result ℕ CommitFault)) → LeadOn first commits last
    → last.design ≡ after first.design (accepted commits)
design_after first last [] is = ap (λ (s : SnapshotRecord). s.design) is
design_after first last (commit ∷ commits) is =
    design_step first is.0 last commit.0 commit.1 commits is.1 (design_after is.0 last commits is.2)

version_step : (first next last : SnapshotRecord) (edits : List Edit) (answer : Result ℕ CommitFault) (commits : List (List Edit × Result ℕ CommitFault))
    → Leads first edits answer next → last.version ≡ next.version + length (accepted commits) → last.version ≡ first.version + length (accepted ((edits, answer) ∷ commits))
version_step first next last edits (Ok version) commits leads rest = omega arith
version_step first next last edits (Err refused) commits leads rest = rest ∙ ap (λ (s : SnapshotRecord). s.version + length (accepted commits)) leads

-- the version grows by their number
pub version_after : (first last : SnapshotRecord) (commits : List (List Edit × Result ℕ CommitFault)) → LeadOn first commits last
    → last.version ≡ first.version + length (accepted commits)
version_after first last [] is = ap (λ (s : SnapshotRecord). s.version) is ∙ omega arith
version_after first last (commit ∷ commits) is =
    version_step first is.0 last commit.0 commit.1 commits is.1 (version_after is.0 last commits is.2)

-- one commit more
pub one_more : (first now last : SnapshotRecord) (commits : List (List Edit × Result ℕ CommitFault)) (edits : List Edit) (answer : Result ℕ CommitFault)
    → LeadOn first commits now → Leads now edits answer last → LeadOn first (commits ++ (edits, answer) ∷ []) last
one_more first now last [] edits answer is leads = (last, subst (λ (s : SnapshotRecord). Leads s edits answer last) is leads, refl)
one_more first now last (commit ∷ commits) edits answer is leads = (is.0, is.1, one_more is.0 now last commits edits answer is.2 leads)
