-- What is given on of the answers, as they are kept.
use Rattle.std.proofs.Common.{◌≡◌, ◌<◌, ◌+◌, ◌-◌, ◌++◌, ℕ, true, false, Option, Some, None, List, [], length, set, take, drop, refl, ap, ◌∙◌, sym, option_map, is_none, arith}
use Rattle.std.specs.Option.{IfSome, option_map_or}
use Rattle.std.proofs.lemmas.Grind.{common_steps}
use Rattle.gatestep.specs.Step.{State}
use Rattle.floor.proofs.Cuts.{first_all, first_begins}
use Rattle.floor.proofs.Standing.{joined_are, all_emptied}
use Rattle.floor.proofs.Changes.{stage_answered}
use Rattle.floor.specs.kept.Pieces.{Dealing, Answered, Finish, first_task, all_answered, finished, after}
use Rattle.floor.specs.kept.Held.{pieces_from}
use Rattle.floor.specs.declared.stage.Stage.{Stage}
use Rattle.floor.specs.declared.stage.Stage.TheVariants as stage

-- the pieces, where the answers are these or none
abbrev pub held : {V : Type 0} → (V → List State) → ℕ → List Stage → Option V → Dealing
held items n ss o = record { tasks = n; pieces = pieces_from n (length ss) 0 ss (option_map_or items o []); given = is_none o }

-- where each piece was answered, what is kept is given on
pub given_on : {V : Type 0} → (items : V → List State) (n : ℕ) (ss : List Stage) (o : Option V) → IfSome o (λ v. length (items v) ≡ n) → (0 < n → 0 < length ss) →
    all_answered (held items n ss o).pieces ≡ true → option_map items o ≡ finished (held items n ss o)
given_on items n ss None whole some all = refl
given_on items n ss (Some v) whole some all =
    let whole_too = first_all n (length ss) some ∙ sym whole in
    let same = joined_are n (length ss) 0 ss (items v) all (omega arith) whole_too ∙ ap (λ it. drop it (items v)) (first_begins n (length ss)) in
    rw all (ap Some (sym same))

-- and is kept no more
pub none_kept : {V : Type 0} → (items : V → List State) (n : ℕ) (ss : List Stage) (o : Option V) →
    all_answered (held items n ss o).pieces ≡ true → held items n ss None ≡ after (held items n ss o) Finish
none_kept items n ss None all = refl
none_kept items n ss (Some v) all = rw all (ap (λ it. record { tasks = n; pieces = it; given = true }) (all_emptied n (length ss) 0 ss (items v)))

-- the pieces, once one piece's answers are written
pub one_written : {V : Type 0} → (items : V → List State) (n : ℕ) (ss : List Stage) (o : Option V) (old new : V) (k : ℕ) (list : List State) →
    o ≡ Some old → IfSome o (λ v. length (items v) ≡ n) → k < length ss → length list ≡ first_task n (length ss) (k + 1) - first_task n (length ss) k →
    items new ≡ take (first_task n (length ss) k) (items old) ++ (list ++ drop (first_task n (length ss) (k + 1)) (items old)) →
    held items n (set ss k stage.Answered) (Some new) ≡ record { tasks = n; pieces = set (held items n ss o).pieces k (Answered list); given = is_none o }
one_written items n ss None old new k list is whole below long written = grind (arith, common_steps)
one_written items n ss (Some v) old new k list is whole below long written =
    let same : v ≡ old = grind (arith, common_steps) in
    let written_here = written ∙ ap (λ it. take (first_task n (length ss) k) (items it) ++ (list ++ drop (first_task n (length ss) (k + 1)) (items it))) (sym same) in
    rw written_here (ap (λ it. record { tasks = n; pieces = it; given = false }) (stage_answered n ss (items v) list k below whole long))
