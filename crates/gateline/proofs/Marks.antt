-- Nets whose waves are found, by their marks.
use Rattle.std.proofs.Common.{◌≡◌, ◌<◌, ◌≤◌, ◌++◌, ◌∙◌, ap, sym, subst, true, Bool, ℕ, zero, suc, List, [], ◌∷◌, map, Some, slice_get, length, arith, ⊎_elim}
use Rattle.std.proofs.lemmas.Bool.{cases_lt}
use Rattle.std.proofs.lemmas.List.{length-map}
use Rattle.std.proofs.lemmas.Option.{slice_get_past}
use Rattle.design.specs.Netlist.{Netlist}
use Rattle.fourstate.specs.declared.value.Value.{Value}
use Rattle.gatestep.specs.Step.{State, Evaluation}
use Rattle.gateline.specs.kept.Known.{AreFound, AreKnown, AreMarked, AreSupplied, AreTraced, IsKnown, IsMarked, KeepsMarks}
use Rattle.scratch.proofs.Between.{alike}
use Rattle.scratch.specs.Run.{wave_of}
use Rattle.scratch.specs.declared.wiring.Input.{Input}
use Rattle.scratch.specs.declared.wiring.Input.TheVariants.{At, Fixed}
use Rattle.scratch.specs.kept.Run.{trace_of}

-- marks that stay
module _ (old new : List Bool) (keeps : KeepsMarks old new) (many : length new ≡ length old) where
  keep : (input : Input) → IsMarked old input → IsMarked new input
  keep (At m) marked = λ low. keeps m (marked (omega arith))
  keep (Fixed v) marked = tt

  pub keep_all : (inputs : List Input) → AreMarked old inputs → AreMarked new inputs
  keep_all [] marked = tt
  keep_all (input ∷ inputs) marked = (keep input marked.0, keep_all inputs marked.1)

-- one more
pub marked_more : (found : List Bool) (inputs : List Input) (input : Input) → AreMarked found inputs → IsMarked found input → AreMarked found (inputs ++ input ∷ [])
marked_more found [] input marked one = (one, tt)
marked_more found (x ∷ inputs) input marked one = (marked.0, marked_more found inputs input marked.1 one)

module _ (answer : Evaluation → ℕ → State) (d : Netlist) where
  module _ (found : List Bool) (waves : List (List (ℕ × Value))) (are : AreFound answer d found waves) (marks : length found ≡ length d.nets) (lines : length waves ≡ length d.nets) where
    known : (input : Input) → IsMarked found input → IsKnown answer d waves input
    known (Fixed v) marked = tt
    known (At m) marked =
        ⊎_elim
        (λ low. are m (marked low))
        (λ (past : length found ≤ m).
        let far : length d.nets ≤ m = omega arith in
        slice_get_past waves m (omega arith) ∙ sym (slice_get_past (map (wave_of answer d) d.nets) m (rw length-map far)))
        (cases_lt m (length found))

    -- the waves of marked inputs are found
    pub all_known : (inputs : List Input) → AreMarked found inputs → AreKnown answer d waves inputs
    all_known [] marked = tt
    all_known (input ∷ inputs) marked = (known input marked.0, all_known inputs marked.1)

    -- and those of all nets, where all are marked
    pub all_waves : ((m : ℕ) → m < length d.nets → slice_get found m ≡ Some true) → waves ≡ map (wave_of answer d) d.nets
    all_waves marked = alike waves (map (wave_of answer d) d.nets) (λ m. known (At m) (λ low. marked m (omega arith)))

  module _ (traces : List (List (ℕ × State))) where
    -- one of the inputs that are supplied
    pub supplied_at : (inputs : List Input) (i : ℕ) (input : Input) → AreSupplied answer d traces inputs → slice_get inputs i ≡ Some input → AreSupplied answer d traces (input ∷ [])
    supplied_at [] i input supplied at = absurd (cc)
    supplied_at (At m ∷ inputs) zero input supplied at = let same : At m ≡ input = cc in subst (λ x. AreSupplied answer d traces (x ∷ [])) same (supplied.0, tt)
    supplied_at (Fixed v ∷ inputs) zero input supplied at = let same : Fixed v ≡ input = cc in subst (λ x. AreSupplied answer d traces (x ∷ [])) same tt
    supplied_at (At m ∷ inputs) (suc i) input supplied at = supplied_at inputs i input supplied.1 at
    supplied_at (Fixed v ∷ inputs) (suc i) input supplied at = supplied_at inputs i input supplied at

    -- where all traces are found, those of some gates are
    pub traced_all : traces ≡ map (trace_of answer d) d.gates → (places : List ℕ) → AreTraced answer d traces places
    traced_all are [] = tt
    traced_all are (p ∷ places) = (ap (λ l. slice_get l p) are, traced_all are places)
