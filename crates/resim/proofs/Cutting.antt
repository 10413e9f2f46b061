-- Lines cut one after another, and the run that they make.
use Rattle.std.proofs.Common.{◌≡◌, ◌<◌, ◌≤◌, ◌∙◌, ap, sym, refl, ℕ, suc, Bool, true, false, cond, List, [], ◌∷◌, Option, Some, None, arith, eqb-true, inl, inr, length}
use Rattle.std.specs.Prelude.{◌⊎◌, ◌==◌, nat_le, slice_get, IsSome, All}
use Rattle.std.specs.List.{find}
use Rattle.std.specs.Option.{option_map}
use Rattle.std.proofs.lemmas.Bool.Decides.{nat_tests}
use Rattle.std.proofs.lemmas.List.Elements.{All-head, All-tail}
use Rattle.gatestep.specs.Step.{Evaluation, State, due}
use Rattle.fourstate.specs.Values.{same_value}
use Rattle.catalog.specs.Catalog.{record_at}
use Rattle.catalog.specs.kept.Catalog.{keys_of}
use Rattle.design.specs.Keys.{Keyed, entry_in, netlist}
use Rattle.waveform.specs.Entries.{same_state, standing}
use Rattle.waveform.specs.kept.Runs.{RunRecord}
use Rattle.waveform.specs.kept.Tables.{line_at}
use Rattle.waveform.specs.Timelines.{entries_until}
use Rattle.scratch.specs.Run.{wave_of}
use Rattle.scratch.specs.kept.Run.{IsRun, trace_of}
use Rattle.resim.specs.kept.Cuts.{AreCut, cut_at}
use Rattle.scratch.specs.kept.HorizonLaws.{CutsChanges, trace_cut, wave_cut}

-- nothing lies after the moment
pub whole_until : {A : Type 0} (h last : ℕ) (xs : List (ℕ × A)) → last ≤ h → All (λ e. e.0 ≤ last) xs → entries_until xs h ≡ xs
whole_until h last [] le all = refl
whole_until h last (x ∷ xs) le all =
    let low : x.0 ≤ last = All-head (λ e. e.0 ≤ last) x xs all in
    let kept : nat_le x.0 h ≡ true = grind (arith, nat_tests) in
    rw kept (ap (λ l. x ∷ l) (whole_until h last xs le (All-tail (λ e. e.0 ≤ last) x xs all)))

-- the place of a key
pub key_at : {R P : Type 0} (entries : List (ℕ × R)) (key : ℕ) → IsSome (record_at entries key) → ((i : ℕ) → i < length entries → slice_get (keys_of entries) i ≡ Some key → P) → P
key_at [] key there use_it = absurd (cc)
key_at {R} {P} (e ∷ es) key there use_it = step (e.0 == key) refl there (λ some. key_at es key some (λ i within at. use_it (suc i) (omega arith) at))
  where
    step : (b : Bool) → (e.0 == key) ≡ b → IsSome (option_map (λ (f : ℕ × R). f.1) (cond b (Some e) (find (λ f. f.0 == key) es))) → (IsSome (record_at es key) → P) → P
    step true is some later = use_it 0 (omega arith) (ap Some (eqb-true e.0 key is))
    step false is some later = later some

module _ {A : Type 0} (h : ℕ) (keys : List ℕ) where
  -- the lines of the keys before a place are cut, and each other one is cut or as it was
  pub record AreCutBefore (place : ℕ) (old new : List (Option (List (ℕ × A)))) : Type 0 where
    pub done : (i key : ℕ) → i < place → slice_get keys i ≡ Some key → line_at new key ≡ cut_at old h key
    pub others : (key : ℕ) → (line_at new key ≡ line_at old key) ⊎ (line_at new key ≡ cut_at old h key)

-- all lines are cut
pub all_cut : {R A : Type 0} (h : ℕ) (entries : List (ℕ × R)) (old new : List (Option (List (ℕ × A)))) (place : ℕ) → length entries ≤ place → AreCutBefore h (keys_of entries) place old new → AreCut h entries old new
all_cut h entries old new place all before = record {
  cut = λ key there. key_at entries key there (λ i within at. before.done i key (omega arith) at);
  others = before.others;
}

-- lines made of records, once they are cut
line_cut : {R A : Type 0} (f cut : R → List (ℕ × A)) (h : ℕ) (entries : List (ℕ × R)) (old new : List (Option (List (ℕ × A)))) → AreCut h entries old new → ((r : R) → entries_until (f r) h ≡ cut r) →
    ((key : ℕ) → line_at old key ≡ option_map f (record_at entries key)) → (key : ℕ) → line_at new key ≡ option_map cut (record_at entries key)
line_cut {R} {A} f cut h entries old new are same before key = step (record_at entries key) refl (are.others key)
  where
    step : (o : Option R) → record_at entries key ≡ o → (line_at new key ≡ line_at old key) ⊎ (line_at new key ≡ cut_at old h key) → line_at new key ≡ option_map cut (record_at entries key)
    step (Some r) found either =
        are.cut key (rw found refl) ∙ ap (option_map (λ line. entries_until line h)) (before key ∙ ap (option_map f) found)
        ∙ ap Some (same r) ∙ ap (option_map cut) (sym found)
    step None found (inl e) = e ∙ before key ∙ ap (option_map f) found ∙ ap (option_map cut) (sym found)
    step None found (inr e) = e ∙ ap (option_map (λ line. entries_until line h)) (before key ∙ ap (option_map f) found) ∙ ap (option_map cut) (sym found)

-- the run up to an earlier horizon
pub run_cut : (answer : Evaluation → ℕ → State) (d : Keyed) (h : ℕ) (run short : RunRecord) → CutsChanges same_value standing → CutsChanges same_state due → h ≤ d.horizon →
    AreCut h d.nets run.waves short.waves → AreCut h d.gates run.traces short.traces → short.horizon ≡ h → IsRun answer d run → IsRun answer (record d { horizon = h }) short
unfolding netlist
run_cut answer d h run short wave_law trace_law early waves traces ends is = record {
  waves = line_cut (wave_of answer (netlist d)) (wave_of answer (netlist (record d { horizon = h }))) h d.nets run.waves short.waves waves (wave_cut answer (netlist d) h early wave_law) is.waves;
  traces = line_cut (λ g. trace_of answer (netlist d) (entry_in d.nets g)) (λ g. trace_of answer (netlist (record d { horizon = h })) (entry_in d.nets g)) h d.gates run.traces short.traces traces (λ g. trace_cut answer (netlist d) h early trace_law (entry_in d.nets g)) is.traces;
  horizon = ends;
}
