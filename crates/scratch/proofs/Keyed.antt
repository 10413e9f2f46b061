-- Lines under the keys at their places.
use Rattle.std.proofs.Common.{◌≡◌, ◌∙◌, ap, sym, subst, refl, ℕ, ◌+◌, Bool, true, false, cond, ◌==◌, List, [], ◌∷◌, ◌++◌, append_assoc, length-append, map, drop, length, Option, Some, option_map, slice_get, arith}
use Rattle.std.specs.List.{find, zip}
use Rattle.std.proofs.lemmas.Bool.Decides.{nat_tests}
use Rattle.std.proofs.lemmas.List.{drop_more}
use Rattle.std.proofs.lemmas.Option.{slice_get_within, get_or_from_slice_get}
use Rattle.fourstate.specs.declared.value.Value.{Value}
use Rattle.gatestep.specs.Step.{Evaluation, State}
use Rattle.catalog.specs.Catalog.{record_at, records_of}
use Rattle.catalog.specs.kept.Catalog.{keys_of}
use Rattle.design.specs.Keys.{Keyed, entry_in, netlist}
use Rattle.design.specs.kept.Keys.{gate_by_key, net_by_key}
use Rattle.waveform.specs.kept.Tables.{IsChangedAt, line_at}
use Rattle.scratch.specs.kept.Recordings.{AreUnder}
use Rattle.scratch.specs.Run.{wave_of}
use Rattle.scratch.specs.kept.Run.{trace_of}

-- what a drop leaves, where there is an element at its place
pub drop_at : {A : Type 0} (xs : List A) (i : ℕ) (x : A) → slice_get xs i ≡ Some x → drop i xs ≡ x ∷ drop (i + 1) xs
drop_at xs i x at = drop_more xs i x (slice_get_within xs i x at) ∙ ap (λ y. y ∷ drop (i + 1) xs) (get_or_from_slice_get xs i x x at)

pub same_test : (a b : ℕ) → (a == b) ≡ (b == a)
same_test a b = grind (arith, nat_tests)

first_or_rest : {X : Type 0} (key k : ℕ) (line : X) (es : List (ℕ × X)) → record_at ((key, line) ∷ es) k ≡ cond (k == key) (Some line) (record_at es k)
first_or_rest key k line es =
    elim (key == k) as (λ b. option_map (λ e. e.1) (cond b (Some (key, line)) (find (λ e. e.0 == k) es)) ≡ cond b (Some line) (record_at es k)) [ true ↦ refl | false ↦ refl ]
    ∙ ap (λ (b : Bool). cond b (Some line) (record_at es k)) (same_test key k)

-- no line is left out where there are none
pub none_under : {X : Type 0} (keys : List ℕ) (table : List (Option X)) → table ≡ [] → AreUnder keys [] table
none_under [] table empty = λ key. ap (λ t. line_at t key) empty
none_under (k ∷ keys) table empty = λ key. ap (λ t. line_at t key) empty

-- one line more
pub put_one : {X : Type 0} (keys : List ℕ) (rest : List X) (old new : List (Option X)) (place key : ℕ) (line : X) → slice_get keys place ≡ Some key →
    AreUnder (drop (place + 1) keys) rest old → IsChangedAt key (Some line) old new → AreUnder (drop place keys) (line ∷ rest) new
put_one {X} keys rest old new place key line at before changed = λ k.
    changed k ∙ ap (λ (o : Option X). cond (k == key) (Some line) o) (before k)
    ∙ sym (first_or_rest key k line (zip (drop (place + 1) keys) rest))
    ∙ ap (λ (ks : List ℕ). record_at (zip ks (line ∷ rest)) k) (sym (drop_at keys place key at))

-- of the lines that were left the last one more
pub put_last : {X : Type 0} (keys : List ℕ) (all before left rest : List X) (old new : List (Option X)) (key : ℕ) (line : X) → all ≡ before ++ rest → before ≡ left ++ line ∷ [] →
    AreUnder (drop (length before) keys) rest old → slice_get keys (length left) ≡ Some key → IsChangedAt key (Some line) old new →
    (more : List X) × (all ≡ left ++ more) × AreUnder (drop (length left) keys) more new
put_last {X} keys all before left rest old new key line whole last under at changed =
    let longer : length before ≡ length left + 1 = ap (λ (l : List X). length l) last ∙ length-append left (line ∷ []) in (
      line ∷ rest,
      whole ∙ ap (λ (l : List X). l ++ rest) last ∙ append_assoc left (line ∷ []) rest,
      put_one keys rest old new (length left) key line at (subst (λ (n : ℕ). AreUnder (drop n keys) rest old) longer under) changed,
    )

-- no line is left
pub none_left : {X : Type 0} (keys : List ℕ) (all left rest : List X) (table : List (Option X)) → all ≡ left ++ rest → length left ≡ 0 →
    AreUnder (drop (length left) keys) rest table → AreUnder keys all table
none_left {X} keys all [] rest table whole empty under = λ key. under key ∙ ap (λ (l : List X). record_at (zip keys l) key) (sym whole)
none_left keys all (line ∷ left) rest table whole empty under = absurd (omega arith)

-- the lines made of the records of entries
pub under_records : {R X : Type 0} (f : R → X) (es : List (ℕ × R)) (key : ℕ) → record_at (zip (keys_of es) (map f (records_of es))) key ≡ option_map f (record_at es key)
under_records f [] key = refl
under_records {R} {X} f (e ∷ es) key = step (e.0 == key) (under_records f es key)
  where
    rest : List (ℕ × X)
    rest = zip (keys_of es) (map f (records_of es))

    step : (b : Bool) → record_at rest key ≡ option_map f (record_at es key) →
        option_map (λ (p : ℕ × X). p.1) (cond b (Some (e.0, f e.1)) (find (λ p. p.0 == key) rest)) ≡ option_map f (option_map (λ (p : ℕ × R). p.1) (cond b (Some e) (find (λ p. p.0 == key) es)))
    step true later = refl
    step false later = later

module _ {R S X : Type 0} (f : S → X) (h : R → S) where
  -- the lines made of what the records of entries are seen as
  pub under_seen : (es : List (ℕ × R)) (key : ℕ) → record_at (zip (keys_of es) (map f (records_of (map (λ e. (e.0, h e.1)) es)))) key ≡ option_map (λ r. f (h r)) (record_at es key)
  under_seen [] key = refl
  under_seen (e ∷ es) key = step (e.0 == key) (under_seen es key)
    where
      rest : List (ℕ × X)
      rest = zip (keys_of es) (map f (records_of (map (λ p. (p.0, h p.1)) es)))

      step : (b : Bool) → record_at rest key ≡ option_map (λ r. f (h r)) (record_at es key) →
          option_map (λ (p : ℕ × X). p.1) (cond b (Some (e.0, f (h e.1))) (find (λ p. p.0 == key) rest)) ≡ option_map (λ r. f (h r)) (option_map (λ (p : ℕ × R). p.1) (cond b (Some e) (find (λ p. p.0 == key) es)))
      step true later = refl
      step false later = later

module _ (answer : Evaluation → ℕ → State) (d : Keyed) where
  -- the waves of the nets, each under the key of its net
  pub waves_under : (table : List (Option (List (ℕ × Value)))) → AreUnder (keys_of d.nets) (map (wave_of answer (netlist d)) (netlist d).nets) table →
      (key : ℕ) → line_at table key ≡ option_map (wave_of answer (netlist d)) (net_by_key d key)
  unfolding netlist
  waves_under table under = λ key. under key ∙ under_records (wave_of answer (netlist d)) d.nets key

  -- the traces of the gates, each under the key of its gate
  pub traces_under : (table : List (Option (List (ℕ × State)))) → AreUnder (keys_of d.gates) (map (trace_of answer (netlist d)) (netlist d).gates) table →
      (key : ℕ) → line_at table key ≡ option_map (λ g. trace_of answer (netlist d) (entry_in d.nets g)) (gate_by_key d key)
  unfolding netlist
  traces_under table under = λ key. under key ∙ under_seen (trace_of answer (netlist d)) (entry_in d.nets) d.gates key
