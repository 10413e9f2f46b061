-- Readers of functions of time, side by side.
use Rattle.std.proofs.Common.{◌≡◌, ◌<◌, ◌≤◌, ◌+◌, ◌∙◌, ap, sym, subst, refl, ℕ, List, [], ◌∷◌, ◌++◌, map, take, drop, get_or, length, IsTrue, arith}
use Rattle.std.specs.List.{refill}
use Rattle.std.proofs.lemmas.List.{length-map, map_more, take_at}
use Rattle.std.proofs.lemmas.Simd.{map-map}
use Rattle.fourstate.specs.Gates.{takes_inputs}
use Rattle.fourstate.specs.declared.gate.GateKind.{GateKind}
use Rattle.fourstate.specs.declared.limits.TheConstants.{MAX_INPUTS}
use Rattle.fourstate.specs.declared.value.Value.{Value}
use Rattle.gatestep.proofs.Jobs.{zip_push}
use Rattle.gateline.proofs.Goes.{coming, here, later, passed, until}
use Rattle.gateline.proofs.Lists.{few_inputs}
use Rattle.gateline.specs.declared.reader.Reader.{Reader}
use Rattle.gateline.specs.kept.Ahead.{next_of, rest_then, value_then}
use Rattle.gateline.specs.kept.Readers.{GoesOn, StandAt, next_among, seen, seen_then}
use Rattle.gateline.specs.kept.Waves.{input_at, input_functions, inputs_by}
use Rattle.scratch.specs.declared.wiring.Input.{Input}
use Rattle.waveform.specs.declared.times.TheConstants.{TIME_END}

-- they stand so up to the first change among them
pub stands_later : (fs : List (ℕ → Value)) (readers : List Reader) (m r : ℕ) → StandAt fs readers m → m ≤ r → r < next_among readers → StandAt fs readers r
stands_later (f ∷ fs) (x ∷ readers) m r stand from below = (
  later f x.value x.rest.now m r stand.0 from (omega arith),
  stands_later fs readers m r stand.1 from (omega arith),
)
stands_later fs readers m r stand from below = stand

-- the functions stay up to there
pub values_stay : (fs : List (ℕ → Value)) (readers : List Reader) (m u : ℕ) → StandAt fs readers m → m ≤ u → u < next_among readers → map (λ f. f u) fs ≡ map (λ f. f m) fs
values_stay [] readers m u stand from below = refl
values_stay (f ∷ fs) [] m u stand from below = elim stand [ ]
values_stay (f ∷ fs) (x ∷ readers) m u stand from below =
    let one = until f x.value x.rest.now m u stand.0 from (omega arith) ∙ sym (here f x.value x.rest.now m stand.0) in
    λ i. one i ∷ values_stay fs readers m u stand.1 from (omega arith) i

-- what the readers have is what the functions have
pub standing : (fs : List (ℕ → Value)) (readers : List Reader) (m : ℕ) → StandAt fs readers m → map (λ reader. reader.value) readers ≡ map (λ f. f m) fs
standing [] [] m stand = refl
standing (f ∷ fs) (x ∷ readers) m stand = let one = sym (here f x.value x.rest.now m stand.0) in λ i. one i ∷ standing fs readers m stand.1 i
standing fs readers m stand = elim stand [ ]

-- the first change among them comes later
pub ahead : (fs : List (ℕ → Value)) (readers : List Reader) (m : ℕ) → StandAt fs readers m → m < TIME_END → m < next_among readers
ahead fs [] m stand low = low
ahead [] (x ∷ readers) m stand low = elim stand [ ]
ahead (f ∷ fs) (x ∷ readers) m stand low =
    let one = coming f x.value x.rest.now m stand.0 low in
    let rest = ahead fs readers m stand.1 low in omega arith

-- one more
pub stand_more : (fs : List (ℕ → Value)) (readers : List Reader) (m : ℕ) (f : ℕ → Value) (x : Reader) → StandAt fs readers m → GoesOn f x.value x.rest.now m → StandAt (fs ++ f ∷ []) (readers ++ x ∷ []) m
stand_more fs readers m = zip_push (λ f reader. GoesOn f reader.value reader.rest.now m) fs readers

-- of a list one element more, which is read as a function
pub stand_next : {A : Type 0} (f : A → ℕ → Value) (xs : List A) (i : ℕ) (a : A) (readers : List Reader) (x : Reader) (m : ℕ) → i < length xs → a ≡ get_or xs i a →
    StandAt (map f (take i xs)) readers m → GoesOn (f a) x.value x.rest.now m → StandAt (map f (take (i + 1) xs)) (readers ++ x ∷ []) m
stand_next f xs i a readers x m within read stand goes =
    subst (λ fs. StandAt fs (readers ++ x ∷ []) m) (ap (λ y. map f (take i xs) ++ f y ∷ []) read ∙ sym (map_more f xs i a within))
    (stand_more (map f (take i xs)) readers m (f a) x stand goes)

-- there are as many readers as functions
pub as_many : (fs : List (ℕ → Value)) (readers : List Reader) (m : ℕ) → StandAt fs readers m → length readers ≡ length fs
as_many [] [] m stand = refl
as_many (f ∷ fs) (x ∷ readers) m stand = let rest = as_many fs readers m stand.1 in omega arith
as_many fs readers m stand = elim stand [ ]

-- the readers at a moment up to the first change
pub stands_passed : (fs : List (ℕ → Value)) (old new : List Reader) (m t : ℕ) → StandAt fs old m → m ≤ t → t ≤ next_among old → map seen new ≡ map (seen_then t) old → StandAt fs new t
stands_passed [] [] [] m t stand from to same = stand
stands_passed [] [] (x ∷ new) m t stand from to same = absurd (cc)
stands_passed (f ∷ fs) (r ∷ old) [] m t stand from to same = absurd (cc)
stands_passed (f ∷ fs) (r ∷ old) (x ∷ new) m t stand from to same =
    let one : seen_then t r ≡ seen x = cc in
    let rest : map seen new ≡ map (seen_then t) old = cc in
    let P : Value × List (ℕ × Value) → Type 0 = λ p. GoesOn f p.0 p.1 t in (
      subst P one (passed f r.value r.rest.now m t stand.0 from (omega arith)),
      stands_passed fs old new m t stand.1 from (omega arith) rest,
    )
stands_passed fs old new m t stand from to same = elim stand [ ]

-- readers that are all written
pub refilled : (old new : List Reader) (t : ℕ) → map seen new ≡ map (seen_then t) old → refill (length old) old new ≡ new
refilled old new t same = take_at new (drop (length new) old) (length old) (sym (length-map new seen) ∙ ap length same ∙ length-map old (seen_then t))

-- no reader has a change before the first one among them
pub unchanged : (v : Value) (rest : List (ℕ × Value)) (t : ℕ) → t < next_of rest → ◌≡◌ {A = Value × List (ℕ × Value)} (value_then v rest t, rest_then rest t) (v, rest)
unchanged v [] t below = refl
unchanged v (e ∷ rest) t below = grind arith

pub unpassed : (readers : List Reader) (t : ℕ) → t < next_among readers → map (seen_then t) readers ≡ map seen readers
unpassed [] t below = refl
unpassed (r ∷ readers) t below = λ i. unchanged r.value r.rest.now t (omega arith) i ∷ unpassed readers t (omega arith) i

-- Of the inputs of a gate.
module _ (waves : List (List (ℕ × Value))) (inputs : List Input) (readers : List Reader) (m : ℕ) (stand : StandAt (input_functions waves inputs) readers m) where
  -- what the readers have
  pub inputs_are : map (λ reader. reader.value) readers ≡ inputs_by waves inputs m
  inputs_are = standing (input_functions waves inputs) readers m stand ∙ map-map (λ f. f m) (input_at waves) inputs

  pub inputs_stay : (u : ℕ) → m ≤ u → u < next_among readers → inputs_by waves inputs u ≡ inputs_by waves inputs m
  inputs_stay u from below =
      sym (map-map (λ f. f u) (input_at waves) inputs)
      ∙ values_stay (input_functions waves inputs) readers m u stand from below
      ∙ map-map (λ f. f m) (input_at waves) inputs

  -- and there are few
  pub few_readers : (kind : GateKind) → IsTrue (takes_inputs kind (length inputs)) → length readers ≤ MAX_INPUTS
  few_readers kind fit =
      let few = few_inputs kind (length inputs) fit in
      let many = as_many (input_functions waves inputs) readers m stand ∙ length-map inputs (input_at waves) in
      omega arith
