-- Waves that are read side by side, and what a net has from them.
use Rattle.std.proofs.Common.{◌≡◌, ◌<◌, ◌≤◌, ◌-◌, ◌∙◌, ap, sym, subst, false, ℕ, suc, min, List, [], ◌∷◌, ◌++◌, map, take, drop, length, arith}
use Rattle.std.proofs.lemmas.Simd.{map-map}
use Rattle.fourstate.specs.Nets.{net_of}
use Rattle.fourstate.specs.Values.{same_value}
use Rattle.fourstate.specs.declared.net.NetKind.{NetKind}
use Rattle.fourstate.specs.declared.value.Value.{Value}
use Rattle.gateline.proofs.Points.{no_change_between}
use Rattle.gateline.proofs.Stands.{ahead, refilled, stands_later, stands_passed, standing, values_stay}
use Rattle.gateline.specs.declared.reader.Reader.{Reader}
use Rattle.gateline.specs.kept.Readers.{StandAt, next_among, next_of, seen, seen_then}
use Rattle.waveform.specs.Changes.{wave_at}
use Rattle.waveform.specs.Entries.{standing as stands}
use Rattle.waveform.specs.Timelines.{is_change}
use Rattle.waveform.specs.declared.times.TheConstants.{TIME_END}

-- the first change of one reader more
pub next_more : (readers : List Reader) (r : Reader) → next_among (readers ++ r ∷ []) ≡ min (next_among readers) (next_of r.rest.now)
next_more [] r = omega arith
next_more (x ∷ readers) r =
    let rest : next_among (readers ++ r ∷ []) ≡ min (next_among readers) (next_of r.rest.now) = next_more readers r in omega arith

module _ (kind : NetKind) (waves : List (List (ℕ × Value))) where
  -- what the net has at t
  abbrev pub merged : ℕ → Value
  merged t = net_of kind (map (λ driven. wave_at driven t) waves)

  -- as the readers have it
  value_is : (readers : List Reader) (m : ℕ) → StandAt (map wave_at waves) readers m → net_of kind (map (λ reader. reader.value) readers) ≡ merged m
  value_is readers m stand = ap (net_of kind) (standing (map wave_at waves) readers m stand ∙ map-map (λ f. f m) wave_at waves)

  stays : (readers : List Reader) (m u : ℕ) → StandAt (map wave_at waves) readers m → m ≤ u → u < next_among readers → merged u ≡ merged m
  stays readers m u stand from below =
      ap (net_of kind)
      (sym (map-map (λ f. f u) wave_at waves)
      ∙ values_stay (map wave_at waves) readers m u stand from below
      ∙ map-map (λ f. f m) wave_at waves)

  -- the readers at a moment t, which were written over these items; r is the next one at which one of them changes, or the end
  pub record Goes (items readers : List Reader) (t r end : ℕ) : Type 0 where
    pub stand : StandAt (map wave_at waves) items (r - 1)
    pub value : net_of kind (map (λ reader. reader.value) readers) ≡ merged t
    pub later : t < r
    pub within : r ≤ end
    pub next : r ≤ next_among items
    pub still : (k : ℕ) → suc t ≤ k → k < r → is_change same_value stands merged k ≡ false

  pub goes : (old given new : List Reader) (len m t next r end : ℕ) → StandAt (map wave_at waves) old m → m ≤ t → t ≤ next_among old → given ≡ old → map seen new ≡ map (seen_then t) given →
      len ≡ length old → t < TIME_END → t < end → next ≡ next_among new → r ≡ min next end → Goes (take len (new ++ drop (length new) old)) new t r end
  goes old given new len m t next r end stand from to is read many low begun first until =
      let same : map seen new ≡ map (seen_then t) old = read ∙ ap (map (seen_then t)) is in
      let here : StandAt (map wave_at waves) new t = stands_passed (map wave_at waves) old new m t stand from to same in
      let coming : t < next_among new = ahead (map wave_at waves) new t here low in
      let whole = ap (λ n. take n (new ++ drop (length new) old)) many ∙ refilled old new t same in
      record {
        stand = subst (λ readers. StandAt (map wave_at waves) readers (r - 1)) (sym whole) (stands_later (map wave_at waves) new t (r - 1) here (omega arith) (omega arith));
        value = value_is new t here;
        later = omega arith;
        within = omega arith;
        next = subst (λ readers. r ≤ next_among readers) (sym whole) (omega arith);
        still = no_change_between merged t r (λ u high below. stays new t u here high (omega arith));
      }
