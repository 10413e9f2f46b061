-- The values and waves of nets that change go on, the others stay.
use Rattle.std.proofs.Common.{◌≡◌, ◌<◌, ◌∙◌, sym, ap, subst, refl, Bool, true, false, not, ℕ, zero, suc, ◌+◌, ◌-◌, List, [], ◌∷◌, ◌++◌, map, Option, Some, None, slice_get, slice_index_or, unwrap_or, length, All, add-one, arith}
use Rattle.std.specs.Option.{is_some, option_map_or, option_map}
use Rattle.std.specs.Prelude.{◌||◌, if◌then◌else◌}
use Rattle.std.proofs.Math.ListN.{set}
use Rattle.std.proofs.lemmas.List.{length-map, length-set}
use Rattle.std.proofs.lemmas.Option.{slice_get-map, slice_get_read, slice_get_within}
use Rattle.std.proofs.Math.Bool.{or-true, or-false}
use Rattle.std.proofs.lemmas.Bool.{not-false}
use Rattle.fourstate.specs.declared.net.NetKind.{NetKind}
use Rattle.fourstate.specs.declared.value.Value.{Value}
use Rattle.fourstate.specs.declared.value.Value.TheVariants.{Unknown}
use Rattle.fourstate.specs.kept.NetLaws.{lone_driver_passes}
use Rattle.fourstate.specs.Nets.{net_of}
use Rattle.fourstate.specs.kept.Nets.{passes_lone_driver}
use Rattle.fourstate.specs.Values.{same_value}
use Rattle.gatestep.specs.Step.{State, Evaluation, due}
use Rattle.design.specs.Netlist.{NetEntry, Netlist, stimulus}
use Rattle.design.specs.kept.Places.{driver_places}
use Rattle.waveform.specs.Changes.{wave_changes_below}
use Rattle.waveform.specs.Entries.{standing}
use Rattle.fourstate.specs.kept.ValueLaws.{is_same, same_self}
use Rattle.waveform.specs.kept.Timelines.{is_reached, pushed}
use Rattle.smallvec.specs.SmallVec.{SmallVec}
use Rattle.scratch.specs.kept.Kept.{currents_of, driven_kind, lone_driver, net_from, only_place, values_at}
use Rattle.scratch.specs.kept.Places.{changes_at, has}
use Rattle.scratch.specs.kept.Nets.{Part}
use Rattle.scratch.specs.kept.Recorded.{recorded_below}
use Rattle.scratch.specs.Run.{state_before, value}
use Rattle.scratch.proofs.Among.{has_more, nat_itself}
use Rattle.scratch.proofs.Between.{Between, is_new, is_old, pass, step, write}
use Rattle.scratch.proofs.Moments.{map_twice, net_is}
use Rattle.scratch.proofs.Recorded.{recorded_alone, recorded_moves, recorded_whole}
use Rattle.scratch.proofs.Runs.{Grows, LieBefore, Reached}
use Rattle.scratch.proofs.Still.{Stays, wave_stays}

module _ (answer : Evaluation → ℕ → State) (d : Netlist) (t : ℕ) where
  abbrev values_of : ℕ → List Value
  values_of u = map (λ n. value answer d n u) d.nets

  abbrev waves_of : ℕ → List (List (ℕ × Value))
  waves_of u = map (λ n. recorded_below answer d n u) d.nets

  abbrev changes : ℕ → Bool
  changes k = changes_at answer d k t

  -- the value that is found for a net
  pub resolved_is : (states : List State) (n : NetEntry) (places : List ℕ) (v : Value) → states ≡ map (state_before answer d t) d.gates → places ≡ driver_places d.gates n.name →
      v ≡ net_from (currents_of states t) t n places → v ≡ value answer d n t
  resolved_is states n places v are those is =
      is ∙ ap (λ ss. net_from (currents_of ss t) t n places) are
      ∙ ap (λ cs. net_from cs t n places) (map_twice (state_before answer d t) (λ s. (due s t).current) d.gates)
      ∙ ap (net_from (map (λ g. (due (state_before answer d t g) t).current) d.gates) t n) those ∙ net_is d (state_before answer d t) t n

  module _ (begun : 0 < t) (still : Stays same_value standing) where
    same_value_by : (o : Option NetEntry) → option_map_or (λ n. not (same_value (value answer d n t) (value answer d n (t - 1)))) o false ≡ false →
        option_map (λ n. value answer d n (t - 1)) o ≡ option_map (λ n. value answer d n t) o
    same_value_by None h = refl
    same_value_by (Some n) h =
        ap (λ v. Some v) (sym (is_same (value answer d n t) (value answer d n (t - 1)) (not-false (same_value (value answer d n t) (value answer d n (t - 1))) h)))

    -- a net that does not change keeps its value
    pub same_value_at : (k : ℕ) → changes k ≡ false → slice_get (values_of (t - 1)) k ≡ slice_get (values_of t) k
    same_value_at k h = slice_get-map (λ n. value answer d n (t - 1)) d.nets k ∙ same_value_by (slice_get d.nets k) h ∙ sym (slice_get-map (λ n. value answer d n t) d.nets k)

    wave_on : (n : NetEntry) (u : ℕ) → 0 < u → value answer d n u ≡ value answer d n (u - 1) → wave_changes_below (value answer d n) u ≡ wave_changes_below (value answer d n) (u + 1)
    wave_on n zero low same = absurd (omega arith)
    wave_on n (suc v) low same =
        let one : suc v - 1 ≡ v = omega arith in
        rw add-one (sym (wave_stays still answer d n v (rw one at same)))

    same_wave_by : (o : Option NetEntry) → option_map_or (λ n. not (same_value (value answer d n t) (value answer d n (t - 1)))) o false ≡ false →
        option_map (λ n. recorded_below answer d n t) o ≡ option_map (λ n. recorded_below answer d n (t + 1)) o
    same_wave_by None h = refl
    same_wave_by (Some n) h =
        ap (λ v. Some v) (recorded_moves answer d n t (t + 1) (wave_on n t begun (is_same (value answer d n t) (value answer d n (t - 1)) (not-false (same_value (value answer d n t) (value answer d n (t - 1))) h))))

    -- and its wave
    pub same_wave_at : (k : ℕ) → changes k ≡ false → slice_get (waves_of t) k ≡ slice_get (waves_of (t + 1)) k
    same_wave_at k h =
        slice_get-map (λ n. recorded_below answer d n t) d.nets k ∙ same_wave_by (slice_get d.nets k) h ∙ sym (slice_get-map (λ n. recorded_below answer d n (t + 1)) d.nets k)

    module _ (p : ℕ) (done : List ℕ) (values : List Value) (waves : List (List (ℕ × Value))) (changed : List ℕ) (part : Part answer d t done values waves changed) where
      as_it_is : slice_get values p ≡ slice_get (values_of t) p → slice_get waves p ≡ slice_get (waves_of (t + 1)) p → has p changed ≡ changes p → Part answer d t (done ++ p ∷ []) values waves changed
      as_it_is v w c =
          record {
            values = pass done (values_of (t - 1)) (values_of t) values part.values p v;
            waves = pass done (waves_of t) (waves_of (t + 1)) waves part.waves p w;
            changed = step done (λ k. false) changes (λ k. has k changed) part.changed p (λ k. has k changed) c (λ k e. refl);
            as_many = part.as_many;
            as_many_waves = part.as_many_waves;
          }

      stayed_by : changes p ≡ false → (b : Bool) → has p done ≡ b → Part answer d t (done ++ p ∷ []) values waves changed
      stayed_by off true on =
          as_it_is (is_new done (slice_get (values_of (t - 1))) (slice_get (values_of t)) (slice_get values) part.values p on)
          (is_new done (slice_get (waves_of t)) (slice_get (waves_of (t + 1))) (slice_get waves) part.waves p on)
          (is_new done (λ k. false) changes (λ k. has k changed) part.changed p on)
      stayed_by off false not_yet =
          as_it_is (is_old done (slice_get (values_of (t - 1))) (slice_get (values_of t)) (slice_get values) part.values p not_yet ∙ same_value_at p off)
          (is_old done (slice_get (waves_of t)) (slice_get (waves_of (t + 1))) (slice_get waves) part.waves p not_yet ∙ same_wave_at p off)
          (is_old done (λ k. false) changes (λ k. has k changed) part.changed p not_yet ∙ sym off)

      -- a net that does not change is done
      pub stayed : changes p ≡ false → Part answer d t (done ++ p ∷ []) values waves changed
      stayed off = stayed_by off (has p done) refl

      module _ (n : NetEntry) (here : slice_get d.nets p ≡ Some n) (v old : Value) (is : v ≡ value answer d n t) (at : slice_get values p ≡ Some old) where
        new_value : slice_get (values_of t) p ≡ Some v
        new_value = slice_get-map (λ n. value answer d n t) d.nets p ∙ ap (option_map (λ n. value answer d n t)) here ∙ ap (λ x. Some x) (sym is)

        old_value : has p done ≡ false → value answer d n (t - 1) ≡ old
        old_value not_yet =
            let both : Some (value answer d n (t - 1)) ≡ Some old =
            sym (slice_get-map (λ n. value answer d n (t - 1)) d.nets p ∙ ap (option_map (λ n. value answer d n (t - 1))) here)
            ∙ sym (is_old done (slice_get (values_of (t - 1))) (slice_get (values_of t)) (slice_get values) part.values p not_yet) ∙ at in
            cc

        -- whether the net changes is known by what stood before
        pub change_is : has p done ≡ false → changes p ≡ not (same_value v old)
        change_is not_yet =
            ap (λ o. option_map_or (λ n. not (same_value (value answer d n t) (value answer d n (t - 1)))) o false) here
            ∙ ap (λ x. not (same_value x (value answer d n (t - 1)))) (sym is) ∙ ap (λ x. not (same_value v x)) (old_value not_yet)

        again_by : (b : Bool) → has p done ≡ b → not (same_value v old) ≡ false → Part answer d t (done ++ p ∷ []) values waves changed
        again_by true on same =
            as_it_is (is_new done (slice_get (values_of (t - 1))) (slice_get (values_of t)) (slice_get values) part.values p on)
            (is_new done (slice_get (waves_of t)) (slice_get (waves_of (t + 1))) (slice_get waves) part.waves p on)
            (is_new done (λ k. false) changes (λ k. has k changed) part.changed p on)
        again_by false not_yet same = stayed (change_is not_yet ∙ same)

        -- a net whose value is found to stand already is done
        pub again : not (same_value v old) ≡ false → Part answer d t (done ++ p ∷ []) values waves changed
        again same = again_by (has p done) refl same

        first_by : (b : Bool) → has p done ≡ b → not (same_value v old) ≡ true → has p done ≡ false
        first_by true on other =
            let both : Some old ≡ Some v = sym at ∙ is_new done (slice_get (values_of (t - 1))) (slice_get (values_of t)) (slice_get values) part.values p on ∙ new_value in
            let equal : v ≡ old = cc in
            absurd (let never : false ≡ true = sym (ap not (ap (same_value v) (sym equal) ∙ same_self v)) ∙ other in cc)
        first_by false not_yet other = not_yet

        module _ (other : not (same_value v old) ≡ true) where
          not_done : has p done ≡ false
          not_done = first_by (has p done) refl other

          wave_was : (w : List (ℕ × Value)) → slice_get waves p ≡ Some w → recorded_below answer d n t ≡ w
          wave_was w there =
              let both : Some (recorded_below answer d n t) ≡ Some w =
              sym (slice_get-map (λ n. recorded_below answer d n t) d.nets p ∙ ap (option_map (λ n. recorded_below answer d n t)) here)
              ∙ sym (is_old done (slice_get (waves_of t)) (slice_get (waves_of (t + 1))) (slice_get waves) part.waves p not_done) ∙ there in
              cc

          -- a net that changes goes on, with what is recorded of it
          goes_on : (ws : List (List (ℕ × Value))) → Between (done ++ p ∷ []) (slice_get (waves_of t)) (slice_get (waves_of (t + 1))) (slice_get ws) → length ws ≡ length d.nets →
              Part answer d t (done ++ p ∷ []) (set values p v) ws (changed ++ p ∷ [])
          goes_on ws are as_many =
              let in_nets = slice_get_within d.nets p n here in
              let in_values : p < length values = rw part.as_many in_nets in
              let on : changes p ≡ true = change_is not_done ∙ other in
              record {
                values = write done (values_of (t - 1)) (values_of t) values part.values p v new_value in_values;
                waves = are;
                changed = step done (λ k. false) changes (λ k. has k changed) part.changed p (λ k. has k (changed ++ p ∷ []))
                    (has_more p p changed ∙ ap (λ (b : Bool). has p changed || b) (nat_itself p) ∙ or-true (has p changed) ∙ sym on)
                    (λ k e. has_more k p changed ∙ ap (λ (b : Bool). has k changed || b) e ∙ or-false (has k changed));
                as_many = length-set values p v ∙ part.as_many;
                as_many_waves = as_many;
              }

          -- of one with one driver nothing more is recorded
          pub went_alone : (k : ℕ) → lone_driver d n ≡ Some k → Part answer d t (done ++ p ∷ []) (set values p v) waves (changed ++ p ∷ [])
          went_alone k alone =
              let same : slice_get waves p ≡ slice_get (waves_of (t + 1)) p =
              is_old done (slice_get (waves_of t)) (slice_get (waves_of (t + 1))) (slice_get waves) part.waves p not_done
              ∙ slice_get-map (λ n. recorded_below answer d n t) d.nets p ∙ ap (option_map (λ n. recorded_below answer d n t)) here
              ∙ ap (λ x. Some x) (recorded_alone answer d n t k alone ∙ sym (recorded_alone answer d n (t + 1) k alone))
              ∙ sym (slice_get-map (λ n. recorded_below answer d n (t + 1)) d.nets p ∙ ap (option_map (λ n. recorded_below answer d n (t + 1))) here) in
              goes_on waves (pass done (waves_of t) (waves_of (t + 1)) waves part.waves p same) part.as_many_waves

          -- of another one its new value is
          module _ (whole : lone_driver d n ≡ None) (w : List (ℕ × Value)) (there : slice_get waves p ≡ Some w) where
            wave_is : wave_changes_below (value answer d n) t ≡ w
            wave_is = sym (recorded_whole answer d n t whole) ∙ wave_was w there

            pub wave_early : LieBefore same_value standing → All (λ e. e.0 < t) w
            wave_early early = subst (All (λ e. e.0 < t)) wave_is (early (value answer d n) t)

            -- its wave has become the value that it had the moment before
            pub wave_reached : Reached same_value standing → is_reached same_value standing w t v ≡ same_value v old
            wave_reached reached =
                ap (λ x. is_reached same_value standing x t v) (sym wave_is) ∙ reached (value answer d n) (λ u. refl) t begun v ∙ ap (same_value v) (old_value not_done)

            pub went : Grows same_value standing → Part answer d t (done ++ p ∷ []) (set values p v) (set waves p (pushed same_value standing w t v)) (changed ++ p ∷ [])
            went grows =
                let in_nets = slice_get_within d.nets p n here in
                let in_waves : p < length waves = rw part.as_many_waves in_nets in
                let one : pushed same_value standing (wave_changes_below (value answer d n) t) t (value answer d n t) ≡ wave_changes_below (value answer d n) (t + 1) =
                rw add-one (grows (value answer d n) (λ u. refl) t) in
                let new_wave : slice_get (waves_of (t + 1)) p ≡ Some (pushed same_value standing w t v) =
                slice_get-map (λ n. recorded_below answer d n (t + 1)) d.nets p ∙ ap (option_map (λ n. recorded_below answer d n (t + 1))) here
                ∙ ap (λ x. Some x) (recorded_whole answer d n (t + 1) whole ∙ sym one ∙ ap (λ x. pushed same_value standing x t (value answer d n t)) wave_is ∙ ap (pushed same_value standing w t) (sym is)) in
                goes_on (set waves p (pushed same_value standing w t v))
                (write done (waves_of t) (waves_of (t + 1)) waves part.waves p (pushed same_value standing w t v) new_wave in_waves)
                (length-set waves p (pushed same_value standing w t v) ∙ part.as_many_waves)

-- the drivers that stand at the place of a net
pub drivers_at : (d : Netlist) (lists : List (SmallVec ℕ)) (p : ℕ) (n : NetEntry) (places : SmallVec ℕ) → map (λ (v : SmallVec ℕ). v.items) lists ≡ map (λ n. driver_places d.gates n.name) d.nets →
    slice_get d.nets p ≡ Some n → slice_get lists p ≡ Some places → places.items ≡ driver_places d.gates n.name
drivers_at d lists p n places are here there =
    let left : slice_get (map (λ (v : SmallVec ℕ). v.items) lists) p ≡ Some places.items = slice_get-map (λ (v : SmallVec ℕ). v.items) lists p ∙ ap (option_map (λ (v : SmallVec ℕ). v.items)) there in
    let right : slice_get (map (λ n. driver_places d.gates n.name) d.nets) p ≡ Some (driver_places d.gates n.name) = slice_get-map (λ n. driver_places d.gates n.name) d.nets p ∙ ap (option_map (λ n. driver_places d.gates n.name)) here in
    let both : Some places.items ≡ Some (driver_places d.gates n.name) = sym left ∙ ap (λ l. slice_get l p) are ∙ right in
    cc

-- the kind that stands at the place of a net
pub kind_there : (d : Netlist) (kinds : List (Option NetKind)) (p : ℕ) (n : NetEntry) (k : Option NetKind) → kinds ≡ map driven_kind d.nets → slice_get d.nets p ≡ Some n → slice_get kinds p ≡ Some k → k ≡ driven_kind n
kind_there d kinds p n k are here there =
    let both : Some k ≡ Some (driven_kind n) = sym there ∙ ap (λ l. slice_get l p) are ∙ slice_get-map driven_kind d.nets p ∙ ap (option_map driven_kind) here in
    cc

-- a net without such a kind follows its stimulus, another one its drivers
stimulus_by : (n : NetEntry) (a b : Value) (is_input : Bool) → None ≡ (if is_input then None else Some n.kind) → a ≡ (if is_input then a else b)
stimulus_by n a b true none = refl
stimulus_by n a b false none = cc

pub stimulus_is : (currents : List Value) (t : ℕ) (n : NetEntry) (places : List ℕ) → None ≡ driven_kind n → stimulus n.points t ≡ net_from currents t n places
stimulus_is currents t n places none = stimulus_by n (stimulus n.points t) (net_of n.kind (values_at currents places)) n.is_input none

driven_by : (n : NetEntry) (kind : NetKind) (a : Value) (f : NetKind → Value) (is_input : Bool) → Some kind ≡ (if is_input then None else Some n.kind) → f kind ≡ (if is_input then a else f n.kind)
driven_by n kind a f true some = cc
driven_by n kind a f false some = let same : kind ≡ n.kind = cc in ap f same

pub driven_is : (currents : List Value) (t : ℕ) (n : NetEntry) (kind : NetKind) (places : List ℕ) → Some kind ≡ driven_kind n → net_of kind (values_at currents places) ≡ net_from currents t n places
driven_is currents t n kind places some = driven_by n kind (stimulus n.points t) (λ k. net_of k (values_at currents places)) n.is_input some

-- the place that stands alone
alone_is : (places : List ℕ) (k : ℕ) → only_place places ≡ Some k → places ≡ k ∷ []
alone_is [] k h = cc
alone_is (p ∷ []) k h = let same : p ≡ k = cc in ap (λ x. x ∷ []) same
alone_is (p ∷ q ∷ ps) k h = cc

-- a net that the driver at k alone gives its value is no input, its kind passes what one driver gives, and it has no other one
pub record IsLone (n : NetEntry) (places : List ℕ) (k : ℕ) : Type 0 where
  pub driven : n.is_input ≡ false
  pub passes : passes_lone_driver n.kind ≡ true
  pub alone : places ≡ k ∷ []

lone_by : (n : NetEntry) (places : List ℕ) (k : ℕ) (is_input passes : Bool) → n.is_input ≡ is_input → passes_lone_driver n.kind ≡ passes →
    (if is_input || not passes then None else only_place places) ≡ Some k → IsLone n places k
lone_by n places k true passes i p h = cc
lone_by n places k false false i p h = cc
lone_by n places k false true i p h = record { driven = i; passes = p; alone = alone_is places k h }

pub lone_is : (d : Netlist) (n : NetEntry) (k : ℕ) → lone_driver d n ≡ Some k → IsLone n (driver_places d.gates n.name) k
lone_is d n k h = lone_by n (driver_places d.gates n.name) k n.is_input (passes_lone_driver n.kind) refl refl h

-- what is listed at the place of a net
pub lone_there : (d : Netlist) (lone : List (Option ℕ)) (p : ℕ) (n : NetEntry) (o : Option ℕ) → lone ≡ map (lone_driver d) d.nets → slice_get d.nets p ≡ Some n →
    slice_get lone p ≡ Some o → lone_driver d n ≡ o
lone_there d lone p n o are here there =
    let both : Some (lone_driver d n) ≡ Some o = sym (ap (λ l. slice_get l p) are ∙ slice_get-map (lone_driver d) d.nets p ∙ ap (option_map (lone_driver d)) here) ∙ there in
    cc

-- and it has what the driver gives
pub lone_gives : (d : Netlist) (currents : List Value) (t : ℕ) (n : NetEntry) (k : ℕ) → lone_driver d n ≡ Some k →
    unwrap_or (slice_get currents k) Unknown ≡ net_from currents t n (driver_places d.gates n.name)
lone_gives d currents t n k h =
    let is = lone_is d n k h in
    sym (ap (λ b. if b then stimulus n.points t else net_of n.kind (values_at currents (driver_places d.gates n.name))) is.driven
    ∙ ap (λ l. net_of n.kind (values_at currents l)) is.alone ∙ lone_driver_passes n.kind (unwrap_or (slice_get currents k) Unknown) is.passes)

-- what is listed is the driver that alone gives the net its value
pub listed_at : (d : Netlist) (lone : List (Option ℕ)) (p : ℕ) (n : NetEntry) (o : Option ℕ) → lone ≡ map (lone_driver d) d.nets → slice_get d.nets p ≡ Some n → p < length d.nets →
    o ≡ slice_index_or lone p o → lone_driver d n ≡ o
listed_at d lone p n o are here within read =
    let in_lone : p < length lone = (let as_many = simp length-map at (ap length are) in omega arith) in
    lone_there d lone p n o are here (slice_get_read lone (length lone) p o refl in_lone read)

none_is : (o : Option ℕ) → is_some o ≡ false → o ≡ None
none_is None h = refl
none_is (Some k) h = cc

some_is : (o : Option ℕ) → is_some o ≡ true → (k : ℕ) × (o ≡ Some k)
some_is None h = cc
some_is (Some k) h = (k, refl)

-- no driver is listed for a net whose changes are all recorded, and one for another
pub whole_there : (d : Netlist) (lone : List (Option ℕ)) (p : ℕ) (n : NetEntry) (o : Option ℕ) → lone ≡ map (lone_driver d) d.nets → slice_get d.nets p ≡ Some n → p < length d.nets →
    o ≡ slice_index_or lone p o → is_some o ≡ false → lone_driver d n ≡ None
whole_there d lone p n o are here within read none = listed_at d lone p n o are here within read ∙ none_is o none

pub alone_there : (d : Netlist) (lone : List (Option ℕ)) (p : ℕ) (n : NetEntry) (o : Option ℕ) → lone ≡ map (lone_driver d) d.nets → slice_get d.nets p ≡ Some n → p < length d.nets →
    o ≡ slice_index_or lone p o → is_some o ≡ true → (k : ℕ) × (lone_driver d n ≡ Some k)
alone_there d lone p n o are here within read some =
    let it = some_is o some in (it.0, listed_at d lone p n o are here within read ∙ it.1)
