-- First moments of nets by name.
use Rattle.std.proofs.Common.{◌≡◌, ◌≢◌, ◌<◌, ℕ, suc, min, not, List, Bool, true, Option, Some, None, option_map, slice_get, AllPairs, length, refl, ap, arith, sym, ◌∙◌}
use Rattle.fourstate.specs.declared.value.Value.{Value}
use Rattle.fourstate.specs.declared.value.Value.TheVariants.{Unknown}
use Rattle.fourstate.specs.Values.{same_value}
use Rattle.gatestep.specs.Step.{advance}
use Rattle.design.specs.Netlist.{NetEntry, Netlist, net_named}
use Rattle.scratch.specs.Run.{value, wave_of}
use Rattle.waveform.specs.Changes.{wave_at}
use Rattle.waveform.specs.Entries.{standing}
use Rattle.waveform.specs.Timelines.{changes_below, value_by}
use Rattle.waveform.specs.kept.Timelines.{IsAlwaysSettled}
use Rattle.differences.specs.kept.Apart.{first_apart}
use Rattle.differences.specs.Differences.{differs_at, first_moment, same_or_none}
use Rattle.differences.specs.kept.Found.{name_at}
use Rattle.differences.proofs.FirstLemmas.{find_agree, find_first, find_within}
use Rattle.differences.proofs.NameLemmas.{named_as, net_of_name, net_there}

-- the changes of a function give its values
abbrev pub AreChangesOf : Type 0
AreChangesOf = (f : ℕ → Value) → IsAlwaysSettled standing f → (t n : ℕ) → t < n → value_by standing Unknown (changes_below same_value standing f n) t ≡ f t

abbrev differ : (f g : NetEntry → Value) (o p : Option NetEntry) → Bool
differ f g o p = not (same_or_none (option_map f o) (option_map g p))

-- what a name differs by, where it is known which nets it names
pub differs_by : (d e : Netlist) (name : List ℕ) (t : ℕ) (o p : Option NetEntry) → net_named d name ≡ o → net_named e name ≡ p
    → differs_at d e name t ≡ differ (λ n. value advance d n t) (λ n. value advance e n t) o p
differs_by d e name t o p is is' =
    let f : NetEntry → Value = λ n. value advance d n t in
    let g : NetEntry → Value = λ n. value advance e n t in
    ap (λ (q : Option NetEntry). differ f g q (net_named e name)) is ∙ ap (λ (q : Option NetEntry). differ f g o q) is'

from_beginning : (d e : Netlist) (name : List ℕ) → differs_at d e name 0 ≡ true → first_moment d e name ≡ Some 0
unfolding first_moment
from_beginning d e name at = find_first (differs_at d e name) (suc (min d.horizon e.horizon)) 0 (omega arith) at (λ t lt. absurd (omega arith))

-- a net that only the one design has
pub only_first : (d e : Netlist) (name : List ℕ) (n : NetEntry) → net_named d name ≡ Some n → net_named e name ≡ None → first_moment d e name ≡ Some 0
only_first d e name n is none = from_beginning d e name (differs_by d e name 0 (Some n) None is none)

-- a net that only the other one has
pub only_second : (d e : Netlist) (name : List ℕ) (n : NetEntry) → net_named d name ≡ None → net_named e name ≡ Some n → first_moment d e name ≡ Some 0
only_second d e name n none is = from_beginning d e name (differs_by d e name 0 None (Some n) none is)

-- a net that both have
pub in_both : AreChangesOf → (d e : Netlist) (name : List ℕ) (n m : NetEntry) → net_named d name ≡ Some n → net_named e name ≡ Some m
    → first_moment d e name ≡ first_apart (wave_of advance d n) (wave_of advance e m) (min d.horizon e.horizon)
unfolding first_moment
in_both law d e name n m is is' =
    let own : (t : ℕ) → t < suc (min d.horizon e.horizon) → wave_at (wave_of advance d n) t ≡ value advance d n t = λ t lt. law (value advance d n) (λ u. refl) t (suc d.horizon) (omega arith) in
    let its : (t : ℕ) → t < suc (min d.horizon e.horizon) → wave_at (wave_of advance e m) t ≡ value advance e m t = λ t lt. law (value advance e m) (λ u. refl) t (suc e.horizon) (omega arith) in
    find_agree (differs_at d e name) (λ t. not (same_value (wave_at (wave_of advance d n) t) (wave_at (wave_of advance e m) t))) (suc (min d.horizon e.horizon))
    (λ t lt. differs_by d e name t (Some n) (Some m) is is'
    ∙ ap (λ (v : Value). not (same_value v (value advance e m t))) (sym (own t lt))
    ∙ ap (λ (v : Value). not (same_value (wave_at (wave_of advance d n) t) v)) (sym (its t lt)))

pub moment_within : (d e : Netlist) (name : List ℕ) (t : ℕ) → first_moment d e name ≡ Some t → t < suc (min d.horizon e.horizon)
unfolding first_moment
moment_within d e name t is = find_within (differs_at d e name) (suc (min d.horizon e.horizon)) t is

-- Nets by place.

-- the net at a place is that of its name
own_net : (d : Netlist) (place : ℕ) (n : NetEntry) → AllPairs (λ n m. n.name ≢ m.name) d.nets → slice_get d.nets place ≡ Some n → net_named d (name_at d place) ≡ Some n
own_net d place n apart at = net_of_name d.nets place n (name_at d place) apart at (sym (named_as d place n at))

pub alone : (d e : Netlist) (place : ℕ) → AllPairs (λ n m. n.name ≢ m.name) d.nets → place < length d.nets → net_named e (name_at d place) ≡ None → first_moment d e (name_at d place) ≡ Some 0
alone d e place apart lt none =
    let there = net_there d.nets place lt in
    only_first d e (name_at d place) there.0 (own_net d place there.0 apart there.1) none

mapped : (f : NetEntry → List (ℕ × Value)) (o : Option NetEntry) (w : List (ℕ × Value)) → option_map f o ≡ Some w → (n : NetEntry) × (o ≡ Some n) × (f n ≡ w)
mapped f None w is = absurd (cc)
mapped f (Some n) w is = (n, refl, cc)

pub compared : AreChangesOf → (d e : Netlist) (place there : ℕ) (w v : List (ℕ × Value)) → AllPairs (λ n m. n.name ≢ m.name) d.nets
    → option_map (wave_of advance d) (slice_get d.nets place) ≡ Some w → option_map (wave_of advance e) (slice_get e.nets there) ≡ Some v
    → slice_get e.nets there ≡ net_named e (name_at d place) → first_apart w v (min d.horizon e.horizon) ≡ first_moment d e (name_at d place)
compared law d e place there w v apart own its named =
    let n = mapped (wave_of advance d) (slice_get d.nets place) w own in
    let m = mapped (wave_of advance e) (slice_get e.nets there) v its in
    let both = in_both law d e (name_at d place) n.0 m.0 (own_net d place n.0 apart n.1) (sym named ∙ m.1) in
    ap (λ (ws : List (ℕ × Value)). first_apart ws v (min d.horizon e.horizon)) (sym n.2)
    ∙ ap (λ (ws : List (ℕ × Value)). first_apart (wave_of advance d n.0) ws (min d.horizon e.horizon)) (sym m.2) ∙ sym both
