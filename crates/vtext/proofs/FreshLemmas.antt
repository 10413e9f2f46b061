-- Gates whose names are taken, and an instance whose name no gate has.
use Rattle.std.proofs.Common.{◌≡◌, ◌≢◌, ℕ, ◌+◌, ◌^◌, ◌<◌, ◌≤◌, false, IsTrue, All, List, [], Option, Some, None, refl, sym, subst, ◌∙◌, arith}
use Rattle.std.proofs.lemmas.Bool.{false≢true}
use Rattle.std.proofs.lemmas.List.Elements.{All-weaker}
use Rattle.std.specs.Option.{option_map_or}
use Rattle.design.specs.Names.{is_part}
use Rattle.vtext.specs.declared.gate.InstanceName.{InstanceName}
use Rattle.vtext.specs.declared.gate.InstanceName.TheVariants.{Written, Unnamed}
use Rattle.vtext.specs.GateNames.{gate_bytes, instance_bytes, is_name_taken, part_bytes}
use Rattle.vtext.specs.Modules.{GateEntry}
use Rattle.vtext.specs.Names.{name_at, number_of}
use Rattle.vtext.specs.kept.Sound.{IsGoodNumber}
use Rattle.vtext.proofs.MadeNames.{numbered_once, no_part}
use Rattle.vtext.proofs.TakenLemmas.{IsHeld, Keeps, unnumbered}

-- the instance has a good name, or is one of the unnamed ones so far
abbrev pub IsKnown : List (List ℕ) → ℕ → InstanceName → Type 0
IsKnown names unnamed (Written n) = IsGoodNumber names n
IsKnown names unnamed (Unnamed k) = k ≤ unnamed

abbrev pub IsPart : Option ℕ → Type 0
IsPart None = Unit {0}
IsPart (Some part) = part < 2 ^ 64

-- a gate among so many unnamed instances, whose name and whose instance's name are taken
pub record IsSettled (names : List (List ℕ)) (taken : List ℕ) (unnamed : ℕ) (g : GateEntry) : Type 0 where
  pub known : IsKnown names unnamed g.instance
  pub part : IsPart g.part
  pub base : IsHeld names taken (instance_bytes names g.instance)
  pub bytes : IsHeld names taken (gate_bytes names g)

known_more : (names : List (List ℕ)) (unnamed count : ℕ) (instance : InstanceName) → unnamed ≤ count → IsKnown names unnamed instance → IsKnown names count instance
known_more names unnamed count (Written n) more known = known
known_more names unnamed count (Unnamed k) more known = omega arith

pub settled_more : (names : List (List ℕ)) (taken later : List ℕ) (unnamed count : ℕ) (gates : List GateEntry) → Keeps taken later → unnamed ≤ count
    → All (IsSettled names taken unnamed) gates → All (IsSettled names later count) gates
settled_more names taken later unnamed count gates keeps more =
    All-weaker (IsSettled names taken unnamed) (IsSettled names later count)
    (λ g s. record { known = known_more names unnamed count g.instance more s.known; part = s.part; base = λ m e. keeps m (s.base m e); bytes = λ m e. keeps m (s.bytes m e) }) gates

-- No name is empty.

pub good_some : (names : List (List ℕ)) (n : ℕ) → IsGoodNumber names n → name_at names n ≢ []
good_some names n good e = false≢true (subst (λ (bytes : List ℕ). IsTrue (is_part bytes)) e good.part)

pub base_some : (names : List (List ℕ)) (unnamed : ℕ) (instance : InstanceName) → IsKnown names unnamed instance → instance_bytes names instance ≢ []
base_some names unnamed (Written n) known = good_some names n known
base_some names unnamed (Unnamed k) known = λ e. cc

-- A name that is written has a number.

pub written_there : (names : List (List ℕ)) (n : ℕ) (bytes : List ℕ) → IsGoodNumber names n → name_at names n ≡ bytes → number_of names bytes ≢ None
written_there names n bytes good same none =
    let there : number_of names bytes ≡ Some n = subst (λ (b : List ℕ). number_of names b ≡ Some n) same good.known in
    cc

-- The next instance.

-- no gate has this name, nor a name that is made from it
pub record IsFresh (names : List (List ℕ)) (name : List ℕ) (g : GateEntry) : Type 0 where
  pub base : instance_bytes names g.instance ≢ name
  pub bytes : gate_bytes names g ≢ name

-- the next instance has a good name, or the next number
abbrev pub IsNext : List (List ℕ) → ℕ → InstanceName → Type 0
IsNext names unnamed (Written n) = IsGoodNumber names n
IsNext names unnamed (Unnamed k) = k ≡ unnamed + 1

base_differs : (names : List (List ℕ)) (unnamed : ℕ) (old next : InstanceName) → unnamed + 1 < 2 ^ 64 → IsKnown names unnamed old → IsNext names unnamed next
    → number_of names (instance_bytes names next) ≡ None → instance_bytes names old ≢ instance_bytes names next
base_differs names unnamed (Written n) next room known is none same = written_there names n (instance_bytes names next) known same none
base_differs names unnamed (Unnamed k) (Written n) room known is none same = written_there names n (name_at names n) is refl none
base_differs names unnamed (Unnamed k) (Unnamed j) room known is none same = let both : k ≡ j = numbered_once k j (omega arith) (omega arith) same in omega (arith, both)

part_differs : (names : List (List ℕ)) (unnamed part : ℕ) (old next : InstanceName) → unnamed + 1 < 2 ^ 64 → part < 2 ^ 64 → IsKnown names unnamed old → IsNext names unnamed next
    → number_of names (instance_bytes names next) ≡ None → part_bytes (instance_bytes names old) part ≢ instance_bytes names next
part_differs names unnamed part old (Written n) room small known is none same = written_there names n (name_at names n) is refl none
part_differs names unnamed part old (Unnamed j) room small known is none same =
    no_part (instance_bytes names old) part j small (omega arith) (base_some names unnamed old known) same

-- a gate of that instance and part
abbrev pub bytes_of : List (List ℕ) → InstanceName → Option ℕ → List ℕ
bytes_of names instance None = instance_bytes names instance
bytes_of names instance (Some part) = part_bytes (instance_bytes names instance) part

bytes_differ : (names : List (List ℕ)) (unnamed : ℕ) (part : Option ℕ) (old next : InstanceName) → unnamed + 1 < 2 ^ 64 → IsPart part → IsKnown names unnamed old → IsNext names unnamed next
    → number_of names (instance_bytes names next) ≡ None → bytes_of names old part ≢ instance_bytes names next
bytes_differ names unnamed None old next room small known is none = base_differs names unnamed old next room known is none
bytes_differ names unnamed (Some part) old next room small known is none = part_differs names unnamed part old next room small known is none

pub bytes_split : (names : List (List ℕ)) (g : GateEntry) → gate_bytes names g ≡ bytes_of names g.instance g.part
bytes_split names g = step g.part
  where
    step : (part : Option ℕ) → option_map_or (part_bytes (instance_bytes names g.instance)) part (instance_bytes names g.instance) ≡ bytes_of names g.instance part
    step None = refl
    step (Some part) = refl

fresh_one : (names : List (List ℕ)) (taken : List ℕ) (unnamed : ℕ) (next : InstanceName) (g : GateEntry) → unnamed + 1 < 2 ^ 64 → IsNext names unnamed next
    → is_name_taken names taken (instance_bytes names next) ≡ false → IsSettled names taken unnamed g → IsFresh names (instance_bytes names next) g
fresh_one names taken unnamed next g room is free s =
    let bytes : List ℕ = instance_bytes names next in
    let none_by : (other : List ℕ) → IsHeld names taken other → other ≡ bytes → number_of names bytes ≡ None =
    λ other held same. unnumbered names taken bytes (subst (IsHeld names taken) same held) free in
    record {
      base = λ same. base_differs names unnamed g.instance next room s.known is (none_by (instance_bytes names g.instance) s.base same) same;
      bytes = λ same. bytes_differ names unnamed g.part g.instance next room s.part s.known is (none_by (gate_bytes names g) s.bytes same) (sym (bytes_split names g) ∙ same);
    }

-- no gate has a name that was not taken
pub fresh : (names : List (List ℕ)) (taken : List ℕ) (unnamed : ℕ) (next : InstanceName) (gates : List GateEntry) → unnamed + 1 < 2 ^ 64 → IsNext names unnamed next
    → is_name_taken names taken (instance_bytes names next) ≡ false → All (IsSettled names taken unnamed) gates → All (IsFresh names (instance_bytes names next)) gates
fresh names taken unnamed next gates room is free =
    All-weaker (IsSettled names taken unnamed) (IsFresh names (instance_bytes names next)) (λ g s. fresh_one names taken unnamed next g room is free s) gates
