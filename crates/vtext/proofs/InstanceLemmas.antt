-- The gates of one instance have names that no gate before has, and different ones.
use Rattle.std.proofs.Common.{◌≡◌, ◌≢◌, ℕ, suc, ◌+◌, ◌^◌, ◌<◌, ◌≤◌, ◌++◌, false, All, AllPairs, List, [], ◌∷◌, Option, Some, None, length, sym, subst, ◌∙◌, append_assoc, append-nil, arith}
use Rattle.std.proofs.lemmas.Bool.{cond-false, lt-leb}
use Rattle.std.proofs.lemmas.List.Elements.{All-cons, All-nil, All-push, All-weaker}
use Rattle.std.proofs.lemmas.List.Quantifiers.{all_pairs_push}
use Rattle.vtext.specs.declared.gate.InstanceName.{InstanceName}
use Rattle.vtext.specs.declared.gate.InstanceName.TheVariants.{Written, Unnamed}
use Rattle.vtext.specs.declared.gate.Terminal.{Terminal}
use Rattle.vtext.specs.GateNames.{gate_bytes, instance_bytes, is_part_taken, part_bytes, with_parts_taken}
use Rattle.vtext.specs.Instances.{gate_of, gates_of, part_count, part_gates}
use Rattle.vtext.specs.Modules.{GateEntry}
use Rattle.vtext.specs.Names.{number_of}
use Rattle.vtext.specs.Readings.{Reading}
use Rattle.vtext.proofs.MadeNames.{no_part, one_split}
use Rattle.vtext.proofs.TakenLemmas.{IsHeld, part_free, part_held, parts_kept, unnumbered}
use Rattle.vtext.proofs.FreshLemmas.{IsFresh, IsKnown, IsPart, IsSettled, bytes_of, bytes_split, written_there}

-- two gates have different names
abbrev pub Differ : List (List ℕ) → GateEntry → GateEntry → Type 0
Differ names g h = gate_bytes names g ≢ gate_bytes names h

-- the gate has no name that is made of this base and a number from here on
record IsOff (names : List (List ℕ)) (name : List ℕ) (count part : ℕ) (g : GateEntry) : Type 0 where
  pub off : (q : ℕ) → part ≤ q → q ≤ count → gate_bytes names g ≢ part_bytes name q

bytes_off : (names : List (List ℕ)) (unnamed q : ℕ) (name : List ℕ) (part : Option ℕ) (old : InstanceName) → unnamed < 2 ^ 64 → q < 2 ^ 64 → name ≢ [] → IsPart part → IsKnown names unnamed old
    → number_of names (part_bytes name q) ≡ None → instance_bytes names old ≢ name → bytes_of names old part ≢ part_bytes name q
bytes_off names unnamed q name (Some part) old room low some small known none other same =
    other (one_split (instance_bytes names old) name part q small low same).0
bytes_off names unnamed q name None (Written n) room low some small known none other same = written_there names n (part_bytes name q) known same none
bytes_off names unnamed q name None (Unnamed k) room low some small known none other same = no_part name q k low (omega arith) some (sym same)

gate_off : (names : List (List ℕ)) (taken : List ℕ) (unnamed count : ℕ) (name : List ℕ) (g : GateEntry) → unnamed < 2 ^ 64 → count < 2 ^ 64 → name ≢ []
    → is_part_taken names taken name count ≡ false → IsSettled names taken unnamed g → IsFresh names name g → IsOff names name count 1 g
gate_off names taken unnamed count name g room small some free s f = record {
  off = λ q low high same.
      let none : number_of names (part_bytes name q) ≡ None = unnumbered names taken (part_bytes name q) (subst (IsHeld names taken) same s.bytes) (part_free names taken name count q free low high) in
      bytes_off names unnamed q name g.part g.instance room (omega arith) some s.part s.known none f.base (sym (bytes_split names g) ∙ same);
}

all_off : (names : List (List ℕ)) (taken : List ℕ) (unnamed count : ℕ) (name : List ℕ) (gates : List GateEntry) → unnamed < 2 ^ 64 → count < 2 ^ 64 → name ≢ []
    → is_part_taken names taken name count ≡ false → All (IsSettled names taken unnamed) gates → All (IsFresh names name) gates → All (IsOff names name count 1) gates
all_off names taken unnamed count name gates room small some free settled fresh =
    λ k d within. gate_off names taken unnamed count name _ room small some free (settled k d within) (fresh k d within)

-- Below are the gates of an instance.
module _ (names : List (List ℕ)) (r : Reading) (instance : InstanceName) (inputs : List Terminal) where
  one_apart : (gates : List GateEntry) (output : Terminal) → AllPairs (Differ names) gates → All (IsFresh names (instance_bytes names instance)) gates
      → AllPairs (Differ names) (gates ++ gate_of r instance None inputs output ∷ [])
  one_apart gates output apart fresh = all_pairs_push (Differ names) gates (gate_of r instance None inputs output) apart (λ k d within. (fresh k d within).bytes)

  part_off : (count part : ℕ) (output : Terminal) → part < 2 ^ 64 → count < 2 ^ 64 → IsOff names (instance_bytes names instance) count (suc part) (gate_of r instance (Some part) inputs output)
  part_off count part output small low = record {
    off = λ q above high same.
        let both : part ≡ q = (one_split (instance_bytes names instance) (instance_bytes names instance) part q small (omega arith) same).1 in
        omega (arith, both);
  }

  parts_apart : (count part : ℕ) (gates : List GateEntry) (outputs : List Terminal) → part + length outputs ≤ count + 1 → count < 2 ^ 64
      → AllPairs (Differ names) gates → All (IsOff names (instance_bytes names instance) count part) gates
      → AllPairs (Differ names) (gates ++ part_gates r instance inputs part outputs)
  parts_apart count part gates [] within small apart off = rw append-nil apart
  parts_apart count part gates (output ∷ outputs) within small apart off =
      let base : List ℕ = instance_bytes names instance in
      let g : GateEntry = gate_of r instance (Some part) inputs output in
      let later : All (IsOff names base count (suc part)) gates =
      All-weaker (IsOff names base count part) (IsOff names base count (suc part)) (λ h o. record { off = λ q low high. o.off q (omega arith) high }) gates off in
      subst (AllPairs (Differ names)) (append_assoc gates (g ∷ []) (part_gates r instance inputs (suc part) outputs))
      (parts_apart count (suc part) (gates ++ g ∷ []) outputs (omega arith) small
      (all_pairs_push (Differ names) gates g apart (λ k d before. (off k d before).off part (omega arith) (omega arith)))
      (All-push (IsOff names base count (suc part)) gates g later (part_off count part output (omega arith) small)))

  parts_settled : (later : List ℕ) (unnamed count part : ℕ) (outputs : List Terminal) → 1 ≤ part → part + length outputs ≤ count + 1 → count < 2 ^ 64
      → IsKnown names unnamed instance → IsHeld names later (instance_bytes names instance)
      → ((q : ℕ) → 1 ≤ q → q ≤ count → IsHeld names later (part_bytes (instance_bytes names instance) q))
      → All (IsSettled names later unnamed) (part_gates r instance inputs part outputs)
  parts_settled later unnamed count part [] low within small known base held = All-nil (IsSettled names later unnamed)
  parts_settled later unnamed count part (output ∷ outputs) low within small known base held =
      All-cons (IsSettled names later unnamed) (gate_of r instance (Some part) inputs output) (part_gates r instance inputs (suc part) outputs)
      (record { known = known; part = omega arith; base = base; bytes = held part low (omega arith) })
      (parts_settled later unnamed count (suc part) outputs (omega arith) (omega arith) small known base held)

  several : (n : ℕ) → 2 ≤ n → part_count n ≡ n
  several n two = cond-false _ 0 n (lt-leb n 1 two)

  pub gates_apart : (taken : List ℕ) (unnamed : ℕ) (gates : List GateEntry) (outputs : List Terminal) → unnamed < 2 ^ 64 → length outputs < 2 ^ 64 → instance_bytes names instance ≢ []
      → is_part_taken names taken (instance_bytes names instance) (part_count (length outputs)) ≡ false
      → All (IsSettled names taken unnamed) gates → All (IsFresh names (instance_bytes names instance)) gates → AllPairs (Differ names) gates
      → AllPairs (Differ names) (gates ++ gates_of r instance inputs outputs)
  gates_apart taken unnamed gates [] room small some free settled fresh apart = rw append-nil apart
  gates_apart taken unnamed gates (output ∷ []) room small some free settled fresh apart = one_apart gates output apart fresh
  gates_apart taken unnamed gates (output ∷ second ∷ outputs) room small some free settled fresh apart =
      let base : List ℕ = instance_bytes names instance in
      let count : ℕ = length (output ∷ second ∷ outputs) in
      let same : part_count count ≡ count = several count (omega arith) in
      let all : is_part_taken names taken base count ≡ false = subst (λ (n : ℕ). is_part_taken names taken base n ≡ false) same free in
      parts_apart count 1 gates (output ∷ second ∷ outputs) (omega arith) small apart (all_off names taken unnamed count base gates room small some all settled fresh)

  pub gates_settled : (own : List ℕ) (unnamed : ℕ) (outputs : List Terminal) → length outputs < 2 ^ 64 → IsKnown names unnamed instance
      → IsHeld names own (instance_bytes names instance)
      → All (IsSettled names (with_parts_taken names own (instance_bytes names instance) (part_count (length outputs))) unnamed) (gates_of r instance inputs outputs)
  gates_settled own unnamed [] small known base = All-nil (IsSettled names _ unnamed)
  gates_settled own unnamed (output ∷ []) small known base =
      All-cons (IsSettled names _ unnamed) (gate_of r instance None inputs output) [] (record { known = known; part = tt; base = base; bytes = base }) (All-nil (IsSettled names _ unnamed))
  gates_settled own unnamed (output ∷ second ∷ outputs) small known base =
      let name : List ℕ = instance_bytes names instance in
      let count : ℕ = length (output ∷ second ∷ outputs) in
      let same : part_count count ≡ count = several count (omega arith) in
      subst (λ (n : ℕ). All (IsSettled names (with_parts_taken names own name n) unnamed) (part_gates r instance inputs 1 (output ∷ second ∷ outputs))) (sym same)
      (parts_settled (with_parts_taken names own name count) unnamed count 1 (output ∷ second ∷ outputs) (omega arith) (omega arith) small known
      (λ m e. parts_kept names own name count m (base m e))
      (λ q low high. part_held names own name count q low high))
