-- The laws of the tables.
use Rattle.std.specs.Cmp.{IsEquivalence, decided, both_ways}
use Rattle.std.proofs.Common.{◌≡◌, ◌≤◌, Bool, true, false, if◌then◌else◌, List, [], ◌∷◌, Some, None, Option, ℕ, min, unwrap_or, map, refl, arith}
use Rattle.std.proofs.lemmas.Map.Views.{list_any-from_Contains, Contains-from_any}
use Rattle.std.specs.Option.{option_map_or}
use Rattle.fourstate.specs.Delays.{delay_to, lesser}
use Rattle.fourstate.specs.declared.delay_times.DelayTimes.{DelayTimes}
use Rattle.fourstate.specs.Gates.{gate_of}
use Rattle.fourstate.specs.Keywords.{gate_keyword, gate_kind_of, net_keyword, net_kind_of}
use Rattle.fourstate.specs.Nets.{net_of, pulled_of, wire_of}
use Rattle.fourstate.specs.kept.ValueLaws.{is_same, same_value_decides}
use Rattle.fourstate.specs.Values.{same_value, occurs, reading, inverse, symbol_of, value_of_symbol}
use Rattle.fourstate.specs.kept.Values.{AreSameSet}
use Rattle.fourstate.specs.declared.value.Value.{Value}
use Rattle.fourstate.specs.declared.value.Value.TheVariants.{Zero, One, Unknown, HighZ}
use Rattle.fourstate.specs.declared.gate.GateKind.{GateKind}
use Rattle.fourstate.specs.declared.gate.GateKind.TheVariants.{And, Nand, Or, Nor, Xor, Xnor, Buf, Not, Bufif1, Bufif0, Notif1, Notif0}
use Rattle.fourstate.specs.declared.net.NetKind.{NetKind}
use Rattle.fourstate.specs.declared.net.NetKind.TheVariants.{Wire, Tri, Wand, Triand, Wor, Trior, Tri0, Tri1}

pub same_value_equivalence : IsEquivalence same_value
same_value_equivalence = decided same_value same_value_decides

pub occurs_by_set : (xs ys : List Value) → AreSameSet xs ys → (v : Value) → occurs v xs ≡ occurs v ys
occurs_by_set xs ys same v =
    both_ways (occurs v xs) (occurs v ys)
    (λ e. list_any-from_Contains same_value_equivalence v ys ((same v).0 (Contains-from_any is_same v xs e)))
    (λ e. list_any-from_Contains same_value_equivalence v xs ((same v).1 (Contains-from_any is_same v ys e)))

pub same_resolution : (kind : NetKind) (xs ys : List Value) → AreSameSet xs ys → net_of kind xs ≡ net_of kind ys
same_resolution kind xs ys same =
    rw (occurs_by_set xs ys same Zero, occurs_by_set xs ys same One, occurs_by_set xs ys same Unknown) refl

-- by what occurs among the drivers
pulled_by : (pull : Value) (zero one unknown : Bool) →
    pulled_of pull zero one unknown ≡ (if same_value (wire_of zero one unknown) HighZ then pull else wire_of zero one unknown)
pulled_by pull true true true = refl
pulled_by pull true true false = refl
pulled_by pull true false true = refl
pulled_by pull true false false = refl
pulled_by pull false true true = refl
pulled_by pull false true false = refl
pulled_by pull false false true = refl
pulled_by pull false false false = refl

pub pulled_down : (values : List Value) → net_of Tri0 values ≡ (if same_value (net_of Tri values) HighZ then Zero else net_of Tri values)
pulled_down values = pulled_by Zero (occurs Zero values) (occurs One values) (occurs Unknown values)

pub pulled_up : (values : List Value) → net_of Tri1 values ≡ (if same_value (net_of Tri values) HighZ then One else net_of Tri values)
pulled_up values = pulled_by One (occurs Zero values) (occurs One values) (occurs Unknown values)

reading_twice : (v : Value) → reading (reading v) ≡ reading v
reading_twice Zero = refl
reading_twice One = refl
reading_twice Unknown = refl
reading_twice HighZ = refl

map_reading_twice : (values : List Value) → map reading (map reading values) ≡ map reading values
map_reading_twice [] = refl
map_reading_twice (v ∷ values) = rw (reading_twice v, map_reading_twice values) refl

pub read_twice : (kind : GateKind) (inputs : List Value) → gate_of kind inputs ≡ gate_of kind (map reading inputs)
read_twice kind inputs = rw (map_reading_twice inputs) refl

pub inverted_data_one : (v c : Value) → gate_of Notif1 (v ∷ c ∷ []) ≡ gate_of Bufif1 (inverse v ∷ c ∷ [])
inverted_data_one Zero c = refl
inverted_data_one One c = refl
inverted_data_one Unknown c = refl
inverted_data_one HighZ c = refl

pub inverted_data_zero : (v c : Value) → gate_of Notif0 (v ∷ c ∷ []) ≡ gate_of Bufif0 (inverse v ∷ c ∷ [])
inverted_data_zero Zero c = refl
inverted_data_zero One c = refl
inverted_data_zero Unknown c = refl
inverted_data_zero HighZ c = refl

least_of : (lesser : ℕ) (off : Option ℕ) → (option_map_or (min lesser) off lesser ≤ lesser) × (option_map_or (min lesser) off lesser ≤ unwrap_or off lesser)
least_of lesser None = (omega arith, omega arith)
least_of lesser (Some off) = (omega arith, omega arith)

pub least_delay : (delays : DelayTimes) (to : Value) → delay_to delays Unknown ≤ delay_to delays to
least_delay delays Zero = let least = (least_of (lesser delays) delays.off).0 in omega arith
least_delay delays One = let least = (least_of (lesser delays) delays.off).0 in omega arith
least_delay delays Unknown = omega arith
least_delay delays HighZ = (least_of (lesser delays) delays.off).1

pub gate_reads_back : (kind : GateKind) → gate_kind_of (gate_keyword kind) ≡ Some kind
gate_reads_back And = refl
gate_reads_back Nand = refl
gate_reads_back Or = refl
gate_reads_back Nor = refl
gate_reads_back Xor = refl
gate_reads_back Xnor = refl
gate_reads_back Buf = refl
gate_reads_back Not = refl
gate_reads_back Bufif1 = refl
gate_reads_back Bufif0 = refl
gate_reads_back Notif1 = refl
gate_reads_back Notif0 = refl

pub net_reads_back : (kind : NetKind) → net_kind_of (net_keyword kind) ≡ Some kind
net_reads_back Wire = refl
net_reads_back Tri = refl
net_reads_back Wand = refl
net_reads_back Triand = refl
net_reads_back Wor = refl
net_reads_back Trior = refl
net_reads_back Tri0 = refl
net_reads_back Tri1 = refl

pub value_reads_back : (v : Value) → value_of_symbol (symbol_of v) ≡ Some v
value_reads_back Zero = refl
value_reads_back One = refl
value_reads_back Unknown = refl
value_reads_back HighZ = refl
