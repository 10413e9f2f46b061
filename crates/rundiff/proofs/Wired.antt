-- What gates are connected to is there.
use Rattle.std.proofs.Common.{◌≡◌, ℕ, List, true, Option, Some, ap, subst, All, slice_index_or}
use Rattle.std.specs.List.{list_any}
use Rattle.std.specs.Option.{option_map_or}
use Rattle.std.proofs.lemmas.List.Sums.{AllPass-from_list_all}
use Rattle.fourstate.specs.declared.value.Value.TheVariants.{Unknown}
use Rattle.gatestep.specs.Step.{State, Evaluation}
use Rattle.design.specs.Connections.{Connection, to_net, to_constant}
use Rattle.design.specs.kept.Lawful.{IsDesign}
use Rattle.design.specs.Names.{same_name}
use Rattle.design.specs.Netlist.{NetEntry, Netlist, is_at_net, is_readable, net_named}
use Rattle.design.proofs.ByNameLemmas.{all_at}
use Rattle.design.proofs.NameLemmas.{name_is}
use Rattle.scratch.specs.Run.{value}
use Rattle.scratch.proofs.Among.{any_from}
use Rattle.rundiff.specs.kept.Kept.{read_at}
use Rattle.rundiff.proofs.Lists.{found_any, found_in}

-- a connection is a constant, or names a net
abbrev pub IsThere : Netlist → Connection → Type 0
IsThere d (to_net name) = (n : NetEntry) × (net_named d name ≡ Some n)
IsThere d (to_constant v) = Unit {0}

readable_there : (d : Netlist) (c : Connection) → is_readable d c ≡ true → IsThere d c
readable_there d (to_net name) is = found_any (λ n. same_name n.name name) d.nets is
readable_there d (to_constant v) is = tt

pub inputs_there : (d : Netlist) → IsDesign d → All (λ g. All (IsThere d) g.inputs) d.gates
inputs_there d is = λ k e within i c low.
    let g = slice_index_or d.gates k e in
    readable_there d (slice_index_or g.inputs i c) (AllPass-from_list_all (is_readable d) g.inputs (is.wiring k e within).inputs i c low)

-- what is said of each net holds of the one that has a name
pub named_in : (d : Netlist) (P : NetEntry → Type 0) (name : List ℕ) (n : NetEntry) → All P d.nets → net_named d name ≡ Some n → P n × (n.name ≡ name)
named_in d P name n all found =
    let facts = found_in P (λ m. same_name m.name name) d.nets n all found in
    (facts.0, name_is n.name name facts.1)

-- what reads a net that is there reads its value
pub reads_net : (answer : Evaluation → ℕ → State) (d : Netlist) (name : List ℕ) (n : NetEntry) (t : ℕ) → net_named d name ≡ Some n →
    read_at answer d (to_net name) t ≡ value answer d n t
reads_net answer d name n t found = ap (λ (o : Option NetEntry). option_map_or (λ m. value answer d m t) o Unknown) found

at_net : (name : List ℕ) (c : Connection) → is_at_net name c ≡ true → c ≡ to_net name
at_net name (to_net read) on = ap to_net (name_is read name on)
at_net name (to_constant v) on = cc

-- what is said of each connection holds of the one to a net that is read
pub read_of : (P : Connection → Type 0) (name : List ℕ) (cs : List Connection) → All P cs → list_any (is_at_net name) cs ≡ true → P (to_net name)
read_of P name cs all on = let f = any_from (is_at_net name) cs on in subst P (at_net name f.1 f.3) (all_at P cs f.0 f.1 all f.2)
