-- Edits that are resolved.
use Rattle.std.proofs.Common.{◌≡◌, ℕ, List, [], length, Bool, false, Option, Some, None, option_map, sym, ap, ◌∙◌}
use Rattle.std.specs.Prelude.{IfSome, IsSome, IsSomeAnd}
use Rattle.std.specs.Option.{option_map_or}
use Rattle.std.proofs.lemmas.List.{length-map}
use Rattle.fourstate.specs.declared.gate.GateKind.{GateKind}
use Rattle.fourstate.specs.declared.gate.GateKind.TheVariants.{Buf}
use Rattle.fourstate.specs.Gates.{takes_inputs}
use Rattle.design.specs.Keys.{Keyed, KeyedGate, connection_in, entry_in, netlist}
use Rattle.design.specs.kept.Keys.{gate_by_key, net_by_key}
use Rattle.design.specs.Netlist.{GateEntry, NetEntry, gate_named, is_used}
use Rattle.edits.specs.kept.Changes.{FindsGate, FindsNet}
use Rattle.edits.specs.Checks.{is_off_misplaced, keeps_off, kind_fits, kind_named}

-- Nets.

used_by : (d : Keyed) (name : List ℕ) (o : Option NetEntry) (b : Bool) → IsSome o → option_map_or (λ n. n.name) o [] ≡ name → IfSome o (λ n. b ≡ is_used (netlist d) n.name) → is_used (netlist d) name ≡ b
used_by d name (Some n) b some named is = ap (λ m. is_used (netlist d) m) (sym named) ∙ sym is
used_by d name None b some named is = cc

-- whether the net of a name is used is asked of the net of its key
pub used_found : (d : Keyed) (name : List ℕ) (key : ℕ) (b : Bool) → FindsNet d name key → IfSome (net_by_key d key) (λ n. b ≡ is_used (netlist d) n.name) → is_used (netlist d) name ≡ b
used_found d name key b f is = used_by d name (net_by_key d key) b f.there f.named is

unused_by : (d : Keyed) (o : Option NetEntry) (b : Bool) → b ≡ false → IsSome o → IfSome o (λ n. b ≡ is_used (netlist d) n.name) → IsSomeAnd o (λ n. is_used (netlist d) n.name ≡ false)
unused_by d (Some n) b e some is = sym is ∙ e
unused_by d None b e some is = absurd (cc)

pub unused_found : (d : Keyed) (name : List ℕ) (key : ℕ) (b : Bool) → b ≡ false → FindsNet d name key → IfSome (net_by_key d key) (λ n. b ≡ is_used (netlist d) n.name) → IsSomeAnd (net_by_key d key) (λ n. is_used (netlist d) n.name ≡ false)
unused_found d name key b e f is = unused_by d (net_by_key d key) b e f.there is

-- Gates: what is asked by name is asked of the gate that is found by its key.

entry_named : (d : Keyed) (name : List ℕ) (key : ℕ) (g : KeyedGate) → FindsGate d name key → gate_by_key d key ≡ Some g → gate_named (netlist d) name ≡ Some (entry_in d.nets g)
entry_named d name key g f is = sym f.found ∙ ap (option_map (entry_in d.nets)) is

pub kind_fits_of : (d : Keyed) (name : List ℕ) (key : ℕ) (kind : GateKind) (g : KeyedGate) → FindsGate d name key → gate_by_key d key ≡ Some g → kind_fits (netlist d) name kind ≡ takes_inputs kind (length g.inputs)
kind_fits_of d name key kind g f is =
    ap (λ (o : Option GateEntry). option_map_or (λ h. takes_inputs kind (length h.inputs)) o false) (entry_named d name key g f is)
    ∙ ap (takes_inputs kind) (length-map g.inputs (connection_in d.nets))

pub keeps_off_of : (d : Keyed) (name : List ℕ) (key : ℕ) (kind : GateKind) (g : KeyedGate) → FindsGate d name key → gate_by_key d key ≡ Some g → keeps_off (netlist d) name kind ≡ is_off_misplaced kind g.delays
keeps_off_of d name key kind g f is =
    ap (λ (o : Option GateEntry). option_map_or (λ h. is_off_misplaced kind h.delays) o false) (entry_named d name key g f is)

pub kind_named_of : (d : Keyed) (name : List ℕ) (key : ℕ) (g : KeyedGate) → FindsGate d name key → gate_by_key d key ≡ Some g → kind_named (netlist d) name ≡ g.kind
kind_named_of d name key g f is = ap (λ (o : Option GateEntry). option_map_or (λ h. h.kind) o Buf) (entry_named d name key g f is)
