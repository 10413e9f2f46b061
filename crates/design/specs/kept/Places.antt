-- Places in the order of the nets and of the gates.
use Rattle.std.specs.Prelude.{ℕ, List, map}
use Rattle.std.specs.List.{enumerate_from, filter}
pub use Rattle.catalog.specs.kept.Catalog.{place_of}
use Rattle.design.specs.Names.{same_name}
use Rattle.design.specs.Netlist.{GateEntry}

-- the places of the gates that drive the net of this name
abbrev pub driver_places : List GateEntry → List ℕ → List ℕ
driver_places gates name = map (λ p. p.0) (filter (λ p. same_name p.1.output name) (enumerate_from 0 gates))
