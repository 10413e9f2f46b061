use Rattle.std.proofs.Common.{sym, refl}
use Rattle.design.specs.Keys.{KeyedGate}
use Rattle.design.specs.kept.Keys.{IsConnected}
use Rattle.design.specs.kept.Shown.{design_of}
use Rattle.design.proofs.DesignLemmas.{each_connected}
use Rattle.design.proofs.EntryLemmas.{found}
use Rattle.design.proofs.LookLemmas.{not_missing}
use Rattle.design.proofs.design.Design.gate_of.Goals as goal

pub unreachable-requires : goal.unreachable-requires
unreachable-requires c = not_missing _ _ (rw (← c.self.view_is, ← c.gate.view_is) at c.requires) (sym c.in-None.ensures) refl

pub returns-clause-gate : goal.returns-clause-gate
returns-clause-gate c = rw (← c.self.view_is, ← c.gate.view_is) (sym c.in-Some.ensures)

pub returns-clause-connected : goal.returns-clause-connected
returns-clause-connected c =
    let a = c.self.inside in
    rw (← c.self.view_is) (found (λ k (g : KeyedGate). IsConnected a.nets g) a.gates c.gate.inside.number c.in-Some.gate.now (each_connected (design_of a) a.points a.wires.fanout a.wires.drivers c.self.invariant) (sym c.in-Some.ensures))
