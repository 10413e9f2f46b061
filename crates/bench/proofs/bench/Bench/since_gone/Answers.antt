use Rattle.std.proofs.Common.{◌≡◌, subst, ℕ, List, None}
use Rattle.std.specs.Arc.{arc_value}
use Rattle.design.specs.Netlist.{Netlist, net_named}
use Rattle.bench.specs.Benches.{BenchRecord, since_of}
use Rattle.bench.proofs.PastLemmas.{of_no_net}
use Rattle.bench.proofs.bench.Bench.since_gone.Goals as goal

pub returns : goal.returns
returns g c =
    let since = c.self.inside.since in
    subst (λ (b : BenchRecord). (name : List ℕ) → net_named b.snapshot.design name ≡ None → since.gone ≡ since_of b name) c.self.view_is
    (λ name none. of_no_net since (arc_value c.self.inside.simulated).design name (subst (λ (d : Netlist). net_named d name ≡ None) c.self.invariant.1.design none))
