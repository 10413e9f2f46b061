use Rattle.std.proofs.Common.{◌≡◌, subst, sym, ℕ}
use Rattle.std.specs.Prelude.{IfSome, slice_get}
use Rattle.std.specs.Arc.{arc_value}
use Rattle.design.specs.Keys.{netlist}
use Rattle.design.specs.kept.Keys.{net_by_key}
use Rattle.design.specs.kept.Lawful.{IsDesign}
use Rattle.design.specs.Netlist.{Netlist}
use Rattle.bench.specs.Benches.{BenchRecord, since_of, version_in}
use Rattle.bench.specs.kept.Since.{versions_in}
use Rattle.bench.specs.declared.simulated.Simulated.{Simulated}
use Rattle.bench.proofs.PastLemmas.{by_place}
use Rattle.bench.proofs.bench.Bench.since_at.Goals as goal

pub returns : goal.returns
returns g c =
    let since = c.self.inside.since in
    let place = c.args.place in let key = c.net_key_at-key.result in let version = c.version_of.result in
    let d = (arc_value c.self.inside.simulated).design in
    let seen = subst (λ (s : Simulated). IsDesign (netlist s.design) × (net_by_key s.design key ≡ slice_get (netlist s.design).nets place)) c.deref.ensures (c.lawful.ensures.design, c.net_key_at-key.ensures.net) in
    let by_key = by_place since d seen.0 key (slice_get (netlist d).nets place) seen.1 in
    let is = subst (λ (v : ℕ). IfSome (slice_get (netlist d).nets place) (λ n. v ≡ version_in (versions_in since d) since.gone n.name)) (sym c.version_of.ensures) by_key in
    let kept = subst (λ (e : Netlist). IfSome (slice_get e.nets place) (λ n. version ≡ version_in (versions_in since d) since.gone n.name)) (sym c.self.invariant.1.design) is in
    subst (λ (b : BenchRecord). IfSome (slice_get b.snapshot.design.nets place) (λ n. version ≡ since_of b n.name)) c.self.view_is kept
