use Rattle.std.proofs.Common.{◌≡◌, ◌≢◌, ℕ, AllPairs, min, ap, subst, ◌∙◌}
use Rattle.design.specs.Netlist.{Netlist}
use Rattle.differences.specs.kept.Apart.{first_apart}
use Rattle.differences.proofs.MomentLemmas.{compared}
use Rattle.differences.proofs.finding.moment_in_both.Goals as goal

pub returns : goal.returns
returns c =
    let d = c.args.snapshot.now.design in
    let e = c.args.other.now.design in
    let apart : AllPairs (λ n m. n.name ≢ m.name) d.nets = subst (λ (q : Netlist). AllPairs (λ n m. n.name ≢ m.name) q.nets) c.design.ensures c.lawful.ensures.design.distinct_nets in
    let end : c.min-end.result ≡ min d.horizon e.horizon = c.min-end.ensures ∙ ap (λ (n : ℕ). min n c.horizon-2.result) c.horizon.ensures ∙ ap (λ (n : ℕ). min d.horizon n) c.horizon-2.ensures in
    c.first_apart.ensures ∙ ap (λ (n : ℕ). first_apart c.wave_at-wave.result.now c.wave_at-another.result.now n) end
    ∙ compared c.value_of_changes.ensures d e c.args.place c.args.there c.wave_at-wave.result.now c.wave_at-another.result.now apart c.wave_at-wave.ensures c.wave_at-another.ensures c.requires.named
