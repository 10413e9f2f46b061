use Rattle.std.proofs.Common.{◌≡◌, ℕ, List, [], Bool, false, cond, IfSome, ap, arith, subst, sym, ◌∙◌}
use Rattle.std.specs.Option.{option_map_or}
use Rattle.std.proofs.lemmas.Grind.{common_steps}
use Rattle.devices.specs.Outgoing.{Adds}
use Rattle.design.specs.Keys.{entry_in, name_of, netlist}
use Rattle.design.specs.kept.Keys.{gate_by_key, net_by_key}
use Rattle.design.specs.Netlist.{NetEntry, net_named}
use Rattle.causes.specs.CauseLines.{reach_line}
use Rattle.causes.specs.Causes.{changes_at}
use Rattle.causes.proofs.ReachLemmas.{adds_there, is_there, no_reach, nothing, reach_of}
use Rattle.causes.proofs.outcome.turn_line.Goals as goal

pub returns-then-changes_at : goal.returns-then-changes_at
returns-then-changes_at g c =
    let d = c.args.design.now in
    let gate = c.gate_of-gate.result.now in
    let p = net_by_key d gate.output in
    let changes = subst (λ (k : ℕ). IfSome (net_by_key d k) (λ n. c.changes_at.result ≡ changes_at (netlist d) n c.in-Some.time)) c.output.ensures c.changes_at.ensures in
    let line : NetEntry → List ℕ = λ n. reach_line (netlist d) (entry_in d.nets gate) n c.in-Some.time in
    let lines = reach_of (netlist d) d.nets c.args.t (gate_by_key d c.args.gate) gate c.in-Some.time c.changes_at.result p c.gate_of-gate.ensures.gate c.in-Some.ensures.end (c.names_are_keys.ensures.nets gate.output) changes in
    let all = lines ∙ ap (λ (b : Bool). option_map_or (λ n. cond b (line n) []) p []) c.if-changes_at.true in
    subst (λ ws. Adds c.args.writer.now c.reach_line.new.writer ws) (sym all)
    (adds_there c.args.writer.now c.reach_line.new.writer line p (is_there (λ n. n.is_input ≡ false) p c.gate_of-gate.ensures.connected.output) c.reach_line.ensures)

pub returns-else-changes_at : goal.returns-else-changes_at
returns-else-changes_at g c =
    let d = c.args.design.now in
    let gate = c.gate_of-gate.result.now in
    let p = net_by_key d gate.output in
    let changes = subst (λ (k : ℕ). IfSome (net_by_key d k) (λ n. c.changes_at.result ≡ changes_at (netlist d) n c.in-Some.time)) c.output.ensures c.changes_at.ensures in
    let line : NetEntry → List ℕ = λ n. reach_line (netlist d) (entry_in d.nets gate) n c.in-Some.time in
    let lines = reach_of (netlist d) d.nets c.args.t (gate_by_key d c.args.gate) gate c.in-Some.time c.changes_at.result p c.gate_of-gate.ensures.gate c.in-Some.ensures.end (c.names_are_keys.ensures.nets gate.output) changes in
    let none = lines ∙ ap (λ (b : Bool). option_map_or (λ n. cond b (line n) []) p []) c.if-changes_at.false ∙ nothing line p in
    rw none (grind (arith, common_steps))
