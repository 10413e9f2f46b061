use Rattle.design.specs.Keys.{netlist}
use Rattle.design.specs.kept.Keys.{net_by_key}
use Rattle.std.proofs.Common.{codes}
use Rattle.causes.specs.CauseLines.{cause_lines, why_lines}
use Rattle.causes.proofs.LineLemmas.{adds_same, adds_told, why_changed, why_none}
use Rattle.causes.proofs.origin.why_net.Goals as goal

pub returns-then-changes_at : goal.returns-then-changes_at
returns-then-changes_at g c =
    let d = c.args.design.now in
    let o = net_by_key d c.args.net in
    adds_same c.args.writer.now c.cause_lines.new.writer o (λ n. why_lines (netlist d) n c.args.t) (λ n. cause_lines (netlist d) n c.args.t)
    (why_changed (netlist d) c.args.t o c.changes_at.result c.changes_at.ensures c.if-changes_at.true) c.cause_lines.ensures

pub returns-else-changes_at : goal.returns-else-changes_at
returns-else-changes_at g c =
    let d = c.args.design.now in
    let o = net_by_key d c.args.net in
    adds_told c.args.writer.now c.text.new.self o (λ n. why_lines (netlist d) n c.args.t) (codes "none\n")
    (why_none (netlist d) c.args.t o c.changes_at.result c.changes_at.ensures c.if-changes_at.false) c.text.ensures.adds
