use Rattle.std.proofs.Common.{codes}
use Rattle.std.specs.List.{flat_map}
use Rattle.design.specs.Keys.{name_of, netlist}
use Rattle.design.specs.kept.Keys.{net_by_key}
use Rattle.listing.specs.Listings.{readers_of}
use Rattle.causes.specs.CauseLines.{reach_lines, reader_lines}
use Rattle.causes.proofs.LineLemmas.{adds_told}
use Rattle.causes.proofs.ReachLemmas.{reach_none, reach_read}
use Rattle.causes.proofs.outcome.reach_net.Goals as goal

pub returns-then-changes_at : goal.returns-then-changes_at
returns-then-changes_at g c =
    let d = c.args.design.now in
    let o = net_by_key d c.args.net in
    adds_told c.args.writer.now c.readers.new.writer o (λ n. reach_lines (netlist d) n c.args.t) (flat_map (reader_lines (netlist d) c.args.t) (readers_of (netlist d) (name_of d.nets c.args.net)))
    (reach_read (netlist d) c.args.t o c.changes_at.result c.changes_at.ensures c.if-changes_at.true) c.readers.ensures

pub returns-else-changes_at : goal.returns-else-changes_at
returns-else-changes_at g c =
    let d = c.args.design.now in
    let o = net_by_key d c.args.net in
    adds_told c.args.writer.now c.text.new.self o (λ n. reach_lines (netlist d) n c.args.t) (codes "none\n")
    (reach_none (netlist d) c.args.t o c.changes_at.result c.changes_at.ensures c.if-changes_at.false) c.text.ensures.adds
