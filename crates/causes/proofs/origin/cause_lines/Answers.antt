use Rattle.std.proofs.Common.{codes}
use Rattle.std.specs.List.{flat_map}
use Rattle.design.specs.Keys.{name_of, netlist}
use Rattle.design.specs.kept.Keys.{net_by_key}
use Rattle.design.specs.Netlist.{drivers_of}
use Rattle.causes.specs.CauseLines.{cause_lines, driver_lines}
use Rattle.causes.proofs.LineLemmas.{adds_told, by_beginning, by_drivers, by_stimulus}
use Rattle.causes.proofs.origin.cause_lines.Goals as goal

pub returns-then-has_point : goal.returns-then-has_point
returns-then-has_point g c =
    let d = c.args.design.now in
    let o = net_by_key d c.args.net in
    adds_told c.args.writer.now c.text.new.self o (λ n. cause_lines (netlist d) n c.args.t) (codes "stimulus\n")
    (by_stimulus (netlist d) c.args.t o c.has_point.result c.has_point.ensures c.if-has_point.true) c.text.ensures.adds

pub returns-then-t-eq0 : goal.returns-then-t-eq0
returns-then-t-eq0 g c =
    let d = c.args.design.now in
    let o = net_by_key d c.args.net in
    adds_told c.args.writer.now c.text-then-t-eq0.new.self o (λ n. cause_lines (netlist d) n c.args.t) (codes "beginning\n")
    (by_beginning (netlist d) c.args.t o c.has_point.result c.has_point.ensures c.if-has_point.false c.if-t-eq0.true) c.text-then-t-eq0.ensures.adds

pub returns-else-t-eq0 : goal.returns-else-t-eq0
returns-else-t-eq0 g c =
    let d = c.args.design.now in
    let o = net_by_key d c.args.net in
    adds_told c.args.writer.now c.drivers.new.writer o (λ n. cause_lines (netlist d) n c.args.t) (flat_map (driver_lines (netlist d) c.args.t) (drivers_of (netlist d) (name_of d.nets c.args.net)))
    (by_drivers (netlist d) c.args.t o c.has_point.result c.has_point.ensures c.if-has_point.false c.if-t-eq0.false) c.drivers.ensures
