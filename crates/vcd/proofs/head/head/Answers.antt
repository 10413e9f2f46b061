use Rattle.std.proofs.Common.{ℕ, List, ◌++◌}
use Rattle.std.specs.Prelude.{codes}
use Rattle.devices.specs.Outgoing.{Adds}
use Rattle.std.proofs.Common.{[]}
use Rattle.design.specs.Keys.{netlist}
use Rattle.vcd.specs.Head.{timescale_line, var_lines}
use Rattle.vcd.specs.Scopes.{close_line, open_line}
use Rattle.vcd.proofs.Ways.{both}
use Rattle.vcd.proofs.head.head.Goals as goal

pub returns : goal.returns
returns g c =
    let t1 : List ℕ = codes "$version gatebench $end\n" ++ timescale_line (netlist c.args.design.now).unit in
    let t2 : List ℕ = t1 ++ open_line (netlist c.args.design.now).top in
    let t3 : List ℕ = t2 ++ var_lines 0 [] (netlist c.args.design.now).nets in
    let t4 : List ℕ = t3 ++ close_line in
    let a1 : Adds c.args.writer.now c.timescale.new.writer t1 = both c.args.writer.now c.text.new.self c.timescale.new.writer (codes "$version gatebench $end\n") (timescale_line (netlist c.args.design.now).unit) c.text.ensures.adds c.timescale.ensures in
    let a2 : Adds c.args.writer.now c.open_top.new.writer t2 = both c.args.writer.now c.timescale.new.writer c.open_top.new.writer t1 (open_line (netlist c.args.design.now).top) a1 c.open_top.ensures in
    let a3 : Adds c.args.writer.now c.vars.new.writer t3 = both c.args.writer.now c.open_top.new.writer c.vars.new.writer t2 (var_lines 0 [] (netlist c.args.design.now).nets) a2 c.vars.ensures in
    let a4 : Adds c.args.writer.now c.text-2.new.self t4 = both c.args.writer.now c.vars.new.writer c.text-2.new.self t3 (close_line) a3 c.text-2.ensures.adds in
    both c.args.writer.now c.text-2.new.self c.text-3.new.self t4 (codes "$enddefinitions $end\n") a4 c.text-3.ensures.adds
