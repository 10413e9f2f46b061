use Rattle.std.proofs.Common.{suc}
use Rattle.design.specs.Netlist.{Netlist}
use Rattle.vcd.specs.Changes.{lines_below}
use Rattle.vcd.specs.Head.{head_lines}
use Rattle.vcd.specs.Text.{vcd_of, waves_of}
use Rattle.vcd.proofs.Ways.{both}
use Rattle.vcd.proofs.dump.text.Goals as goal

pub returns : goal.returns
unfolding vcd_of
returns g c =
    let d : Netlist = c.args.snapshot.now.design in
    both c.args.writer.now c.head.new.writer c.moments.new.writer (head_lines d) (lines_below (waves_of d) d.horizon (suc d.horizon))
    (rw c.design.ensures at c.head.ensures) (rw (c.of.ensures.waves, c.of.ensures.horizon) at c.moments.ensures)
