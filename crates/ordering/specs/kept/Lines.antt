-- The waves and the traces of a design, found one after another.
use Rattle.std.specs.Prelude.{◌≡◌, length}
use Rattle.design.specs.Netlist.{Netlist}
use Rattle.ordering.specs.declared.lines.Lines.{Lines}

-- there is a mark and a wave for each net, and a trace for each gate
pub record Fit (d : Netlist) (lines : Lines) : Type 0 where
  pub marks : length lines.found.items ≡ length d.nets
  pub waves : length lines.waves.items ≡ length d.nets
  pub traces : length lines.traces.items ≡ length d.gates
