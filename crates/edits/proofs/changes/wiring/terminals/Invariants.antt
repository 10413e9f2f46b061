use Rattle.std.proofs.Common.{◌≡◌, All, length, map, take}
use Rattle.design.specs.Keys.{connection_in}
use Rattle.design.specs.kept.Keys.{IsThere}
use Rattle.edits.specs.Edits.{connection_of}
use Rattle.edits.proofs.changes.wiring.terminals.Given as goal

abbrev pub invariant-loop-pin : goal.invariant-loop-pin
invariant-loop-pin l = record {
  named : map (connection_in l.design.nets) l.terminals.items ≡ map connection_of (take l.pin-index l.pins);
  there : All (IsThere l.design.nets) l.terminals.items;
  count : length l.terminals.items ≡ l.pin-index;
}
