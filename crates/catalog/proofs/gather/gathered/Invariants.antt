use Rattle.std.proofs.Common.{take}
use Rattle.catalog.specs.kept.Columns.{entries_in}
use Rattle.catalog.specs.kept.Found.{key_under}
use Rattle.catalog.specs.kept.Table.{AreFound}
use Rattle.catalog.proofs.gather.gathered.Given as goal

abbrev pub invariant-loop-index : goal.invariant-loop-index
invariant-loop-index g l = AreFound g.R.Named.name (key_under g.R.Named.name l.map) (entries_in (take l.index l.order))
