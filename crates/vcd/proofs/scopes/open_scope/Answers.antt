use Rattle.std.proofs.Common.{ℕ, List, ◌++◌}
use Rattle.std.specs.Prelude.{codes}
use Rattle.devices.specs.Outgoing.{Adds}
use Rattle.vcd.proofs.Ways.{both}
use Rattle.vcd.proofs.scopes.open_scope.Goals as goal

pub returns : goal.returns
returns g c =
    let t1 : List ℕ = codes "$scope module " ++ c.args.scope.now in
    let a1 : Adds c.args.writer.now c.text-2.new.self t1 = both c.args.writer.now c.text.new.self c.text-2.new.self (codes "$scope module ") (c.args.scope.now) c.text.ensures.adds c.text-2.ensures.adds in
    both c.args.writer.now c.text-2.new.self c.text-3.new.self t1 (codes " $end\n") a1 c.text-3.ensures.adds
