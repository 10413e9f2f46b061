use Rattle.std.proofs.Common.{◌<◌, arith}
use Rattle.design.specs.Keys.{netlist}
use Rattle.design.specs.kept.Keys.{net_by_key}
use Rattle.causes.proofs.ChangeLemmas.{changed}
use Rattle.causes.proofs.change.changes_at.Goals as goal

pub returns : goal.returns
returns c =
    let d = c.args.design.now in
    let later : 0 < c.args.t = omega (arith, c.if-t-eq0.false) in
    changed (net_by_key d c.args.net) (netlist d) c.value_at.result c.value_at-before.result c.args.t later c.value_at.ensures c.value_at-before.ensures c.is_same.result c.is_same.ensures
