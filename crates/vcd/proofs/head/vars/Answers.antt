use Rattle.std.proofs.Common.{refl, add-one}
use Rattle.vcd.specs.Scopes.{scopes_of}
use Rattle.vcd.proofs.ListLemmas.{drop_at}
use Rattle.vcd.proofs.Ways.{on}
use Rattle.vcd.proofs.head.vars.Goals as goal

pub loop-n-init : goal.loop-n-init
unfolding scopes_of
loop-n-init g c = record { same = refl; text = refl }

pub loop-n-preserved : goal.loop-n-preserved
loop-n-preserved g c =
    rw (c.as_bytes-name.ensures.value, c.as_str.ensures, c.name.ensures, add-one)
    (on _ _ _ _ _ _ (rw (drop_at _ c.loop-n.n c.net_at-net.result.now c.net_at-net.ensures) at c.loop-n.invariant) c.net_lines.ensures)
