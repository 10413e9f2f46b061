use Rattle.std.proofs.Common.{◌≡◌, ◌≤◌, arith, refl}
use Rattle.design.specs.Keys.{Keyed, netlist}
use Rattle.core_tests.proofs.shortened.check.Goals as goal

same_horizon : (d : Keyed) → (netlist d).horizon ≡ d.horizon
unfolding netlist
same_horizon d = refl

pub shorten-requires : goal.shorten-requires
shorten-requires g c = let same = same_horizon c.args.design.now in let read = c.horizon.ensures.horizon in omega arith
