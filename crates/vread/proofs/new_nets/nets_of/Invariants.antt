use Rattle.std.proofs.Common.{◌≡◌, ◌++◌, drop}
use Rattle.std.specs.Prelude.{flat_map}
use Rattle.vread.specs.kept.Parts.{AreNamed, kept_nets}
use Rattle.vread.proofs.new_nets.nets_of.Given as goal

abbrev pub invariant-loop-scope : goal.invariant-loop-scope
invariant-loop-scope l = record {
  all : l.nets.items ++ flat_map (kept_nets l.names) (drop l.scope-index l.scopes) ≡ flat_map (kept_nets l.names) l.scopes;
  named : AreNamed (flat_map (kept_nets l.names) (drop l.scope-index l.scopes));
}
