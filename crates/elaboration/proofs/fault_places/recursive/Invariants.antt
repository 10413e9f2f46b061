use Rattle.std.proofs.Common.{◌≡◌, drop}
use Rattle.std.specs.List.{find}
use Rattle.elaboration.specs.Tops.{is_recursive}
use Rattle.elaboration.proofs.fault_places.recursive.Given as goal

abbrev pub invariant-loop-place : goal.invariant-loop-place
invariant-loop-place l = find (is_recursive l.modules.modules) (drop l.place l.modules.modules) ≡ find (is_recursive l.modules.modules) l.modules.modules
