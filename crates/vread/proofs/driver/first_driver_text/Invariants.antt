use Rattle.std.proofs.Common.{◌≡◌, drop}
use Rattle.vread.specs.kept.Parts.{first_kept_driver}
use Rattle.vread.proofs.driver.first_driver_text.Given as goal

-- what is found from here on is what is found
abbrev pub invariant-loop-scope : goal.invariant-loop-scope
invariant-loop-scope l = first_kept_driver l.names l.nets (drop l.scope-index l.scopes) ≡ first_kept_driver l.names l.nets l.scopes
