use Rattle.std.proofs.Common.{◌≡◌, take}
use Rattle.design.specs.kept.Lists.{without_key}
use Rattle.design.proofs.few.Few.remove.Given as goal

-- the keys so far, without the one
abbrev pub invariant-loop-kept : goal.invariant-loop-kept
invariant-loop-kept l = l.self ≡ without_key (take l.kept-index l.kept-items) l.key
