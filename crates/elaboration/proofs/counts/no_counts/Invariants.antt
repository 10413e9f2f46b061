use Rattle.std.proofs.Common.{◌≡◌, ℕ, map, min, take}
use Rattle.vtext.specs.Modules.{ModuleEntry}
use Rattle.elaboration.specs.declared.counts.TheConstants.{MANY}
use Rattle.elaboration.specs.Levels.{instance_count}
use Rattle.elaboration.proofs.counts.no_counts.Given as goal

abbrev pub invariant-loop-place : goal.invariant-loop-place
invariant-loop-place l = l.counts.items ≡ map (λ (m : ℕ × ModuleEntry). min MANY (instance_count l.modules.modules 0 m.1)) (take l._place l.modules.modules)
