use Rattle.std.proofs.Common.{◌≡◌, ℕ, map, min}
use Rattle.vtext.specs.Modules.{ModuleEntry}
use Rattle.elaboration.specs.declared.counts.TheConstants.{MANY}
use Rattle.elaboration.specs.Levels.{instance_count}
use Rattle.elaboration.proofs.counts.counts.Given as goal

abbrev pub invariant-loop-level : goal.invariant-loop-level
invariant-loop-level l = l.counts.items ≡ map (λ (m : ℕ × ModuleEntry). min MANY (instance_count l.modules.modules l._level m.1)) l.modules.modules
