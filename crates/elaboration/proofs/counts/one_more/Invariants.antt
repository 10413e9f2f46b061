use Rattle.std.proofs.Common.{◌≡◌, ℕ, suc, map, min, take}
use Rattle.vtext.specs.Modules.{ModuleEntry}
use Rattle.elaboration.specs.declared.counts.TheConstants.{MANY}
use Rattle.elaboration.specs.Levels.{instance_count}
use Rattle.elaboration.proofs.counts.one_more.Given as goal

abbrev pub invariant-loop-place : goal.invariant-loop-place
invariant-loop-place l = (levels : ℕ) → l.counts ≡ map (λ (m : ℕ × ModuleEntry). min MANY (instance_count l.modules.modules levels m.1)) l.modules.modules
    → l.more.items ≡ map (λ (m : ℕ × ModuleEntry). min MANY (instance_count l.modules.modules (suc levels) m.1)) (take l.place l.modules.modules)
