use Rattle.std.proofs.Common.{◌≡◌, ℕ, suc, map, take}
use Rattle.vtext.specs.Modules.{ModuleEntry}
use Rattle.elaboration.specs.Levels.{is_deeper}
use Rattle.elaboration.proofs.levels.one_more.Given as goal

abbrev pub invariant-loop-place : goal.invariant-loop-place
invariant-loop-place l = (levels : ℕ) → l.deep ≡ map (λ (m : ℕ × ModuleEntry). is_deeper l.modules.modules levels m.1) l.modules.modules
    → l.more.items ≡ map (λ (m : ℕ × ModuleEntry). is_deeper l.modules.modules (suc levels) m.1) (take l.place l.modules.modules)
