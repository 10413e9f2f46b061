use Rattle.std.proofs.Common.{◌≡◌, ℕ, map, take}
use Rattle.vtext.specs.Modules.{ModuleEntry}
use Rattle.elaboration.specs.Levels.{is_deeper}
use Rattle.elaboration.proofs.levels.all_deep.Given as goal

abbrev pub invariant-loop-place : goal.invariant-loop-place
invariant-loop-place l = l.deep.items ≡ map (λ (m : ℕ × ModuleEntry). is_deeper l.modules.modules 0 m.1) (take l._place l.modules.modules)
