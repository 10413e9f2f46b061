use Rattle.std.proofs.Common.{◌≡◌, ℕ, map}
use Rattle.vtext.specs.Modules.{ModuleEntry}
use Rattle.elaboration.specs.Levels.{is_deeper}
use Rattle.elaboration.proofs.levels.are_deeper.Given as goal

abbrev pub invariant-loop-level : goal.invariant-loop-level
invariant-loop-level l = l.deep.items ≡ map (λ (m : ℕ × ModuleEntry). is_deeper l.modules.modules l._level m.1) l.modules.modules
