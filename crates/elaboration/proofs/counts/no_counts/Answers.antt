use Rattle.std.proofs.Common.{ℕ, min, ◌∙◌, arith}
use Rattle.vtext.specs.Modules.{ModuleEntry}
use Rattle.elaboration.specs.declared.counts.TheConstants.{MANY}
use Rattle.elaboration.specs.Levels.{instance_count}
use Rattle.elaboration.proofs.PortLemmas.{blank}
use Rattle.elaboration.proofs.LoopLemmas.{map_next}
use Rattle.elaboration.proofs.counts.no_counts.Goals as goal

pub loop-place-preserved : goal.loop-place-preserved
loop-place-preserved c =
    let modules = c.args.modules.now.modules in
    c.in_ok-push.ensures.items
    ∙ map_next (λ (m : ℕ × ModuleEntry). min MANY (instance_count modules 0 m.1)) modules c.loop-place._place blank c.loop-place.counts.items 0
    (omega (arith, c.loop-place-test.true, c.count-place-end.ensures)) c.loop-place.invariant (omega arith)
