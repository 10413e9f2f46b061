use Rattle.std.proofs.Common.{ℕ, true, refl, ◌∙◌, arith}
use Rattle.vtext.specs.Modules.{ModuleEntry}
use Rattle.elaboration.specs.Levels.{is_deeper}
use Rattle.elaboration.proofs.PortLemmas.{blank}
use Rattle.elaboration.proofs.LoopLemmas.{map_next}
use Rattle.elaboration.proofs.levels.all_deep.Goals as goal

pub loop-place-preserved : goal.loop-place-preserved
loop-place-preserved c =
    let modules = c.args.modules.now.modules in
    c.in_ok-push.ensures.items
    ∙ map_next (λ (m : ℕ × ModuleEntry). is_deeper modules 0 m.1) modules c.loop-place._place blank c.loop-place.deep.items true
    (omega (arith, c.loop-place-test.true, c.count-place-end.ensures)) c.loop-place.invariant refl
