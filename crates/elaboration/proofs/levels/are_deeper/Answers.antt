use Rattle.std.proofs.Common.{◌≡◌, ◌+◌, ℕ, suc, map, sym, ap, ◌∙◌, arith}
use Rattle.std.specs.Cmp.{booleans_Decides}
use Rattle.std.proofs.lemmas.Slice.Eq.{slice_eq-Decides}
use Rattle.vtext.specs.Modules.{ModuleEntry}
use Rattle.elaboration.specs.Levels.{is_deeper}
use Rattle.elaboration.proofs.LoopLemmas.{stays_until}
use Rattle.elaboration.proofs.levels.are_deeper.Goals as goal

pub returns-then-eq : goal.returns-then-eq
returns-then-eq c =
    let modules = c.args.modules.now.modules in
    let same : c.in_ok-more.more.items ≡ c.loop-level.deep.items =
    sym c.as_slice-in-loop-level.ensures.value
    ∙ (slice_eq-Decides booleans_Decides c.as_slice-in-loop-level.result.now c.as_slice-in-loop-level-2.result.now c.eq.result c.eq.ensures).0 c.if-eq.true
    ∙ c.as_slice-in-loop-level-2.ensures.value in
    stays_until (λ (n : ℕ). map (λ (m : ℕ × ModuleEntry). is_deeper modules n m.1) modules) c.loop-level.deep.items c.in_ok-more.more.items
    (λ levels table. c.in_ok-more.ensures levels (c.as_slice.ensures.value ∙ table)) same c.loop-level._level c.args.levels
    (omega (arith, c.loop-level-test.true)) c.loop-level.invariant

pub loop-level-preserved : goal.loop-level-preserved
loop-level-preserved c =
    let modules = c.args.modules.now.modules in
    let level = c.loop-level._level in
    let next : suc level ≡ level + 1 = omega arith in
    c.in_ok-more.ensures level (c.as_slice.ensures.value ∙ c.loop-level.invariant) ∙ ap (λ (n : ℕ). map (λ (m : ℕ × ModuleEntry). is_deeper modules n m.1) modules) next
