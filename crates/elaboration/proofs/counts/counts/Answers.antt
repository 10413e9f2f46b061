use Rattle.std.proofs.Common.{◌≡◌, ◌+◌, ℕ, suc, map, min, sym, ap, ◌∙◌, arith}
use Rattle.std.proofs.lemmas.Bool.Decides.{Decides-eqb}
use Rattle.std.proofs.lemmas.Slice.Eq.{slice_eq-Decides}
use Rattle.vtext.specs.Modules.{ModuleEntry}
use Rattle.elaboration.specs.declared.counts.TheConstants.{MANY}
use Rattle.elaboration.specs.Levels.{instance_count}
use Rattle.elaboration.proofs.LoopLemmas.{stays_until}
use Rattle.elaboration.proofs.counts.counts.Goals as goal

pub returns-then-eq : goal.returns-then-eq
returns-then-eq c =
    let modules = c.args.modules.now.modules in
    let same : c.in_ok-more.more.items ≡ c.loop-level.counts.items =
    sym c.as_slice-in-loop-level.ensures.value
    ∙ (slice_eq-Decides Decides-eqb c.as_slice-in-loop-level.result.now c.as_slice-in-loop-level-2.result.now c.eq.result c.eq.ensures).0 c.if-eq.true
    ∙ c.as_slice-in-loop-level-2.ensures.value in
    stays_until (λ (n : ℕ). map (λ (m : ℕ × ModuleEntry). min MANY (instance_count modules n m.1)) modules) c.loop-level.counts.items c.in_ok-more.more.items
    (λ levels table. c.in_ok-more.ensures levels (c.as_slice.ensures.value ∙ table)) same c.loop-level._level c.args.levels
    (omega (arith, c.loop-level-test.true)) c.loop-level.invariant

pub loop-level-preserved : goal.loop-level-preserved
loop-level-preserved c =
    let modules = c.args.modules.now.modules in
    let level = c.loop-level._level in
    let next : suc level ≡ level + 1 = omega arith in
    c.in_ok-more.ensures level (c.as_slice.ensures.value ∙ c.loop-level.invariant) ∙ ap (λ (n : ℕ). map (λ (m : ℕ × ModuleEntry). min MANY (instance_count modules n m.1)) modules) next
