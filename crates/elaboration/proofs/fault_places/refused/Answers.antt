use Rattle.std.proofs.Common.{ℕ, ◌+◌, sym, ap, ◌∙◌, drop, arith}
use Rattle.std.specs.Option.{option_or}
use Rattle.vtext.specs.Modules.{ModuleEntry}
use Rattle.elaboration.specs.FaultPlaces.{refused_from}
use Rattle.elaboration.proofs.PlaceLemmas.{refused_next}
use Rattle.elaboration.proofs.PortLemmas.{blank}
use Rattle.elaboration.proofs.fault_places.refused.Goals as goal

pub returns-in-Some : goal.returns-in-Some
returns-in-Some c =
    let modules = c.args.modules.now.modules in
    let place = c.loop-place.place in
    sym (
    sym c.loop-place.invariant
    ∙ refused_next modules place c.at.result.1.now (omega (arith, c.loop-place-test.true, c.count-place-end.ensures)) (ap (λ (m : ℕ × ModuleEntry). m.1) (c.at.ensures blank))
    ∙ ap (λ found. option_or found (refused_from modules (drop (place + 1) modules))) (sym c.in_ok-found.ensures ∙ c.in-Some.is)
    )

pub loop-place-preserved : goal.loop-place-preserved
loop-place-preserved c =
    let modules = c.args.modules.now.modules in
    let place = c.loop-place.place in
    sym (
    refused_next modules place c.at.result.1.now (omega (arith, c.loop-place-test.true, c.count-place-end.ensures)) (ap (λ (m : ℕ × ModuleEntry). m.1) (c.at.ensures blank))
    ∙ ap (λ found. option_or found (refused_from modules (drop (place + 1) modules))) (sym c.in_ok-found.ensures ∙ c.in_default.is)
    )
    ∙ c.loop-place.invariant
