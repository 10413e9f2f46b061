use Rattle.std.proofs.Common.{◌∷◌, ℕ, List, Some, get_or, sym, ap, ◌∙◌}
use Rattle.vtext.specs.Modules.{ModuleEntry}
use Rattle.elaboration.specs.FaultPlaces.{module_place, top_place, tops_place}
use Rattle.elaboration.proofs.PortLemmas.{blank}
use Rattle.elaboration.proofs.fault_places.top_place.Goals as goal

pub returns-in-Some : goal.returns-in-Some
returns-in-Some c = λ all.
    let modules = c.args.modules.now.modules in
    let first : ℕ × ModuleEntry = get_or modules c.in_ok-first.first blank in
    sym (
    ap tops_place (c.in_ok-first.ensures.tops all blank ∙ ap (λ (more : List (ℕ × ModuleEntry)). first ∷ more) (c.in-Some.ensures.tops all blank))
    ∙ sym (ap Some (c.module_place.ensures ∙ ap module_place (c.at-name.ensures blank)))
    )

pub returns-in-None : goal.returns-in-None
returns-in-None c = λ all.
    let modules = c.args.modules.now.modules in
    let first : ℕ × ModuleEntry = get_or modules c.in_ok-first.first blank in
    sym (
    ap tops_place (c.in_ok-first.ensures.tops all blank ∙ ap (λ (more : List (ℕ × ModuleEntry)). first ∷ more) (c.in-None.ensures.tops all))
    ∙ sym (ap Some (c.bare_place.ensures ∙ ap top_place (c.at-top.ensures blank)))
    )
