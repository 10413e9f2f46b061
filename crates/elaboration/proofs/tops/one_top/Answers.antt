use Rattle.std.proofs.Common.{◌∷◌, ℕ, List, Some, get_or, sym, ap, ◌∙◌}
use Rattle.std.proofs.lemmas.Option.{slice_get-get_or}
use Rattle.vtext.specs.declared.fault.ReadFaultKind.TheVariants.{ManyTops}
use Rattle.vtext.specs.Modules.{ModuleEntry}
use Rattle.elaboration.specs.Tops.{is_top, tops_fault}
use Rattle.elaboration.specs.Ports.{fault_at}
use Rattle.elaboration.proofs.PortLemmas.{blank}
use Rattle.elaboration.proofs.TopLemmas.{find_of_filter}
use Rattle.elaboration.proofs.tops.one_top.Goals as goal

pub returns-in-Some-next_top-clause-err : goal.returns-in-Some-next_top-clause-err
returns-in-Some-next_top-clause-err c = λ all.
    let text = c.args.text.now in
    let modules = c.args.modules.now.modules in
    let first : ℕ × ModuleEntry = get_or modules c.in-Some.first blank in
    ap (tops_fault text) (c.in-Some.ensures.tops all blank ∙ ap (λ (more : List (ℕ × ModuleEntry)). first ∷ more) (c.in-Some-next_top.ensures.tops all blank))
    ∙ sym (ap Some (c.fault_at.ensures ∙ ap (λ (start : ℕ). fault_at text start ManyTops) c.start.ensures ∙ ap (λ (m : ℕ × ModuleEntry). fault_at text m.1.start ManyTops) (c.at.ensures blank)))

pub returns-in-None-clause-top : goal.returns-in-None-clause-top
returns-in-None-clause-top c = λ all.
    let modules = c.args.modules.now.modules in
    slice_get-get_or modules c.in-Some.first blank c.in-Some.ensures.within
    ∙ sym (find_of_filter (is_top modules) modules _ _ (c.in-Some.ensures.tops all blank))

pub returns-in-None-clause-ok : goal.returns-in-None-clause-ok
returns-in-None-clause-ok c = λ all.
    let modules = c.args.modules.now.modules in
    let first : ℕ × ModuleEntry = get_or modules c.in-Some.first blank in
    ap (tops_fault c.args.text.now) (c.in-Some.ensures.tops all blank ∙ ap (λ (more : List (ℕ × ModuleEntry)). first ∷ more) (c.in-None.ensures.tops all))
