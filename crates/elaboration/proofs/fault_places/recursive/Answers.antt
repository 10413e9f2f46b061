use Rattle.std.proofs.Common.{◌≡◌, ◌<◌, ℕ, true, Option, Some, get_or, length, option_map, sym, ap, ◌∙◌, arith}
use Rattle.vtext.specs.Modules.{ModuleEntry}
use Rattle.elaboration.specs.FaultPlaces.{module_place}
use Rattle.elaboration.specs.Tops.{is_recursive}
use Rattle.elaboration.proofs.PortLemmas.{blank}
use Rattle.elaboration.proofs.TopLemmas.{find_here, find_past}
use Rattle.elaboration.proofs.fault_places.recursive.Goals as goal

pub returns-then-branch : goal.returns-then-branch
returns-then-branch c =
    let modules = c.args.modules.now.modules in
    let place = c.loop-place.place in
    let within : place < length modules = omega (arith, c.loop-place-test.true, c.count-place-end.ensures) in
    let found : is_recursive modules (get_or modules place blank) ≡ true =
    ap (λ (m : ℕ × ModuleEntry). is_recursive modules m) (sym (c.at-name.ensures blank)) ∙ sym c.in_ok-is_recursive.ensures ∙ c.if-branch.true in
    ap Some (c.module_place.ensures ∙ ap module_place (c.at-name.ensures blank))
    ∙ ap (λ (o : Option (ℕ × ModuleEntry)). option_map module_place o)
    (sym (find_here (is_recursive modules) modules place blank within found) ∙ c.loop-place.invariant)

pub loop-place-preserved : goal.loop-place-preserved
loop-place-preserved c =
    let modules = c.args.modules.now.modules in
    find_past (is_recursive modules) modules c.loop-place.place blank (omega (arith, c.loop-place-test.true, c.count-place-end.ensures))
    (ap (λ (m : ℕ × ModuleEntry). is_recursive modules m) (sym (c.at-name.ensures blank)) ∙ sym c.in_ok-is_recursive.ensures ∙ c.if-branch.false)
    ∙ c.loop-place.invariant
