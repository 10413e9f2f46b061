use Rattle.std.proofs.Common.{◌≡◌, ◌∙◌, List, ℕ, subst}
use Rattle.std.specs.Prelude.{IfOk}
use Rattle.vread.proofs.DriverLemmas.{first_same, nets_named}
use Rattle.vread.proofs.driver.driver_party.Goals as goal

pub nets_of-requires : goal.nets_of-requires
nets_of-requires c =
    nets_named c.requires.elaborated.0 c.args.modules.now c.args.elaboration.now c.requires.elaborated.1 c.know.ensures c.requires.driven
    c.names-names.result.now c.scopes-scopes.result.now c.names-names.ensures c.scopes-scopes.ensures

pub returns : goal.returns
returns c =
    subst (λ (told : List ℕ). IfOk c.first_driver_text.result (λ party. party.items ≡ told))
    (first_same c.requires.elaborated.0 c.args.modules.now c.args.elaboration.now c.requires.elaborated.1 c.know.ensures c.requires.driven
    c.names-names.result.now c.as_slice.result.now c.scopes-scopes.result.now c.names-names.ensures (c.as_slice.ensures.value ∙ c.in_ok-nets.ensures) c.scopes-scopes.ensures)
    c.first_driver_text.ensures
