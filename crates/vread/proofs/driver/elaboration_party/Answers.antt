use Rattle.std.proofs.Common.{◌≡◌, ◌∙◌, Bool, cond, List, [], ℕ, Option, ap, subst, sym}
use Rattle.std.specs.Prelude.{IfOk}
use Rattle.std.specs.Option.{option_map_or}
use Rattle.vtext.specs.declared.fault.ReadFaultKind.{ReadFaultKind}
use Rattle.elaboration.specs.Scopes.{scopes_of}
use Rattle.vread.specs.Drivers.{driver_text, first_driver, is_driven_input}
use Rattle.vread.specs.LateFaults.{scopes_fault}
use Rattle.vread.specs.kept.Parts.{kept_fault}
use Rattle.vread.proofs.FaultLemmas.{fault_same}
use Rattle.vread.proofs.driver.elaboration_party.Goals as goal

pub driver_party-requires-clause-driven : goal.driver_party-requires-clause-driven
driver_party-requires-clause-driven c =
    let list = c.args.modules.now in
    let design = c.args.elaboration.now in
    let same = fault_same c.requires.elaborated.0 list design c.requires.elaborated.1 c.requires.few c.know.ensures.refs c.know.ensures.sound in
    let kind : c.scopes_fault.result ≡ scopes_fault list.names list.modules design.top.1 = c.scopes_fault.ensures ∙ ap (λ ns. kept_fault ns design) c.names.ensures ∙ same in
    ap (λ (k : Option ReadFaultKind). is_driven_input k) (sym kind) ∙ sym c.is_driven_input.ensures ∙ c.if-is_driven_input.true

pub returns-then-is_driven_input : goal.returns-then-is_driven_input
returns-then-is_driven_input c =
    let list = c.args.modules.now in
    let design = c.args.elaboration.now in
    let same = fault_same c.requires.elaborated.0 list design c.requires.elaborated.1 c.requires.few c.know.ensures.refs c.know.ensures.sound in
    let kind : c.scopes_fault.result ≡ scopes_fault list.names list.modules design.top.1 = c.scopes_fault.ensures ∙ ap (λ ns. kept_fault ns design) c.names.ensures ∙ same in
    let driven = ap (λ (k : Option ReadFaultKind). is_driven_input k) (sym kind) ∙ sym c.is_driven_input.ensures ∙ c.if-is_driven_input.true in
    let told = option_map_or driver_text (first_driver list.names list.modules (scopes_of list.names list.modules design.top.1)) [] in
    subst (λ (text : List ℕ). IfOk c.driver_party.result (λ party. party.items ≡ text)) (sym (ap (λ (b : Bool). cond b told []) driven)) c.driver_party.ensures

pub returns-else-is_driven_input : goal.returns-else-is_driven_input
returns-else-is_driven_input c =
    let list = c.args.modules.now in
    let design = c.args.elaboration.now in
    let same = fault_same c.requires.elaborated.0 list design c.requires.elaborated.1 c.requires.few c.know.ensures.refs c.know.ensures.sound in
    let kind : c.scopes_fault.result ≡ scopes_fault list.names list.modules design.top.1 = c.scopes_fault.ensures ∙ ap (λ ns. kept_fault ns design) c.names.ensures ∙ same in
    let other = ap (λ (k : Option ReadFaultKind). is_driven_input k) (sym kind) ∙ sym c.is_driven_input.ensures ∙ c.if-is_driven_input.false in
    let told = option_map_or driver_text (first_driver list.names list.modules (scopes_of list.names list.modules design.top.1)) [] in
    c.new.ensures.items ∙ sym (ap (λ (b : Bool). cond b told []) other)
