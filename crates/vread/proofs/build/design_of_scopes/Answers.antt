use Rattle.std.proofs.Common.{◌≡◌, ℕ, List, Option, None, Some, inr, sym, ap, ◌∙◌}
use Rattle.std.specs.Prelude.{option_map}
use Rattle.vtext.specs.declared.fault.ReadFaultKind.{ReadFaultKind}
use Rattle.vtext.specs.Modules.{ModuleEntry}
use Rattle.elaboration.specs.Ports.{fault_at}
use Rattle.elaboration.specs.Scopes.{nets_of}
use Rattle.vread.specs.LateFaults.{scopes_fault}
use Rattle.vread.specs.Netlists.{netlist_of}
use Rattle.vread.specs.kept.Parts.{kept_fault}
use Rattle.vread.proofs.DesignLemmas.{top_sound}
use Rattle.vread.proofs.FaultLemmas.{fault_same, late_is}
use Rattle.vread.proofs.build.design_of_scopes.Goals as goal

pub design_from-requires : goal.design_from-requires
design_from-requires c =
    let list = c.args.modules.now in
    let design = c.args.elaboration.now in
    let text = c.args.text.now in
    let is = c.requires.elaborated in
    let same : kept_fault list.names design ≡ scopes_fault list.names list.modules design.top.1 =
    fault_same text list design is c.requires.few (c.terminals_are_nodes.ensures list.names list.modules (nets_of list.names list.modules design.top.1))
    (c.scopes_are_sound.ensures list.names list.modules design.top c.requires.sound (top_sound text list design is c.requires.sound)) in
    record {
      sound = c.requires.sound;
      elaborated = (text, is);
      faultless = sym same ∙ ap (λ (ns : List (List ℕ)). kept_fault ns design) (sym c.names.ensures) ∙ sym c.scopes_fault.ensures ∙ c.in_default.is;
    }

pub returns-in-Some-clause-err : goal.returns-in-Some-clause-err
returns-in-Some-clause-err c =
    let list = c.args.modules.now in
    let design = c.args.elaboration.now in
    let text = c.args.text.now in
    let is = c.requires.elaborated in
    let same : kept_fault list.names design ≡ scopes_fault list.names list.modules design.top.1 =
    fault_same text list design is c.requires.few (c.terminals_are_nodes.ensures list.names list.modules (nets_of list.names list.modules design.top.1))
    (c.scopes_are_sound.ensures list.names list.modules design.top c.requires.sound (top_sound text list design is c.requires.sound)) in
    let kind : Option ReadFaultKind = scopes_fault list.names list.modules design.top.1 in
    let found : kind ≡ Some c.in-Some.kind = sym same ∙ ap (λ (ns : List (List ℕ)). kept_fault ns design) (sym c.names.ensures) ∙ sym c.scopes_fault.ensures ∙ c.in-Some.is in
    inr (
    late_is text list design.top is.faultless is.top
    ∙ ap (λ (k : Option ReadFaultKind). option_map (fault_at text design.top.1.start) k) found
    ∙ sym (ap Some (c.fault_at.ensures ∙ ap (λ (start : ℕ). fault_at text start c.in-Some.kind) c.start.ensures))
    )

pub returns : goal.returns
returns c =
    let list = c.args.modules.now in
    let design = c.args.elaboration.now in
    let text = c.args.text.now in
    let is = c.requires.elaborated in
    let same : kept_fault list.names design ≡ scopes_fault list.names list.modules design.top.1 =
    fault_same text list design is c.requires.few (c.terminals_are_nodes.ensures list.names list.modules (nets_of list.names list.modules design.top.1))
    (c.scopes_are_sound.ensures list.names list.modules design.top c.requires.sound (top_sound text list design is c.requires.sound)) in
    let found : scopes_fault list.names list.modules design.top.1 ≡ None = sym same ∙ ap (λ (ns : List (List ℕ)). kept_fault ns design) (sym c.names.ensures) ∙ sym c.scopes_fault.ensures ∙ c.in_default.is in
    record {
      faultless = late_is text list design.top is.faultless is.top ∙ ap (λ (k : Option ReadFaultKind). option_map (fault_at text design.top.1.start) k) found;
      whole = ap (λ (t : Option (ℕ × ModuleEntry)). option_map (netlist_of list) t) is.top ∙ ap Some (sym c.in_ok-design.ensures);
      err = tt;
    }
