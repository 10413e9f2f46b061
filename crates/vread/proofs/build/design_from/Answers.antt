use Rattle.std.proofs.Common.{◌≡◌, ℕ, List, IsTrue, sym, ap, subst, ◌∙◌}
use Rattle.design.specs.Keys.{netlist}
use Rattle.design.specs.Names.{is_name}
use Rattle.vtext.specs.Names.{name_at}
use Rattle.vtext.specs.kept.Sound.{IsSoundModule}
use Rattle.vread.specs.Netlists.{unit_of}
use Rattle.vread.proofs.DesignLemmas.{gates_distinct, gates_fit, made_whole, nets_fit, top_sound}
use Rattle.vread.proofs.build.design_from.Goals as goal

pub name_from-requires : goal.name_from-requires
name_from-requires c =
    let list = c.args.modules.now in
    let design = c.args.elaboration.now in
    let top_is : IsSoundModule list.names design.top = top_sound c.requires.elaborated.0 list design c.requires.elaborated.1 c.requires.sound in
    let named : c.text.result.now ≡ name_at list.names design.top.0 =
    c.text.ensures ∙ ap (λ (ns : List (List ℕ)). name_at ns c.top.result) c.names-names.ensures ∙ ap (name_at list.names) c.top.ensures in
    subst (λ (n : List ℕ). IsTrue (is_name n)) (sym named) (c.parts_are_names.ensures.named (name_at list.names design.top.0) top_is.name.part top_is.name.short)

pub with_nets-requires : goal.with_nets-requires
with_nets-requires c =
    let list = c.args.modules.now in
    let design = c.args.elaboration.now in
    nets_fit c.requires.elaborated.0 list design c.requires.elaborated.1 c.know.ensures c.requires.faultless
    c.names-names.result.now c.scopes-scopes.result.now c.in_ok-name.name c.unit_of.result (netlist c.empty-design.result) c.names-names.ensures c.scopes-scopes.ensures c.empty-design.ensures.by_name

pub with_gates-requires : goal.with_gates-requires
with_gates-requires c =
    let list = c.args.modules.now in
    let design = c.args.elaboration.now in
    let text = c.requires.elaborated.0 in
    let is = c.requires.elaborated.1 in
    let laws = c.know.ensures in
    let named : c.in_ok-name.name ≡ name_at list.names design.top.0 =
    c.in_ok-name.ensures ∙ c.text.ensures ∙ ap (λ (ns : List (List ℕ)). name_at ns c.top.result) c.names-names.ensures ∙ ap (name_at list.names) c.top.ensures in
    let unit : c.unit_of.result ≡ unit_of list.unit = c.unit_of.ensures ∙ ap unit_of c.unit.ensures in
    record {
      fit = gates_fit text list design is laws c.requires.faultless c.names-names.result.now c.scopes-scopes.result.now c.in_ok-name.name c.unit_of.result (netlist c.empty-design.result) (netlist c.in_ok-design.design)
          c.names-names.ensures c.scopes-scopes.ensures named unit c.empty-design.ensures.by_name c.in_ok-design.ensures;
      distinct = gates_distinct text list design is laws c.requires.faultless c.names-names.result.now c.scopes-scopes.result.now c.in_ok-name.name c.unit_of.result (netlist c.empty-design.result) (netlist c.in_ok-design.design)
          c.names-names.ensures c.scopes-scopes.ensures named unit c.empty-design.ensures.by_name c.in_ok-design.ensures;
    }

pub returns : goal.returns
returns c =
    let list = c.args.modules.now in
    let design = c.args.elaboration.now in
    let named : c.in_ok-name.name ≡ name_at list.names design.top.0 =
    c.in_ok-name.ensures ∙ c.text.ensures ∙ ap (λ (ns : List (List ℕ)). name_at ns c.top.result) c.names-names.ensures ∙ ap (name_at list.names) c.top.ensures in
    let unit : c.unit_of.result ≡ unit_of list.unit = c.unit_of.ensures ∙ ap unit_of c.unit.ensures in
    made_whole c.requires.elaborated.0 list design c.requires.elaborated.1 c.know.ensures c.requires.faultless
    c.names-names.result.now c.scopes-scopes.result.now c.in_ok-name.name c.unit_of.result (netlist c.empty-design.result) (netlist c.in_ok-design.design) c.names-names.ensures c.scopes-scopes.ensures named unit
    c.empty-design.ensures.by_name c.in_ok-design.ensures c.with_gates.result c.with_gates.ensures
