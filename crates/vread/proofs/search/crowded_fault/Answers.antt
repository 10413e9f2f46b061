use Rattle.std.proofs.Common.{ℕ, List, All, sym, ◌∙◌}
use Rattle.vtext.specs.Modules.{ModuleEntry}
use Rattle.vtext.specs.kept.Sound.{IsSoundModule}
use Rattle.elaboration.specs.kept.Numbered.{AreDistinct}
use Rattle.vread.proofs.SearchLemmas.{long_is, many_is, port_is}
use Rattle.vread.proofs.search.crowded_fault.Goals as goal

all_distinct : (names : List (List ℕ)) (modules : List (ℕ × ModuleEntry)) → All (IsSoundModule names) modules → All (λ m. AreDistinct m.1.nets) modules
all_distinct names modules sound = λ k d within. (sound k d within).distinct_nets

pub any_scope-requires : goal.any_scope-requires
any_scope-requires c = all_distinct c.args.modules.now.names c.args.modules.now.modules c.requires.sound

pub any_scope-requires-2 : goal.any_scope-requires-2
any_scope-requires-2 c = all_distinct c.args.modules.now.names c.args.modules.now.modules c.requires.sound

pub returns-then-wrong : goal.returns-then-wrong
returns-then-wrong c =
    let names = c.args.modules.now.names in
    let modules = c.args.modules.now.modules in
    port_is names modules (c.terminals_are_nodes.ensures names modules) (c.scopes_alone.ensures.top names modules) (c.scopes_alone.ensures.inner names modules) (all_distinct names modules c.requires.sound) c.args.top.now
    c.requires.scopes (sym c.in_ok-wrong.ensures ∙ c.if-wrong.true)

pub returns-then-long : goal.returns-then-long
returns-then-long c =
    let names = c.args.modules.now.names in
    let modules = c.args.modules.now.modules in
    long_is names modules (c.terminals_are_nodes.ensures names modules) (c.scopes_alone.ensures.top names modules) (c.scopes_alone.ensures.inner names modules) (all_distinct names modules c.requires.sound) c.args.top.now
    c.requires.scopes (sym c.in_ok-wrong.ensures ∙ c.if-wrong.false) (sym c.in_ok-long.ensures ∙ c.if-long.true)

pub returns : goal.returns
returns c =
    let names = c.args.modules.now.names in
    let modules = c.args.modules.now.modules in
    many_is names modules (c.terminals_are_nodes.ensures names modules) (c.scopes_alone.ensures.top names modules) (c.scopes_alone.ensures.inner names modules) (all_distinct names modules c.requires.sound) c.args.top.now
    c.requires.scopes (sym c.in_ok-wrong.ensures ∙ c.if-wrong.false) (sym c.in_ok-long.ensures ∙ c.if-long.false) c.requires.crowded
