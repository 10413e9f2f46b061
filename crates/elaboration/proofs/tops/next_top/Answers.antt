use Rattle.std.proofs.Common.{◌≡◌, ℕ, false, true, get_or, sym, ap, ◌∙◌, arith}
use Rattle.std.specs.List.{list_any}
use Rattle.vtext.specs.Modules.{ModuleEntry}
use Rattle.elaboration.specs.Tops.{instantiates, is_top}
use Rattle.elaboration.proofs.TopLemmas.{filter_here, filter_past, not_none, not_of}
use Rattle.elaboration.proofs.PortLemmas.{blank}
use Rattle.elaboration.proofs.tops.next_top.Goals as goal

pub returns-then-not-contains-clause-tops : goal.returns-then-not-contains-clause-tops
returns-then-not-contains-clause-tops c = λ all d.
    let modules = c.args.modules.now.modules in
    let place = c.loop-place.place in
    let name = c.at-name.result.0 in
    let found : is_top modules (get_or modules place d) ≡ true =
    ap (λ (m : ℕ × ModuleEntry). is_top modules m) (sym (c.at-name.ensures d))
    ∙ not_none (list_any (λ (m : ℕ × ModuleEntry). instantiates m.1 name) modules) (sym (all name) ∙ sym c.contains.ensures ∙ c.if-not-contains.true) in
    sym (c.loop-place.invariant all)
    ∙ filter_here (is_top modules) modules place d (omega (arith, c.loop-place-test.true, c.count-place-end.ensures)) found

pub loop-place-preserved : goal.loop-place-preserved
loop-place-preserved c = λ all.
    let modules = c.args.modules.now.modules in
    let place = c.loop-place.place in
    let name = c.at-name.result.0 in
    let none : is_top modules (get_or modules place blank) ≡ false =
    ap (λ (m : ℕ × ModuleEntry). is_top modules m) (sym (c.at-name.ensures blank))
    ∙ not_of (list_any (λ (m : ℕ × ModuleEntry). instantiates m.1 name) modules) (sym (all name) ∙ sym c.contains.ensures ∙ c.if-not-contains.false) in
    filter_past (is_top modules) modules place blank (omega (arith, c.loop-place-test.true, c.count-place-end.ensures)) none
    ∙ c.loop-place.invariant all
