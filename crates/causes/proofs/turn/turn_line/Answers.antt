use Rattle.std.proofs.Common.{[], ℕ, List, ap, sym, subst}
use Rattle.std.proofs.lemmas.List.{append-nil}
use Rattle.devices.specs.Outgoing.{Adds}
use Rattle.design.specs.Keys.{netlist}
use Rattle.design.specs.kept.Keys.{gate_by_key}
use Rattle.causes.proofs.LineLemmas.{no_lines, one_line}
use Rattle.causes.proofs.turn.turn_line.Goals as goal

pub returns-in-Some : goal.returns-in-Some
returns-in-Some g c =
    let d = c.args.design.now in
    let line = one_line (netlist d) d.nets c.args.t (gate_by_key d c.args.gate) c.gate_of.result.now c.in-Some.from c.gate_of.ensures.gate c.in-Some.ensures.start in
    subst (λ ws. Adds c.args.writer.now c.gate_words.new.writer ws) (sym line) c.gate_words.ensures

pub returns-in_default : goal.returns-in_default
returns-in_default g c =
    let d = c.args.design.now in
    let none = no_lines (netlist d) d.nets c.args.t (gate_by_key d c.args.gate) c.in_default.ensures.start in
    let w = c.args.writer.now in
    let as_before : Adds w w [] = ap (λ (text : List ℕ). record w { text = text }) (sym (append-nil w.text)) in
    subst (λ ws. Adds c.args.writer.now c.args.writer.now ws) (sym none) as_before
