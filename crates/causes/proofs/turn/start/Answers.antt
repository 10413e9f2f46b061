use Rattle.std.proofs.Common.{◌≡◌, ◌<◌, ◌-◌, ℕ, [], ◌∷◌, IfSome, sym, ap, subst, ◌∙◌, arith}
use Rattle.design.specs.Keys.{entry_in, netlist}
use Rattle.design.specs.kept.Keys.{gate_by_key}
use Rattle.causes.specs.Causes.{driven, starts}
use Rattle.causes.proofs.ChangeLemmas.{at_some}
use Rattle.causes.proofs.LineLemmas.{no_start_of, start_of}
use Rattle.causes.proofs.turn.start.Goals as goal

pub returns-then-is_same-clause-start : goal.returns-then-is_same-clause-start
returns-then-is_same-clause-start c =
    let d = c.args.design.now in
    let later : 0 < c.args.t = omega (arith, c.if-t-eq0.false) in
    no_start_of (netlist d) d.nets c.args.t (gate_by_key d c.args.gate) c.driven-value.result c.driven-before.result later c.driven-value.ensures c.driven-before.ensures (sym c.is_same.ensures ∙ c.if-is_same.true)

pub delay_before-requires : goal.delay_before-requires
delay_before-requires c =
    let d = c.args.design.now in
    let o = gate_by_key d c.args.gate in
    let g = c.gate_of-gate.result.now in
    let later : 0 < c.args.t = omega (arith, c.if-t-eq0.false) in
    let value = at_some o g (λ h. c.driven-value.result ≡ driven (netlist d) (entry_in d.nets h) c.args.t) c.gate_of-gate.ensures.gate c.driven-value.ensures in
    let before = at_some o g (λ h. c.driven-before.result ≡ driven (netlist d) (entry_in d.nets h) (c.args.t - 1)) c.gate_of-gate.ensures.gate c.driven-before.ensures in
    (start_of (netlist d) d.nets c.args.t g c.driven-value.result c.driven-before.result c.lawful.ensures later value before (sym c.is_same.ensures ∙ c.if-is_same.false)).1

pub returns-clause-start : goal.returns-clause-start
returns-clause-start c =
    let d = c.args.design.now in
    let o = gate_by_key d c.args.gate in
    let g = c.gate_of-gate.result.now in
    let later : 0 < c.args.t = omega (arith, c.if-t-eq0.false) in
    let value = at_some o g (λ h. c.driven-value.result ≡ driven (netlist d) (entry_in d.nets h) c.args.t) c.gate_of-gate.ensures.gate c.driven-value.ensures in
    let before = at_some o g (λ h. c.driven-before.result ≡ driven (netlist d) (entry_in d.nets h) (c.args.t - 1)) c.gate_of-gate.ensures.gate c.driven-before.ensures in
    let once = (start_of (netlist d) d.nets c.args.t g c.driven-value.result c.driven-before.result c.lawful.ensures later value before (sym c.is_same.ensures ∙ c.if-is_same.false)).0 in
    let here : c.delay_before.result ∷ [] ≡ starts (netlist d) (entry_in d.nets g) c.args.t = ap (λ (u : ℕ). u ∷ []) c.delay_before.ensures ∙ sym once in
    subst (λ p. IfSome p (λ h. c.delay_before.result ∷ [] ≡ starts (netlist d) (entry_in d.nets h) c.args.t)) (sym c.gate_of-gate.ensures.gate) here
