use Rattle.std.proofs.Common.{◌≡◌, ◌<◌, ◌∙◌, sym, ap, refl, ℕ, Some, length, slice_get, not, true, false, arith}
use Rattle.std.proofs.lemmas.Grind.{common_steps}
use Rattle.std.proofs.lemmas.Option.{slice_get-get_or, slice_get_read}
use Rattle.fourstate.specs.Values.{same_value}
use Rattle.catalog.proofs.ListLemmas.{slice_get_some}
use Rattle.design.specs.Keys.{netlist}
use Rattle.scratch.specs.kept.Kept.{lone_driver, output_at}
use Rattle.scratch.specs.kept.Nets.{waves_of}
use Rattle.scratch.specs.kept.Places.{changes_at, has}
use Rattle.scratch.proofs.Driven.{added, is_output}
use Rattle.scratch.proofs.NetSteps.{change_is, lone_there, went_alone}
use Rattle.scratch.proofs.driving.drive_net.Goals as goal

pub returns-then-net-len-clause-driven : goal.returns-then-net-len-clause-driven
returns-then-net-len-clause-driven g c =
    let output : slice_get c.args.setting.now.wiring.now.outputs.items c.args.gate ≡ Some c.in-Some.net.now =
    ap (λ l. slice_get l c.args.gate) (sym c.deref.ensures.value) ∙ slice_get-get_or c.deref.result.now c.args.gate c.in-Some.net.now c.in-Some.ensures.lookup.3.0 ∙ ap (λ n. Some n) (sym c.in-Some.ensures.lookup.1) in
    let same : (m : ℕ) → has m (output_at c.args.setting.now.wiring.now.outputs.items c.args.gate) ≡ true → m ≡ c.in-Some.net.now =
    λ m on. is_output c.args.setting.now.wiring.now.outputs.items c.args.gate c.in-Some.net.now m output on in
    λ m on off listed. absurd (let never : true ≡ false = sym (added c.args.nets.now.items c.in-Some.net.now m (same m on)) ∙ ap (has m) (sym c.in_ok-push.ensures.items) ∙ off in cc)

pub returns-in_ok-insert_readers_of-clause-part : goal.returns-in_ok-insert_readers_of-clause-part
returns-in_ok-insert_readers_of-clause-part g c =
    let answer = g.S.Stepper.answer in let d = netlist c.args.setting.now.design.now in let t = c.args.setting.now.t in let net = c.in-Some.net.now in
    let vs = c.args.values.now.items in let cs = c.args.changed.now.items in let part = c.requires.part in let lone = c.args.setting.now.wiring.now.lone_drivers.items in
    let in_values : net < length vs = let low = c.if-net-len.false in let len = c.len.ensures in grind (arith, common_steps) in
    let in_nets : net < length d.nets = rw (← part.as_many) in_values in
    let it = slice_get_some d.nets net in_nets in let n = it.0 in
    let alone : lone_driver d n ≡ Some c.args.gate = lone_there d lone net n (Some c.args.gate) c.requires.wired.lone_drivers it.1 (c.is_alone.ensures c.if-not-is_alone.false) in
    let is = c.requires.gives n alone in
    let old : slice_get vs net ≡ Some c.index.result.now = slice_get_read vs (length vs) net c.index.result.now refl in_values c.index.ensures in
    let other : not (same_value c.args.given c.index.result.now) ≡ true = sym c.is_other.ensures ∙ c.if-is_other.true in
    rw c.in_ok-push-2.ensures.items
    (went_alone answer d t c.requires.begun c.no_change.ensures net cs vs (waves_of answer d t) cs part n it.1 c.args.given c.index.result.now is old other c.args.gate alone)

pub returns-in_ok-insert_readers_of-clause-driven : goal.returns-in_ok-insert_readers_of-clause-driven
returns-in_ok-insert_readers_of-clause-driven g c =
    let output : slice_get c.args.setting.now.wiring.now.outputs.items c.args.gate ≡ Some c.in-Some.net.now =
    ap (λ l. slice_get l c.args.gate) (sym c.deref.ensures.value) ∙ slice_get-get_or c.deref.result.now c.args.gate c.in-Some.net.now c.in-Some.ensures.lookup.3.0 ∙ ap (λ n. Some n) (sym c.in-Some.ensures.lookup.1) in
    let same : (m : ℕ) → has m (output_at c.args.setting.now.wiring.now.outputs.items c.args.gate) ≡ true → m ≡ c.in-Some.net.now =
    λ m on. is_output c.args.setting.now.wiring.now.outputs.items c.args.gate c.in-Some.net.now m output on in
    λ m on off listed. absurd (let never : true ≡ false = sym (added c.args.changed.now.items c.in-Some.net.now m (same m on)) ∙ ap (has m) (sym c.in_ok-push-2.ensures.items) ∙ listed in cc)

pub returns-else-is_other-clause-driven : goal.returns-else-is_other-clause-driven
returns-else-is_other-clause-driven g c =
    let output : slice_get c.args.setting.now.wiring.now.outputs.items c.args.gate ≡ Some c.in-Some.net.now =
    ap (λ l. slice_get l c.args.gate) (sym c.deref.ensures.value) ∙ slice_get-get_or c.deref.result.now c.args.gate c.in-Some.net.now c.in-Some.ensures.lookup.3.0 ∙ ap (λ n. Some n) (sym c.in-Some.ensures.lookup.1) in
    let same : (m : ℕ) → has m (output_at c.args.setting.now.wiring.now.outputs.items c.args.gate) ≡ true → m ≡ c.in-Some.net.now =
    λ m on. is_output c.args.setting.now.wiring.now.outputs.items c.args.gate c.in-Some.net.now m output on in
    let answer = g.S.Stepper.answer in let d = netlist c.args.setting.now.design.now in let t = c.args.setting.now.t in let net = c.in-Some.net.now in
    let vs = c.args.values.now.items in let cs = c.args.changed.now.items in let part = c.requires.part in let lone = c.args.setting.now.wiring.now.lone_drivers.items in
    let in_values : net < length vs = let low = c.if-net-len.false in let len = c.len.ensures in grind (arith, common_steps) in
    let in_nets : net < length d.nets = rw (← part.as_many) in_values in
    let it = slice_get_some d.nets net in_nets in let n = it.0 in
    let alone : lone_driver d n ≡ Some c.args.gate = lone_there d lone net n (Some c.args.gate) c.requires.wired.lone_drivers it.1 (c.is_alone.ensures c.if-not-is_alone.false) in
    let is = c.requires.gives n alone in
    let old : slice_get vs net ≡ Some c.index.result.now = slice_get_read vs (length vs) net c.index.result.now refl in_values c.index.ensures in
    let still : not (same_value c.args.given c.index.result.now) ≡ false = sym c.is_other.ensures ∙ c.if-is_other.false in
    λ m on off listed.
    let e = same m on in
    ap (λ z. changes_at answer d z t) e
    ∙ change_is answer d t c.requires.begun c.no_change.ensures net cs vs (waves_of answer d t) cs part n it.1 c.args.given c.index.result.now is old (ap (λ z. has z cs) (sym e) ∙ listed) ∙ still
