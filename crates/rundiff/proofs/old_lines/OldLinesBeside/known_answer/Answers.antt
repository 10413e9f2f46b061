use Rattle.std.proofs.Common.{◌≡◌, ◌∙◌, ◌<◌, ◌+◌, ap, sym, refl, ℕ, suc, Some, length, false, arith, slice_get}
use Rattle.std.specs.Option.{option_map, option_map_or}
use Rattle.std.proofs.lemmas.Option.{slice_get-map, slice_get_read, slice_get_within, get_or_from_slice_get}
use Rattle.std.proofs.lemmas.Bool.{not-false, not-true}
use Rattle.design.specs.Keys.{netlist}
use Rattle.design.specs.Netlist.{GateEntry, Netlist}
use Rattle.scratch.specs.kept.Kept.{evaluation_from}
use Rattle.scratch.specs.Run.{state_before}
use Rattle.scratch.specs.Work.{task_at}
use Rattle.scratch.proofs.Answered.{found, has_cell, the_task}
use Rattle.rundiff.specs.Dirty.{is_dirty}
use Rattle.rundiff.specs.kept.OldRuns.{OldLinesRecord}
use Rattle.rundiff.specs.kept.Places.{blank_gate, gate_at}
use Rattle.rundiff.proofs.old_lines.OldLinesBeside.known_answer.Goals as goal

gate_is : (d : Netlist) (p : ℕ) (g : GateEntry) → slice_get d.gates p ≡ Some g → g ≡ gate_at d p
gate_is d p g at = sym (get_or_from_slice_get d.gates p g blank_gate at)

pub is_clean-requires-clause-task : goal.is_clean-requires-clause-task
is_clean-requires-clause-task g c =
    let answer = g.S.Stepper.answer in let old = netlist c.args.self.now.design in let present = c.args.present.now in let new = netlist present.design.now in let t = present.t in let p = c.args.place in let state = c.args.state in
    let dirty = is_dirty answer old new in let cells = present.wiring.now.cells.items in let is = c.requires.present in
    let low : p < length cells = has_cell dirty answer new t p state c.requires.state present.values.now cells is.values is.wired.cells in
    let at_cell = slice_get_read cells (length cells) p c.index-cell.result.now refl low c.index-cell.ensures in
    let gate = found dirty answer new t p state c.requires.state in
    the_task dirty answer new t p state c.requires.state present.values.now cells is.values is.wired.cells c.index-cell.result.now at_cell (evaluation_from present.values.now c.index-cell.result.now state) refl
    ∙ ap (λ (x : GateEntry). task_at answer new x t) (gate_is new p gate.0 gate.1)

pub returns-then-not-is_clean-clause-open : goal.returns-then-not-is_clean-clause-open
returns-then-not-is_clean-clause-open g c =
    let answer = g.S.Stepper.answer in let old = netlist c.args.self.now.design in let present = c.args.present.now in let new = netlist present.design.now in let t = present.t in let p = c.args.place in
    let dirty = is_dirty answer old new in let gate = found dirty answer new t p c.args.state c.requires.state in
    ap (λ o. option_map_or (λ x. dirty x t) o false) gate.1 ∙ ap (λ (x : GateEntry). dirty x t) (gate_is new p gate.0 gate.1)
    ∙ not-false (dirty (gate_at new p) t) (sym c.is_clean.ensures.clean ∙ c.if-not-is_clean.true)

pub state_after-requires-clause-there : goal.state_after-requires-clause-there
state_after-requires-clause-there g c =
    let answer = g.S.Stepper.answer in let old = netlist c.args.self.now.design in let present = c.args.present.now in let new = netlist present.design.now in
    let gate = found (is_dirty answer old new) answer new present.t c.args.place c.args.state c.requires.state in
    slice_get_within new.gates c.args.place gate.0 gate.1

pub state_after-requires-clause-clean : goal.state_after-requires-clause-clean
state_after-requires-clause-clean g c =
    let answer = g.S.Stepper.answer in let old = netlist c.args.self.now.design in let new = netlist c.args.present.now.design.now in let t = c.args.present.now.t in let gate = gate_at new c.args.place in
    ap (λ (lines : OldLinesRecord). is_dirty answer (netlist lines.design) new gate t) c.is_clean.ensures.same
    ∙ not-true (is_dirty answer old new gate t) (sym c.is_clean.ensures.clean ∙ c.if-not-is_clean.false)

pub returns-clause-known : goal.returns-clause-known
returns-clause-known g c =
    let answer = g.S.Stepper.answer in let old = netlist c.args.self.now.design in let present = c.args.present.now in let new = netlist present.design.now in let t = present.t in let p = c.args.place in
    let gate = found (is_dirty answer old new) answer new t p c.args.state c.requires.state in
    let next : t + 1 ≡ suc t = omega arith in
    slice_get-map (state_before answer new (t + 1)) new.gates p ∙ ap (option_map (state_before answer new (t + 1))) gate.1
    ∙ ap (λ n. Some (state_before answer new n gate.0)) next
    ∙ ap (λ (x : GateEntry). Some (state_before answer new (suc t) x)) (gate_is new p gate.0 gate.1) ∙ ap (λ x. Some x) (sym c.state_after.ensures.state)

pub returns-clause-closed : goal.returns-clause-closed
returns-clause-closed g c =
    let answer = g.S.Stepper.answer in let old = netlist c.args.self.now.design in let present = c.args.present.now in let new = netlist present.design.now in let t = present.t in let p = c.args.place in
    let dirty = is_dirty answer old new in let gate = found dirty answer new t p c.args.state c.requires.state in
    ap (λ o. option_map_or (λ x. dirty x t) o false) gate.1 ∙ ap (λ (x : GateEntry). dirty x t) (gate_is new p gate.0 gate.1)
    ∙ not-true (dirty (gate_at new p) t) (sym c.is_clean.ensures.clean ∙ c.if-not-is_clean.false)
