use Rattle.std.proofs.Common.{◌≡◌, ◌∙◌, ◌<◌, ap, sym, subst, refl, ℕ, List, Bool, Some, length, map, get_or, false, not, All, arith, slice_get}
use Rattle.std.proofs.lemmas.List.Sums.{AllPass-from_list_all}
use Rattle.gatestep.specs.Step.{Evaluation, State}
use Rattle.design.specs.Keys.{Keyed, netlist}
use Rattle.design.specs.kept.Lawful.{IsDesign}
use Rattle.design.specs.Netlist.{Netlist, is_readable}
use Rattle.scratch.specs.kept.Cells.{CellRecord}
use Rattle.scratch.specs.kept.Kept.{input_value}
use Rattle.scratch.specs.Run.{state_before}
use Rattle.scratch.specs.Work.{same_values, task_at}
use Rattle.rundiff.specs.Dirty.{is_new}
use Rattle.rundiff.specs.kept.OldRuns.{AreOldRun, HasWave, OldLinesRecord, OldRunRecord, old_value}
use Rattle.rundiff.specs.kept.Places.{blank_gate, gate_at}
use Rattle.rundiff.proofs.Driven.{read_get}
use Rattle.rundiff.proofs.EachPlace.{holds_at}
use Rattle.rundiff.proofs.OneGate.{known_decides, new_dirty, state_differs}
use Rattle.rundiff.proofs.ReadBefore.{all_placed, all_read, state_read}
use Rattle.rundiff.proofs.old_lines.OldLines.is_clean.Goals as goal

other_is : (answer : Evaluation → ℕ → State) (old new : Netlist) (others : List Bool) (run : OldRunRecord) → others ≡ run.others → AreOldRun answer old new run → (p : ℕ) (other : Bool) →
    p < length new.gates → other ≡ get_or others p other → other ≡ is_new old (gate_at new p)
other_is answer old new others run same right p other there read =
    let low : p < length others = let many = ap length same in let count = right.other_count in omega (arith, many, count, there) in
    holds_at (λ q o. o ≡ is_new old (gate_at new q)) run.others p other right.others (subst (λ l. slice_get l p ≡ Some other) same (read_get others p other low read))

pub are_read-requires : goal.are_read-requires
are_read-requires g c =
    let old = netlist c.args.self.now.design in let new = netlist c.args.present.now.design.now in let run = c.args.self.now.run in
    record {
      there =
          subst (λ (lines : OldLinesRecord). All (HasWave lines.run) c.args.cell.now.inputs) (sym c.state_before.ensures.same)
          (subst (λ (cell : CellRecord). All (HasWave run) cell.inputs) (sym c.requires.cell) (all_placed g.S.Stepper.answer old new run c.requires.lines (HasWave run) (λ p low. low) (λ v. tt) (gate_at new c.args.place).inputs));
    }

pub returns-then-index-clause-clean : goal.returns-then-index-clause-clean
returns-then-index-clause-clean g c =
    let answer = g.S.Stepper.answer in let old = netlist c.args.self.now.design in let new = netlist c.args.present.now.design.now in let p = c.args.place in
    let other = other_is answer old new c.self.inside.others.items c.args.self.now.run (ap (λ (lines : OldLinesRecord). lines.run.others) c.self.view_is) c.requires.lines p c.index.result.now c.requires.there c.index.ensures in
    ap not (new_dirty answer old new (gate_at new p) c.args.present.now.t c.requires.within (sym other ∙ c.if-index.true))

pub returns-then-not-is_same-clause-clean : goal.returns-then-not-is_same-clause-clean
returns-then-not-is_same-clause-clean g c =
    let answer = g.S.Stepper.answer in let old = netlist c.args.self.now.design in let new = netlist c.args.present.now.design.now in let t = c.args.present.now.t in let p = c.args.place in let within = c.requires.within in
    let read = state_read answer old new c.args.self.now.run c.requires.lines c.value_of_changes-2.ensures g.met.S.Stepper.answer_pending (subst (λ (k : Keyed). IsDesign (netlist k)) (ap (λ (lines : OldLinesRecord). lines.design) c.self.view_is) c.lawful.ensures.design) p c.requires.there in
    ap not (state_differs answer old new (gate_at new p) t within c.state_before.result c.args.state (λ known. c.state_before.ensures.state ∙ read known t (omega arith)) (ap (λ (e : Evaluation). e.state) c.requires.task)
    (sym c.is_same.ensures ∙ c.if-not-is_same.true))

pub returns-clause-clean : goal.returns-clause-clean
returns-clause-clean g c =
    let answer = g.S.Stepper.answer in let old = netlist c.args.self.now.design in let new = netlist c.args.present.now.design.now in let t = c.args.present.now.t in let p = c.args.place in let gate = gate_at new p in
    let wired = AllPass-from_list_all (is_readable new) gate.inputs (c.lawful-2.ensures.design.wiring p blank_gate c.requires.there).inputs in
    let run = c.args.self.now.run in let right = c.requires.lines in
    let former = map (old_value run t) c.args.cell.now.inputs in let present = map (input_value c.args.present.now.values.now) c.args.cell.now.inputs in
    let read : former ≡ (task_at answer old gate t).inputs =
    ap (λ (cell : CellRecord). map (old_value run t) cell.inputs) c.requires.cell ∙ all_read answer old new run right c.value_of_changes.ensures t c.requires.within (old_value run t) (λ q low. refl) (λ v. refl) gate.inputs wired in
    let known : is_new old gate ≡ false =
    sym (other_is answer old new c.self.inside.others.items run (ap (λ (lines : OldLinesRecord). lines.run.others) c.self.view_is) right p c.index.result.now c.requires.there c.index.ensures) ∙ c.if-index.false in
    let state : c.state_before.result ≡ state_before answer old t gate =
    c.state_before.ensures.state
    ∙ state_read answer old new run right c.value_of_changes-2.ensures g.met.S.Stepper.answer_pending (subst (λ (k : Keyed). IsDesign (netlist k)) (ap (λ (lines : OldLinesRecord). lines.design) c.self.view_is) c.lawful.ensures.design) p c.requires.there known t (let within = c.requires.within in omega arith) in
    c.are_read.ensures.read ∙ ap (λ (lines : OldLinesRecord). same_values (map (old_value lines.run t) c.args.cell.now.inputs) present) c.state_before.ensures.same
    ∙ known_decides answer old new gate t c.requires.within known c.state_before.result c.args.state state (ap (λ (e : Evaluation). e.state) c.requires.task) (sym c.is_same.ensures ∙ c.if-not-is_same.false)
    former present read (ap (λ (e : Evaluation). e.inputs) c.requires.task)
