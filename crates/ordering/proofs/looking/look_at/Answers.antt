use Rattle.std.proofs.Common.{◌≡◌, ◌<◌, ◌∙◌, sym, ap, subst, true, IfSome, length, slice_get, arith, ⊎_elim}
use Rattle.std.specs.Prelude.{nat_eq}
use Rattle.std.proofs.Math.ListN.{length-set}
use Rattle.std.proofs.lemmas.Bool.{eqb-true, or_cases}
use Rattle.std.proofs.lemmas.Grind.{common_steps}
use Rattle.gatestep.specs.Step.{advance}
use Rattle.design.specs.Keys.{netlist}
use Rattle.gateline.specs.kept.Known.{AreSupplied, IsTraced}
use Rattle.scratch.specs.kept.Cells.{CellRecord}
use Rattle.ordering.specs.kept.Order.{is_marked, may_come_by}
use Rattle.ordering.proofs.Coming.{comes_ready}
use Rattle.ordering.proofs.Marks.{come_is, mark}
use Rattle.ordering.proofs.Supplied.{new_traced, stay_traced}
use Rattle.ordering.proofs.looking.look_at.Goals as goal

pub is_here-requires-clause-ready : goal.is_here-requires-clause-ready
is_here-requires-clause-ready c =
    let d = netlist c.args.design.now in let w = c.args.wiring.now in let k = c.args.place in let come = c.args.progress.now.come.items in
    let yes : c.may_come.result ≡ true = grind (arith, common_steps) in
    let may : may_come_by w (is_marked come) k ≡ true = ap (λ l. may_come_by w (is_marked l) k) (sym c.as_slice.ensures.value) ∙ sym c.may_come.ensures.may ∙ yes in
    comes_ready advance d w c.requires.wired c.args.progress.now.lines.traces.items (is_marked come) c.requires.sound.come k (sym (come_is d w c.requires.wired (is_marked come) k) ∙ may)

pub follow_one-requires-clause-supplied : goal.follow_one-requires-clause-supplied
follow_one-requires-clause-supplied c =
    let d = netlist c.args.design.now in let w = c.args.wiring.now in let k = c.args.place in let come = c.args.progress.now.come.items in
    let yes : c.may_come.result ≡ true = grind (arith, common_steps) in
    let may : may_come_by w (is_marked come) k ≡ true = ap (λ l. may_come_by w (is_marked l) k) (sym c.as_slice.ensures.value) ∙ sym c.may_come.ensures.may ∙ yes in
    let ready = comes_ready advance d w c.requires.wired c.args.progress.now.lines.traces.items (is_marked come) c.requires.sound.come k (sym (come_is d w c.requires.wired (is_marked come) k) ∙ may) in
    subst (λ traces. IfSome (slice_get w.cells.items k) (λ (cell : CellRecord). AreSupplied advance d traces cell.inputs)) (ap (λ l. l.items) (sym c.is_here.ensures.traces)) ready.supplied

pub returns : goal.returns
returns c =
    let d = netlist c.args.design.now in let k = c.args.place in let sound = c.is_here.ensures.sound in let come = c.is_here.new.progress.come.items in
    let was = c.is_here.new.progress.lines.traces.items in let now = c.follow_one.new.lines.traces.items in
    let many : length come ≡ length d.gates = sound.marks in let here : k < length come = (let low = c.requires.within in omega arith) in
    record {
      sound = record {
        fit = c.in_ok-follow_one.ensures.fit;
        found = c.in_ok-follow_one.ensures.found;
        come = λ p on.
            ⊎_elim
            (λ before. stay_traced advance d was now k sound.fit.traces c.requires.within c.in_ok-follow_one.ensures.trace p (sound.come p before))
            (λ same. subst (IsTraced advance d now) (sym (eqb-true p k same)) (new_traced advance d was now k sound.fit.traces c.requires.within c.in_ok-follow_one.ensures.trace))
            (or_cases (is_marked come p) (nat_eq p k) (sym (mark come k p here) ∙ on));
        marks = length-set come k true ∙ many;
      };
    }
