use Rattle.std.proofs.Common.{◌≡◌, ◌<◌, ◌∙◌, ◌++◌, ◌∷◌, [], ap, append-nil, sym, refl, subst, true, false, length, map, slice_get, slice_index_or, All, Some, not}
use Rattle.std.proofs.lemmas.List.{map-append}
use Rattle.std.proofs.lemmas.List.Elements.{All-push}
use Rattle.std.proofs.lemmas.Option.{slice_get-get_or, slice_get_read}
use Rattle.gatestep.specs.Record.{at_moment}
use Rattle.gatestep.specs.Tasks.{IsReady, PendingFrom}
use Rattle.design.specs.Keys.{netlist}
use Rattle.design.proofs.ByNameLemmas.{all_at}
use Rattle.scratch.specs.Run.{state_before}
use Rattle.scratch.specs.kept.Open.{is_open_at}
use Rattle.scratch.proofs.Answered.{asked_here, asked_more, has_cell, not_asked, when_none, when_some}
use Rattle.scratch.proofs.asking.find_open_tasks.Goals as goal
use Rattle.scratch.proofs.asking.find_open_tasks.Goals.{then-is_none+in_ok-push, else-is_none}

pub loop-i-preserved : goal.loop-i-preserved
loop-i-preserved g c =
    let answer = g.S.Stepper.answer in let present = c.args.present.now in let d = netlist present.design.now in let t = present.t in
    let is_open = g.B.Beside.is_open answer d c.args.beside.now in let gates = c.args.gates.now in let i = c.loop-i.i in let place = slice_index_or gates i 0 in
    let at = slice_get-get_or gates i 0 c.loop-i-test.true in
    let states = c.args.states.now in let state = c.index-states-place.result in
    let there : slice_get states place ≡ Some state = slice_get_read states (length states) place state refl (c.requires.there i 0 c.loop-i-test.true) c.index-states-place.is in
    let at_state : slice_get (map (state_before answer d t) d.gates) place ≡ Some state = ap (λ l. slice_get l place) (sym c.requires.states) ∙ there in
    let cells = present.wiring.now.cells.items in let is = c.requires.present in
    let known = c.known_answer.ensures in
    record {
      tasks = elim c.if-is_none.branch [
        | then-is_none+in_ok-push w ↦
            let opens : is_open_at is_open d t place ≡ true =
            subst (λ o. is_open_at o d t place ≡ true) c.loop-i.invariant.same (when_none c.known_answer.result (is_open_at (g.B.Beside.is_open answer d c.loop-i.beside) d t place ≡ true) (c.is_none.ensures ∙ ap not w.if-is_none.true) known.open) in
            let low : place < length cells = has_cell is_open answer d t place state at_state present.values.now cells is.values is.wired.cells in
            let cell = slice_get_read cells (length cells) place w.index.result.now refl low w.index.ensures in
            let asked = asked_here is_open answer d t place state at_state present.values.now cells is.values is.wired.cells w.index.result.now cell w.task.result w.task.ensures opens in
            ap (λ (v : _). at_moment t v.items) w.tasks-is
            ∙ asked_more is_open answer d t gates i place [] (at_moment t c.loop-i.tasks.items) (at_moment t w.push.new.self.items) at c.loop-i.invariant.tasks
            (ap (at_moment t) w.in_ok-push.ensures.items ∙ map-append (λ task. (task, t)) c.loop-i.tasks.items (w.task.result ∷ []) ∙ ap (λ l. at_moment t c.loop-i.tasks.items ++ l) (sym asked))
        | else-is_none w ↦
            let closed : is_open_at is_open d t place ≡ false =
            subst (λ o. is_open_at o d t place ≡ false) c.loop-i.invariant.same (when_some c.known_answer.result (is_open_at (g.B.Beside.is_open answer d c.loop-i.beside) d t place ≡ false) (c.is_none.ensures ∙ ap not w.if-is_none.false) known.closed) in
            ap (λ (v : _). at_moment t v.items) w.tasks-is
            ∙ asked_more is_open answer d t gates i place [] (at_moment t c.loop-i.tasks.items) (at_moment t c.loop-i.tasks.items) at c.loop-i.invariant.tasks
            (sym (append-nil (at_moment t c.loop-i.tasks.items)) ∙ ap (λ l. at_moment t c.loop-i.tasks.items ++ l) (sym (not_asked is_open answer d t place state at_state closed)))
      ];
      ready = elim c.if-is_none.branch [
        | then-is_none+in_ok-push w ↦
            let one : PendingFrom t state = all_at (PendingFrom t) states place state c.requires.ready there in
            subst (λ (v : _). All (IsReady t) v.items) (sym w.tasks-is)
            (subst (All (IsReady t)) (sym w.in_ok-push.ensures.items) (All-push (IsReady t) c.loop-i.tasks.items w.task.result c.loop-i.invariant.ready (rw w.task.ensures one)))
        | else-is_none w ↦ subst (λ (v : _). All (IsReady t) v.items) (sym w.tasks-is) c.loop-i.invariant.ready
      ];
      fits = known.fits;
      same = known.same ∙ c.loop-i.invariant.same;
    }
