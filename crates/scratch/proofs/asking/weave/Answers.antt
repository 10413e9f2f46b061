use Rattle.std.proofs.Common.{◌≡◌, ◌<◌, ◌+◌, ◌∙◌, ap, sym, refl, subst, true, false, take, length, map, slice_get, slice_index_or, Some, arith}
use Rattle.std.proofs.lemmas.Option.{slice_get-get_or, slice_get_read, slice_get_within}
use Rattle.std.specs.List.{flat_map}
use Rattle.design.specs.Keys.{netlist}
use Rattle.scratch.specs.Run.{state_before}
use Rattle.scratch.specs.kept.Open.{asked_at, is_open_at}
use Rattle.scratch.proofs.Answered.{after_here, answer_next, none_asked_here, one_asked}
use Rattle.scratch.proofs.Passing.{read_more}
use Rattle.scratch.proofs.asking.weave.Goals as goal
use Rattle.scratch.proofs.asking.weave.Goals.{in-Some+in_ok-push-in-Some, in-None+in_ok-push-in-None}

pub bounds-fresh-next : goal.bounds-fresh-next
bounds-fresh-next g c =
    let answer = g.S.Stepper.answer in let present = c.args.present.now in let d = netlist present.design.now in let t = present.t in
    let is_open = g.B.Beside.is_open answer d c.args.beside.now in let gates = c.args.gates.now in let i = c.loop-i.i in let place = slice_index_or gates i 0 in
    let at = slice_get-get_or gates i 0 c.loop-i-test.true in
    let states = c.args.states.now in let state = c.index-states-place.result in
    let at_state : slice_get (map (state_before answer d t) d.gates) place ≡ Some state =
    ap (λ l. slice_get l place) (sym c.requires.states) ∙ slice_get_read states (length states) place state refl (c.requires.there i 0 c.loop-i-test.true) c.index-states-place.is in
    let opens : is_open_at is_open d t place ≡ true = subst (λ o. is_open_at o d t place ≡ true) c.loop-i.invariant.same c.in-None.ensures.open in
    let next = c.loop-i.invariant.asked in
    rw next (slice_get_within c.args.fresh.now (length (flat_map (asked_at is_open answer d t) (take i gates))) _ (answer_next is_open answer d t place state at_state gates i c.args.fresh.now at opens c.requires.fresh))

pub offset_bounds-fresh-next : goal.offset_bounds-fresh-next
offset_bounds-fresh-next g c = let low = bounds-fresh-next g c in omega arith

pub overflow_add-next : goal.overflow_add-next
overflow_add-next g c =
    let answer = g.S.Stepper.answer in let present = c.args.present.now in let d = netlist present.design.now in let t = present.t in
    let is_open = g.B.Beside.is_open answer d c.args.beside.now in let gates = c.args.gates.now in let i = c.loop-i.i in let place = slice_index_or gates i 0 in
    let at = slice_get-get_or gates i 0 c.loop-i-test.true in
    let states = c.args.states.now in let state = c.index-states-place.result in
    let at_state : slice_get (map (state_before answer d t) d.gates) place ≡ Some state =
    ap (λ l. slice_get l place) (sym c.requires.states) ∙ slice_get_read states (length states) place state refl (c.requires.there i 0 c.loop-i-test.true) c.index-states-place.is in
    let opens : is_open_at is_open d t place ≡ true = subst (λ o. is_open_at o d t place ≡ true) c.loop-i.invariant.same c.in-None.ensures.open in
    let next = c.loop-i.invariant.asked in
    let low : c.loop-i.next < length c.args.fresh.now = rw next (slice_get_within c.args.fresh.now (length (flat_map (asked_at is_open answer d t) (take i gates))) _ (answer_next is_open answer d t place state at_state gates i c.args.fresh.now at opens c.requires.fresh)) in
    omega arith

pub loop-i-preserved : goal.loop-i-preserved
loop-i-preserved g c =
    let answer = g.S.Stepper.answer in let present = c.args.present.now in let d = netlist present.design.now in let t = present.t in
    let is_open = g.B.Beside.is_open answer d c.args.beside.now in let gates = c.args.gates.now in let i = c.loop-i.i in let place = slice_index_or gates i 0 in
    let at = slice_get-get_or gates i 0 c.loop-i-test.true in
    let states = c.args.states.now in let state = c.index-states-place.result in
    let at_state : slice_get (map (state_before answer d t) d.gates) place ≡ Some state =
    ap (λ l. slice_get l place) (sym c.requires.states) ∙ slice_get_read states (length states) place state refl (c.requires.there i 0 c.loop-i-test.true) c.index-states-place.is in
    let next = map (state_before answer d (t + 1)) d.gates in
    let known = c.known_answer.ensures in
    record {
      answers = elim c.match-known_answer.branch [
        | in-Some+in_ok-push-in-Some w ↦
            rw w.answers-is (read_more next gates i place w.in-Some.answer c.loop-i.answers.items w.push.new.self.items at w.in-Some.ensures.known w.in_ok-push-in-Some.ensures.items c.loop-i.invariant.answers)
        | in-None+in_ok-push-in-None w ↦
            let opens : is_open_at is_open d t place ≡ true = subst (λ o. is_open_at o d t place ≡ true) c.loop-i.invariant.same w.in-None.ensures.open in
            let fresh = c.args.fresh.now in
            let there = answer_next is_open answer d t place state at_state gates i fresh at opens c.requires.fresh in
            let low : c.loop-i.next < length fresh = rw c.loop-i.invariant.asked (slice_get_within fresh (length (flat_map (asked_at is_open answer d t) (take i gates))) _ there) in
            let read = slice_get_read fresh (length fresh) c.loop-i.next w.index-fresh-next.result refl low w.index-fresh-next.is in
            let here : slice_get next place ≡ Some w.index-fresh-next.result = after_here is_open answer d t place state at_state ∙ sym there ∙ ap (slice_get fresh) (sym c.loop-i.invariant.asked) ∙ read in
            rw w.answers-is (read_more next gates i place w.index-fresh-next.result c.loop-i.answers.items w.push-in-None.new.self.items at here w.in_ok-push-in-None.ensures.items c.loop-i.invariant.answers)
      ];
      asked = elim c.match-known_answer.branch [
        | in-Some+in_ok-push-in-Some w ↦
            let closed : is_open_at is_open d t place ≡ false = subst (λ o. is_open_at o d t place ≡ false) c.loop-i.invariant.same w.in-Some.ensures.closed in
            w.next-is ∙ c.loop-i.invariant.asked ∙ ap length (none_asked_here is_open answer d t place state at_state gates i at closed)
        | in-None+in_ok-push-in-None w ↦
            let opens : is_open_at is_open d t place ≡ true = subst (λ o. is_open_at o d t place ≡ true) c.loop-i.invariant.same w.in-None.ensures.open in
            w.next-is ∙ ap (λ n. n + 1) c.loop-i.invariant.asked ∙ one_asked is_open answer d t place state at_state gates i at opens
      ];
      fits = known.fits;
      same = known.same ∙ c.loop-i.invariant.same;
    }
