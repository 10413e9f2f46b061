use Rattle.std.proofs.Common.{◌<◌, ◌≤◌, ◌∙◌, ap, refl, map, length, arith}
use Rattle.std.proofs.lemmas.List.{map-append}
use Rattle.std.proofs.lemmas.Option.{slice_get_read}
use Rattle.scratch.specs.kept.Kept.{evaluation_from}
use Rattle.scratch.proofs.Lists.{zip_next, zip_whole}
use Rattle.scratch.proofs.moment.find_tasks.Goals as goal

pub loop-place-preserved : goal.loop-place-preserved
loop-place-preserved c =
    let cells = c.args.wiring.now.cells.items in
    let states = c.args.states.now in
    let within : c.loop-place.place < length cells = rw c.deref-cell-items.ensures.value at c.loop-place-test.true in
    let item = rw c.deref-cell-items.ensures.value at c.cell-item.is in
    let cell = slice_get_read cells (length cells) c.loop-place.place c.cell-item.result (λ _. length cells) within item in
    let beside : c.loop-place.place < length states = omega arith in
    let state = slice_get_read states (length states) c.loop-place.place c.index-states-place.result (λ _. length states) beside c.index-states-place.is in
    rw (c.in_ok-push.ensures.items, c.loop-place.invariant, zip_next cells states c.loop-place.place _ _ cell state, map-append, c.task.ensures) refl

pub returns : goal.returns
returns c =
    let cells = c.args.wiring.now.cells.items in
    let past : length cells ≤ c.loop-place.place = rw c.deref-cell-items.ensures.value at c.loop-place-test.false in
    c.loop-place.invariant ∙ ap (map (λ p. evaluation_from c.args.values.now p.0 p.1)) (zip_whole cells c.args.states.now c.loop-place.place past)
