use Rattle.std.proofs.Common.{◌≡◌, ◌∙◌, ap, cond, [], ◌∷◌, ◌++◌, false, arith, nat_eq, slice_index_or}
use Rattle.std.proofs.lemmas.Bool.Decides.{nat_tests}
use Rattle.std.proofs.lemmas.Option.{slice_get-get_or}
use Rattle.event_queue.specs.kept.Noted.{noted}
use Rattle.scratch.proofs.Notes.{is_noted as added_there, keeps as added_keeps}
use Rattle.rundiff.proofs.NotedMore.{more_noted}
use Rattle.rundiff.proofs.opening.note_all.Goals as goal

pub loop-place-preserved : goal.loop-place-preserved
loop-place-preserved c =
    let xs = c.deref-place-items.result.now in let i = c.loop-place.place-index in let x = slice_index_or xs i 0 in
    let added = c.in_ok-add.ensures.ok in
    record {
      listed =
          more_noted xs i x (slice_get-get_or xs i 0 c.loop-place-test.true) (noted c.loop-place.queue) (noted c.add.new.self) c.args.t (added_keeps c.args.t x c.loop-place.queue c.add.new.self added)
          c.loop-place.invariant.listed (added_there c.args.t x c.loop-place.queue c.add.new.self added);
      early = λ u low.
          let apart : nat_eq c.args.t u ≡ false = grind (arith, nat_tests) in
          added u ∙ ap (λ b. cond b (noted c.loop-place.queue u ++ x ∷ []) (noted c.loop-place.queue u)) apart ∙ c.loop-place.invariant.early u low;
    }
