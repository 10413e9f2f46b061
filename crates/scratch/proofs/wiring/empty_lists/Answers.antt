use Rattle.std.proofs.Common.{◌+◌, ◌∙◌, [], ◌∷◌, ap, length, length-append}
use Rattle.scratch.proofs.Readers.{none_more}
use Rattle.scratch.proofs.wiring.empty_lists.Goals as goal

pub loop-preserved : goal.loop-preserved
loop-preserved c =
    let all = c.loop.all.items in let list = c.new.result in
    record {
      none = λ k m. rw c.in_ok-push.ensures.items (none_more all list c.new.ensures.items c.loop.invariant.none k m);
      as_many = ap length c.in_ok-push.ensures.items ∙ length-append all (list ∷ []) ∙ ap (λ n. n + 1) c.loop.invariant.as_many;
    }
