use Rattle.std.proofs.lemmas.List.Filters.{dedup_is}
use Rattle.std.proofs.lemmas.List.Kept.{Contains-dedup_nat, Contains-from_dedup}
use Rattle.std.proofs.lemmas.List.Sorted.{Contains-permutation, IsPermutation-sym}
use Rattle.scratch.proofs.Among.{same_among}
use Rattle.scratch.proofs.stirring.put_in_order.Goals as goal

pub returns-then-len-gt1 : goal.returns-then-len-gt1
returns-then-len-gt1 c =
    let was = c.args.places.now.items in
    let moved = c.sort_unstable.ensures.permutation in
    let sorted = c.sort_unstable.new.self.items in
    let is = dedup_is _ _ _ c.dedup.ensures.filtered in
    same_among c.dedup.new.self.items was
    (λ x h. Contains-permutation sorted was x (IsPermutation-sym was sorted moved) (Contains-from_dedup _ sorted x (rw is at h)))
    (λ x h. rw is (Contains-dedup_nat sorted x (Contains-permutation was sorted x moved h)))
