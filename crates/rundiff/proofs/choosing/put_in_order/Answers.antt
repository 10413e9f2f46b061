use Rattle.std.proofs.Common.{refl, nat_cmp}
use Rattle.std.specs.List.Sorted.{IsStrictlySortedBy}
use Rattle.std.proofs.lemmas.List.Filters.{dedup_is}
use Rattle.std.proofs.lemmas.List.Kept.{Contains-dedup_nat, Contains-from_dedup}
use Rattle.std.proofs.lemmas.List.Sorted.{Contains-permutation, IsPermutation-sym}
use Rattle.std.proofs.lemmas.Map.Keys.{IsStrictlyIncreasing-dedup, sorted_from_strictly_increasing}
use Rattle.rundiff.specs.kept.Places.{is_among}
use Rattle.rundiff.proofs.Among.{in_order, same_among}
use Rattle.rundiff.proofs.choosing.put_in_order.Goals as goal

pub returns-clause-same : goal.returns-clause-same
returns-clause-same c =
    let was = c.args.places.now.items in
    let moved = c.sort_unstable.ensures.permutation in
    let sorted = c.sort_unstable.new.self.items in
    let is = dedup_is _ _ _ c.dedup.ensures.filtered in
    same_among c.dedup.new.self.items was
    (λ x h. Contains-permutation sorted was x (IsPermutation-sym was sorted moved) (Contains-from_dedup _ sorted x (rw is at h)))
    (λ x h. rw is (Contains-dedup_nat sorted x (Contains-permutation was sorted x moved h)))

pub returns-clause-once : goal.returns-clause-once
returns-clause-once c =
    let once = c.dedup.new.self.items in
    let is = dedup_is _ _ _ c.dedup.ensures.filtered in
    let rising : IsStrictlySortedBy nat_cmp once =
    sorted_from_strictly_increasing once (rw is (IsStrictlyIncreasing-dedup c.sort_unstable.new.self.items c.sort_unstable.ensures.sorted)) in
    in_order once (is_among once) rising (λ p. refl)
