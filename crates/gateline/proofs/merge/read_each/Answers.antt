use Rattle.std.proofs.Common.{◌≡◌, ◌<◌, ◌+◌, ◌++◌, ◌∙◌, ap, sym, refl, min, [], ◌∷◌, Some, map, take, drop, length, get_or, slice_get, arith}
use Rattle.std.proofs.lemmas.List.{get_or-set_same, map-append, take_all, drop_more, drop-set-lt, take_more_set}
use Rattle.std.proofs.lemmas.Option.{slice_get_read}
use Rattle.gateline.proofs.Merging.{next_more}
use Rattle.gateline.proofs.merge.read_each.Goals as goal
use Rattle.gateline.specs.declared.reader.Reader.{Reader}
use Rattle.gateline.specs.kept.Readers.{next_among, next_of, seen, seen_then}
use Rattle.scratch.proofs.Lists.{take_next}

pub loop-place-init : goal.loop-place-init
loop-place-init c = record { front = refl; back = refl; values = c.clear.ensures.items; next = refl }

pub loop-place-preserved : goal.loop-place-preserved
loop-place-preserved c =
    let before = c.args.readers.now in let readers = c.loop-place.readers in let p = c.loop-place.place in let t = c.args.t in
    let old = c.index-readers-place.result in let x = c.pass.new.self in let reader = c.index-readers-place-in-loop-place.result in let so_far = c.loop-place.invariant in
    let many : length readers ≡ length before = c.loop-place.auto.readers in
    let inside : p < length readers = (let below = c.loop-place-test.true in omega arith) in
    let written = take_more_set readers p x inside in
    let back_there = drop_more readers p old inside in let back_before = drop_more before p old (omega arith) in
    let was : old ≡ get_or before p old = cc in
    let back : drop (p + 1) readers ≡ drop (p + 1) before = cc in
    let there : slice_get before p ≡ Some old = slice_get_read before (length before) p old refl (omega arith) was in
    let former : take (p + 1) before ≡ take p before ++ old ∷ [] = take_next before p old there in
    let one : seen x ≡ seen_then t old = (λ i. (c.pass.ensures.value i, c.pass.ensures.rest i)) ∙ ap (seen_then t) (sym c.index-readers-place.is) in
    let read_back : reader ≡ x = c.index-readers-place-in-loop-place.is ∙ get_or-set_same readers p x reader inside in
    record {
      front = ap (map seen) written ∙ map-append seen (take p readers) (x ∷ []) ∙ (λ i. so_far.front i ++ one i ∷ [])
          ∙ sym (map-append (seen_then t) (take p before) (old ∷ [])) ∙ sym (ap (map (seen_then t)) former);
      back = drop-set-lt (p + 1) readers p x (omega arith) ∙ back;
      values = c.in_ok-push.ensures.items ∙ ap (λ vs. vs ++ reader.value ∷ []) so_far.values
          ∙ ap (λ (r : Reader). map (λ (reader : Reader). reader.value) (take p readers) ++ r.value ∷ []) read_back
          ∙ sym (map-append (λ (reader : Reader). reader.value) (take p readers) (x ∷ [])) ∙ sym (ap (map (λ (reader : Reader). reader.value)) written);
      next = c.min-next.ensures ∙ (λ i. min (so_far.next i) (c.next.ensures i))
          ∙ ap (λ (r : Reader). min (next_among (take p readers)) (next_of r.rest.now)) read_back ∙ sym (next_more (take p readers) x) ∙ sym (ap next_among written);
    }

pub returns : goal.returns
returns c =
    let before = c.args.readers.now in let readers = c.loop-place.readers in let p = c.loop-place.place in let so_far = c.loop-place.invariant in
    let many : length readers ≡ length before = c.loop-place.auto.readers in
    let past = c.loop-place-test.false in
    let all = take_all p readers (omega arith) in
    record {
      readers = sym (ap (map seen) all) ∙ so_far.front ∙ ap (map (seen_then c.args.t)) (take_all p before past);
      values = so_far.values ∙ ap (map (λ (reader : Reader). reader.value)) all;
      next = so_far.next ∙ ap next_among all;
    }
