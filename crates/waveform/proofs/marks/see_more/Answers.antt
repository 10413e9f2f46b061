use Rattle.std.proofs.Common.{◌≡◌, ◌∙◌, ◌<◌, ◌+◌, ◌*◌, ◌/◌, ℕ, true, get_or, length, map, set, subst, sym}
use Rattle.std.proofs.lemmas.List.{length-set}
use Rattle.waveform.specs.kept.Marks.{mark_of}
use Rattle.waveform.proofs.Marking.{seen_more}
use Rattle.waveform.proofs.marks.see_more.Goals as goal

pub loop-place-preserved : goal.loop-place-preserved
loop-place-preserved g c =
    let sample = g.V.Sample in
    let entries = c.args.entries.now in
    let seen = c.loop-place.seen.items in
    let x = c.index-entries-place.result in
    let digit : c.digit-digit.result ≡ sample.digit (sample.stored x).1 = cc in
    record {
      size = length-set seen (c.loop-place.place / 256 * 4 + c.digit-digit.result) true ∙ c.loop-place.invariant.size;
      shown = subst (λ n. (k : ℕ) (d : ℕ × g.row.V.Denot) → k < c.loop-place.place + 1 → k < length entries →
          get_or (set seen (mark_of c.loop-place.place n) true) (mark_of k (sample.digit (get_or (map sample.stored entries) k d).1)) true ≡ true)
          (sym digit) (seen_more sample.stored sample.digit seen entries c.loop-place.place x c.index-entries-place.is c.loop-place.invariant.shown);
    }
