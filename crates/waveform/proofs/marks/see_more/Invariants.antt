use Rattle.std.proofs.Common.{◌≡◌, ◌*◌, ◌/◌, ◌<◌, ℕ, true, map, length, slice_index_or}
use Rattle.waveform.specs.kept.Marks.{mark_of}
use Rattle.waveform.proofs.marks.see_more.Given as goal

-- the digits of the entries before `place` are seen
abbrev pub invariant-loop-place : goal.invariant-loop-place
invariant-loop-place g l =
    record {
      size : length l.seen.items ≡ length l.entries / 256 * 4;
      shown : (k : ℕ) (d : ℕ × g.row.V.Denot) → k < l.place → k < length l.entries →
          slice_index_or l.seen.items (mark_of k (g.V.Sample.digit (slice_index_or (map g.V.Sample.stored l.entries) k d).1)) true ≡ true;
    }
