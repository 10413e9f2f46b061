use Rattle.std.proofs.Common.{◌≡◌, ◌<◌, ℕ, length, drop, slice_index_or}
use Rattle.waveform.specs.kept.Links.{IsChain}
use Rattle.waveform.specs.kept.Notes.{entries_at}
use Rattle.waveform.proofs.writing.link_notes.Given as goal

-- the notes from `i` on are linked
abbrev pub invariant-loop-i : goal.invariant-loop-i
invariant-loop-i g l =
    record {
      places : length l.first.items ≡ l.places;
      notes : length l.next.items ≡ length l.notes;
      chains : (place : ℕ) → place < length l.first.items → IsChain l.notes l.next.items l.i (slice_index_or l.first.items place 0) (entries_at place (drop l.i l.notes));
    }
