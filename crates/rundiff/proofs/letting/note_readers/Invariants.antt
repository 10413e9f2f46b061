use Rattle.std.proofs.Common.{◌≡◌, ◌≤◌, ℕ, suc, true, take, Some, IsSomeAnd}
use Rattle.catalog.specs.kept.Catalog.{place_of}
use Rattle.event_queue.specs.kept.Noted.{noted}
use Rattle.scratch.specs.kept.Places.{IsNotedWithin, Keeps}
use Rattle.rundiff.specs.kept.Places.{is_among}
use Rattle.rundiff.proofs.letting.note_readers.Given as goal

-- the readers so far are noted
abbrev pub invariant-loop-reader : goal.invariant-loop-reader
invariant-loop-reader g l = record {
  next : (key : ℕ) → is_among (take l.reader-index l.readers) key ≡ true → (q u : ℕ) → place_of l.former.new.now.gates key ≡ Some q → IsSomeAnd l.change (λ m. m ≤ u) → IsNotedWithin (noted l.queue) q (suc l.t) u;
  kept : Keeps (noted l.fn.queue) (noted l.queue);
  early : (u : ℕ) → u ≤ l.t → noted l.queue u ≡ noted l.fn.queue u;
}
