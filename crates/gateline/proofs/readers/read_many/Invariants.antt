use Rattle.std.proofs.Common.{◌≡◌, ◌≤◌, map, take, drop, length}
use Rattle.gateline.proofs.readers.read_many.Given as goal
use Rattle.gateline.specs.kept.Readers.{next_among, seen, seen_then}

-- the readers from the place on are at the moment
abbrev pub invariant-loop-place : goal.invariant-loop-place
invariant-loop-place l =
    record {
      front : take l.place l.readers ≡ take l.place l.initial.readers;
      back : map seen (drop l.place l.readers) ≡ map (seen_then l.t) (drop l.place l.initial.readers);
      inputs : l.inputs ≡ map (λ reader. reader.value) (drop l.place l.readers);
      next : l.next ≡ next_among (drop l.place l.readers);
      within : l.place ≤ length l.readers;
    }

abbrev pub decreases-loop-place : goal.decreases-loop-place
decreases-loop-place l = l.place
