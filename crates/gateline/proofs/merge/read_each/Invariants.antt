use Rattle.std.proofs.Common.{◌≡◌, map, take, drop}
use Rattle.gateline.proofs.merge.read_each.Given as goal
use Rattle.gateline.specs.kept.Readers.{next_among, seen, seen_then}

-- the readers before the place are at the moment
abbrev pub invariant-loop-place : goal.invariant-loop-place
invariant-loop-place l =
    record {
      front : map seen (take l.place l.readers) ≡ map (seen_then l.t) (take l.place l.initial.readers);
      back : drop l.place l.readers ≡ drop l.place l.initial.readers;
      values : l.values.items ≡ map (λ reader. reader.value) (take l.place l.readers);
      next : l.next ≡ next_among (take l.place l.readers);
    }
