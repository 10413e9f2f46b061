use Rattle.std.proofs.Common.{◌≡◌, ◌++◌, drop}
use Rattle.elaboration.specs.kept.Numbered.{place_after, slots_from}
use Rattle.elaboration.proofs.slots.slots_of.Given as goal

abbrev pub invariant-loop-place : goal.invariant-loop-place
invariant-loop-place l = record {
  items : l.items.items ++ slots_from l.is_top l.next (drop l.place l.entry.nets) (drop l.place l.given) ≡ slots_from l.is_top l.first l.entry.nets l.given;
  next : place_after l.next (drop l.place l.entry.nets) (drop l.place l.given) ≡ place_after l.first l.entry.nets l.given;
}
