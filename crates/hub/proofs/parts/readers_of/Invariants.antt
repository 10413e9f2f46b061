use Rattle.std.proofs.Common.{◌≡◌, All, length}
use Rattle.left_right.specs.Sides.{view}
use Rattle.hub.proofs.parts.readers_of.Given as goal

-- the writer publishes and knows the same as at first, and the readers so far know it too
abbrev pub invariant-loop-number : goal.invariant-loop-number
invariant-loop-number l = (l.writer.desk.shown ≡ l.initial.writer.desk.shown) × (view l.writer.desk.place ≡ view l.initial.writer.desk.place)
    × All (λ r. view r.place ≡ view l.initial.writer.desk.place) l.readers.items × (length l.readers.items ≡ l._number)
