use Rattle.std.proofs.Common.{take}
use Rattle.vtext.specs.kept.Readings.{view}
use Rattle.vtext.specs.Walks.{Leads, start, word_at}
use Rattle.vtext.proofs.walks.walk.Given as goal

abbrev pub invariant-loop-i : goal.invariant-loop-i
invariant-loop-i l = record { leads : Leads l.default l.names start (take l.i l.words) (word_at l.words l.i) (record { state = l.state; so_far = view l.draft }) }
