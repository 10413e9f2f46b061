use Rattle.std.proofs.Common.{◌≡◌, ◌+◌, [], Some, All, length, vec_len}
use Rattle.left_right.specs.Sides.{view}
use Rattle.hub.specs.kept.Issues.{issue_of}
use Rattle.hub.proofs.desk.viewers_of.Given as goal

-- the readers that are left and the viewers so far
abbrev pub invariant-loop-reader : goal.invariant-loop-reader
invariant-loop-reader g l = All (λ r. view r.place ≡ Some (issue_of g.J.HubName.origin g.J.HubName.book.history [])) l.readers.items
    × All (λ viewer. viewer ≡ []) l.viewers.items × (length l.viewers.items + length l.readers.items ≡ length l.initial.readers.items)

abbrev pub decreases-loop-reader : goal.decreases-loop-reader
decreases-loop-reader g l = vec_len l.readers
