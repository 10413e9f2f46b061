use Rattle.std.proofs.Common.{◌≡◌, ◌<◌, ◌≤◌, ℕ, true, not, take, nat_cmp, IsSomeAnd, IfSome, ◌&&◌}
use Rattle.std.specs.BTreeSet.{contains}
use Rattle.std.specs.List.{list_any}
use Rattle.design.specs.Keys.{connection_in, netlist}
use Rattle.rundiff.specs.kept.Noting.{is_at_live, old_moves}
use Rattle.rundiff.proofs.noting.note_inputs.Given as goal

-- the next change of the inputs so far
abbrev pub invariant-loop-terminal : goal.invariant-loop-terminal
invariant-loop-terminal g l = record {
  after : IfSome l.next (λ m. l.t < m);
  first : (u : ℕ) → l.t < u → list_any (λ terminal. not (is_at_live (netlist l.former.new.now) (contains nat_cmp l.live) (connection_in l.former.new.now.nets terminal))
      && old_moves g.S.Stepper.answer (netlist l.former.old.now) (netlist l.former.new.now) (connection_in l.former.new.now.nets terminal) u) (take l.terminal-index l.terminal-items) ≡ true → IsSomeAnd l.next (λ m. m ≤ u);
}
