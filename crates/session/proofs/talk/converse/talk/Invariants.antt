use Rattle.session.specs.kept.Talk.{SameSink, SameSource, Waits}
use Rattle.session.proofs.talk.converse.talk.Given as goal

-- the session goes on, and all that it has written so far went out
abbrev pub invariant-loop : goal.invariant-loop
invariant-loop g l =
    (goal.iterator-loop g).can_next l.iterator' × (goal.iterator-loop g).is_finite l.iterator' × record {
      waits : Waits l.initial.session.machine l.reader l.session.line l.session.machine l.writer;
      sink : SameSink l.initial.writer l.writer;
      source : SameSource l.initial.reader l.reader 0;
    }
