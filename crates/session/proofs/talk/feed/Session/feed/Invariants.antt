use Rattle.std.proofs.Common.{ℕ, List, ◌++◌, take}
use Rattle.session.specs.State.{SessionState}
use Rattle.session.specs.kept.Talk.{Going, SameSink}
use Rattle.session.proofs.talk.feed.Session.feed.Given as goal

-- the session goes on behind the bytes so far
abbrev pub invariant-loop-byte : goal.invariant-loop-byte
invariant-loop-byte g l = record {
  stands : (first : SessionState) (input : List ℕ) → Going first input l.initial.self.line l.initial.self.machine l.initial.writer.text
      → Going first (input ++ take l.byte-index l.piece) l.self.line l.self.machine l.writer.text;
  sink : SameSink l.initial.writer l.writer;
}
