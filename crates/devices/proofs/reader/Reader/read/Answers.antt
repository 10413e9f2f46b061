use Rattle.std.proofs.Common.{List, ℕ, [], ◌∷◌, ◌++◌, take, ap, ◌∙◌, append_assoc}
use Rattle.std.specs.List.{concat}
use Rattle.devices.proofs.HistoryLemmas.{concat_last, consumes_both}
use Rattle.devices.proofs.reader.Reader.read.Goals as goal

pub invariant_of-self : goal.invariant_of-self
invariant_of-self g c =
    let was = c.self.invariant in
    let start = c.self.inside.start.value in
    let pieces = c.self.inside.came.pieces in
    let piece = take c.in-Some.n c.take.new.buffer in
    rw (c.add.ensures, concat_last pieces piece) (
      consumes_both (g.R.Source.remaining start) (g.R.Source.remaining _) (g.R.Source.remaining c.take.new.self) (concat pieces) piece was.0 c.in-Some.ensures.bytes,
      c.in-Some.ensures.piece ∙ ap (λ (before : List (List ℕ)). before ++ piece ∷ []) was.1 ∙ append_assoc (g.R.Source.taken start) pieces (piece ∷ []),
    )
