use Rattle.std.proofs.Common.{◌++◌, ◌∙◌, ◌/◌, ap, take}
use Rattle.std.proofs.lemmas.List.{take-append-drop}
use Rattle.design.specs.declared.piece.TheConstants.{MAX_PIECE}
use Rattle.design.proofs.piece.take_half.Goals as goal

pub returns-clause-all : goal.returns-clause-all
returns-clause-all c =
    ap (λ l. l ++ c.in_ok-half.half.items) c.in_ok-half.ensures.items ∙ ap (λ l. take (MAX_PIECE / 2) c.args.points.now.items ++ l) c.in_ok-half.ensures.tail ∙ take-append-drop (MAX_PIECE / 2) c.args.points.now.items
