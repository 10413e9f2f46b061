use Rattle.std.proofs.Common.{◌∙◌, ap, sym, ℕ, List}
use Rattle.fourstate.specs.declared.value.Value.{Value}
use Rattle.design.proofs.PartingLemmas.{behind, same_from, until}
use Rattle.design.proofs.stimulus.Stimulus.parts_from.Goals as goal

pub returns : goal.returns
returns c = λ m after early.
    let t = c.args.t in
    let kept : List (ℕ × Value) → List (ℕ × Value) = λ points. until m (behind t points) in
    same_from c.args.self.now c.args.other.now t m c.requires.rising c.requires.other_rising after
    (sym c.value_at.ensures ∙ ap (λ (p : ℕ × Value). p.1) (c.is_same.ensures c.if-not-is_same.false) ∙ c.value_at-2.ensures)
    (ap kept (sym c.pieces.ensures.points) ∙ c.part_after.ensures m early ∙ ap kept c.pieces-2.ensures.points)
