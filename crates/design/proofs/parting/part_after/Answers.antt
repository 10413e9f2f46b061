use Rattle.std.proofs.Common.{◌<◌, ◌∙◌, ap, sym, subst, ℕ, List, nat_le, nat_lt}
use Rattle.std.specs.List.{filter}
use Rattle.std.proofs.lemmas.List.Kept.{AllPairs-filter}
use Rattle.design.specs.kept.Lawful.{AreRising}
use Rattle.design.specs.kept.Pieces.{points_of}
use Rattle.fourstate.specs.declared.value.Value.{Value}
use Rattle.design.proofs.parting.part_after.Goals as goal

rising_behind : (t : ℕ) (points : List (ℕ × Value)) → AreRising points → AreRising (filter (λ p. nat_lt t p.0) points)
rising_behind t points rising = AllPairs-filter (λ (p : ℕ × Value) (q : ℕ × Value). p.0 < q.0) (λ (p : ℕ × Value). nat_lt t p.0) points rising

pub part-requires-clause-rising : goal.part-requires-clause-rising
part-requires-clause-rising c = subst AreRising (sym c.later_part.ensures) (rising_behind c.args.t (points_of c.args.one.now) c.requires.rising)

pub part-requires-clause-other_rising : goal.part-requires-clause-other_rising
part-requires-clause-other_rising c = subst AreRising (sym c.later_part-2.ensures) (rising_behind c.args.t (points_of c.args.other.now) c.requires.other_rising)

pub returns : goal.returns
returns c = λ m early.
    let t = c.args.t in
    let until : List (ℕ × Value) → List (ℕ × Value) = filter (λ p. nat_le p.0 m) in
    ap until (sym c.later_part.ensures) ∙ c.part.ensures m early ∙ ap until c.later_part-2.ensures
