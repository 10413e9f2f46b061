use Rattle.std.proofs.Common.{◌∙◌, sym, ap, Bool, get_or, take, nat_eq}
use Rattle.std.specs.Prelude.{◌||◌}
use Rattle.std.proofs.Math.Bool.{or_assoc}
use Rattle.scratch.specs.kept.Places.{has}
use Rattle.scratch.proofs.Among.{has_next}
use Rattle.scratch.proofs.stirring.insert_readers.Goals as goal

pub loop-place-preserved : goal.loop-place-preserved
loop-place-preserved c = λ k.
    (let places = c.args.readers.now in let i = c.loop-place.place-index in
    c.in_ok-insert.ensures.ok k ∙ ap (λ (b : Bool). b || nat_eq k (get_or places i 0)) (c.loop-place.invariant k)
    ∙ or_assoc (has k c.args.gates.now) (has k (take i places)) (nat_eq k (get_or places i 0))
    ∙ ap (λ (b : Bool). has k c.args.gates.now || b) (sym (has_next k places i c.loop-place-test.true)))
