use Rattle.std.proofs.Common.{◌∙◌, ◌<◌, ap, sym, subst, ℕ, List, All, arith}
use Rattle.rundiff.specs.kept.Places.{is_among}
use Rattle.rundiff.proofs.Items.{among_all}
use Rattle.rundiff.proofs.finish.hold_all.Goals as goal

pub add_outputs-requires : goal.add_outputs-requires
add_outputs-requires c = record {
  there = λ q among.
      let count = c.gate_count.result in
      let gates = c.add_places-2.new.places.items in
      let none : All (λ p. p < count) c.new-gates.result.items = subst (All (λ p. p < count)) (sym c.new-gates.ensures.items) (λ k d low. absurd (omega (arith, low))) in
      let below = among_all (λ p. p < count) gates (c.in_ok-add_places-2.ensures.below none) q (ap (λ (l : List ℕ). is_among l q) (sym c.as_slice.ensures.value) ∙ among) in
      subst (λ (n : ℕ). q < n) c.gate_count.ensures below;
}
