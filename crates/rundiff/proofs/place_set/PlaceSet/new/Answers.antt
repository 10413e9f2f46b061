use Rattle.std.proofs.Common.{◌∙◌, ap, sym, nat_lt, ℕ, List, nat_cmp}
use Rattle.std.specs.BTreeSet.{contains}
use Rattle.rundiff.specs.kept.PlaceMaps.{number_at}
use Rattle.rundiff.proofs.Pages.{no_number}
use Rattle.rundiff.proofs.place_set.PlaceSet.new.Goals as goal

pub invariant_of-result : goal.invariant_of-result
invariant_of-result c = λ p.
    ap (λ l. nat_lt 0 (number_at l p)) c.new.ensures.items ∙ ap (nat_lt 0) (no_number p) ∙ sym (ap (λ (ks : List ℕ). contains nat_cmp (record { keys = ks }) p) c.new-2.ensures.empty)
