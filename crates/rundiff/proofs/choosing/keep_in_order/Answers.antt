use Rattle.std.proofs.Common.{◌≡◌, ◌∙◌, ◌<◌, ap, sym, subst, ℕ, Bool, rules, filter, nat_cmp, ◌&&◌, AllPairs}
use Rattle.std.specs.BTreeSet.{contains}
use Rattle.std.proofs.lemmas.Fn.{filter_same}
use Rattle.std.proofs.lemmas.List.Kept.{AllPairs-filter}
use Rattle.rundiff.specs.kept.Places.{is_among}
use Rattle.rundiff.proofs.Among.{among_filter}
use Rattle.rundiff.proofs.choosing.keep_in_order.Goals as goal

pub returns : goal.returns
returns c =
    let set = contains nat_cmp c.args.set.now in
    let before : ℕ → ℕ → Type 0 = λ p q. p < q in
    let once = c.put_in_order.new.places.items in
    let those : c.retain.new.self.items ≡ filter set once = filter_same _ _ _ (λ x b f' k. search rules) _ _ c.retain.ensures.filtered in
    record {
      rising = subst (AllPairs before) (sym those) (AllPairs-filter before set once c.put_in_order.ensures.once.rising);
      all = λ p. ap (λ l. is_among l p) those ∙ among_filter set once p ∙ ap (λ (b : Bool). b && set p) (c.put_in_order.ensures.same p);
    }
