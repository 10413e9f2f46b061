use Rattle.std.proofs.Common.{◌≡◌, ◌∙◌, ◌<◌, ap, sym, subst, refl, ℕ, List, ◌++◌, Bool, true, false, All, length, filter, nat_cmp, ◌||◌, ◌&&◌, ◌==◌, not}
use Rattle.std.specs.BTreeSet.{contains}
use Rattle.std.proofs.lemmas.List.Elements.{All-filter}
use Rattle.std.proofs.lemmas.List.Folds.{list_any-append}
use Rattle.std.proofs.lemmas.Bool.{or_left, or_right}
use Rattle.design.specs.Keys.{netlist}
use Rattle.event_queue.proofs.Changes.{by_ok}
use Rattle.scratch.proofs.Driven.{earlier}
use Rattle.scratch.proofs.Lists.{both_ok}
use Rattle.rundiff.specs.kept.Places.{gate_at, is_among}
use Rattle.rundiff.proofs.Among.{among_filter, live_gained}
use Rattle.rundiff.proofs.spreading.hold_found.Goals as goal

either : (a b : Bool) → ((a && not b) || b) ≡ (a || b)
either true true = refl
either true false = refl
either false b = refl

-- what is live then, by the nets that became live; these are added to what is looked at, and no others
module _ (slice : List ℕ) (live later : ℕ → Bool) (adds : (p : ℕ) → later p ≡ (is_among slice p || live p)) where
  by_found : (found : List ℕ) → slice ≡ filter (λ p. not (live p)) found → (p : ℕ) → later p ≡ (is_among found p || live p)
  by_found found is p =
      adds p ∙ ap (λ (l : List ℕ). is_among l p || live p) is ∙ ap (λ (b : Bool). b || live p) (among_filter (λ q. not (live q)) found p) ∙ either (is_among found p) (live p)

  module _ (nets now : List ℕ) (is : now ≡ nets ++ slice) where
    in_both : (p : ℕ) → is_among now p ≡ (is_among nets p || is_among slice p)
    in_both p = ap (λ (l : List ℕ). is_among l p) is ∙ list_any-append (λ q. q == p) nets slice

    added : (p : ℕ) → later p ≡ true → live p ≡ false → is_among now p ≡ true
    added p on off = in_both p ∙ or_right (is_among nets p) (is_among slice p) (earlier (is_among slice p) (live p) (sym (adds p) ∙ on) off)

    only_added : (p : ℕ) → is_among nets p ≡ false → is_among now p ≡ true → later p ≡ true
    only_added p off on = adds p ∙ or_left (is_among slice p) (live p) (ap (λ (b : Bool). b || is_among slice p) (sym off) ∙ sym (in_both p) ∙ on)

pub add_drivers-requires : goal.add_drivers-requires
add_drivers-requires c =
    let P : ℕ → Type 0 = λ p. p < length (netlist c.args.new.now).nets in
    record { there = subst (All P) (sym (c.as_slice-2.ensures.value ∙ c.leave_new.ensures)) (All-filter (λ p. not (contains nat_cmp c.args.live.now p)) P c.put_in_order.new.places.items (c.put_in_order.ensures.there (length (netlist c.args.new.now).nets) c.requires.there)) }

pub hold-requires-clause-there : goal.hold-requires-clause-there
hold-requires-clause-there c =
    let P : ℕ → Type 0 = λ p. p < length (netlist c.args.new.now).nets in
    subst (All P) (sym (c.as_slice-3.ensures.value ∙ c.leave_new.ensures)) (All-filter (λ p. not (contains nat_cmp c.args.live.now p)) P c.put_in_order.new.places.items (c.put_in_order.ensures.there (length (netlist c.args.new.now).nets) c.requires.there))

pub returns-clause-live : goal.returns-clause-live
returns-clause-live c =
    let live = contains nat_cmp c.args.live.now in
    by_ok c.hold.result c.hold.ensures.live
    (λ adds p.
    by_found c.as_slice-3.result.now live (contains nat_cmp c.hold.new.live) adds c.put_in_order.new.places.items (c.as_slice-3.ensures.value ∙ c.leave_new.ensures) p
    ∙ ap (λ (b : Bool). b || live p) (c.put_in_order.ensures.same p))

pub returns-clause-nets : goal.returns-clause-nets
returns-clause-nets c =
    by_ok c.hold.result c.hold.ensures.live
    (λ adds. added c.as_slice-3.result.now (contains nat_cmp c.args.live.now) (contains nat_cmp c.hold.new.live) adds c.args.nets.now.items c.extend_from_slice.new.self.items
    (c.in_ok-extend_from_slice.ensures.items ∙ ap (λ (l : List ℕ). c.args.nets.now.items ++ l) (c.as_slice.ensures.value ∙ sym c.as_slice-3.ensures.value)))

pub returns-clause-nets_live : goal.returns-clause-nets_live
returns-clause-nets_live c =
    by_ok c.hold.result c.hold.ensures.live
    (λ adds. only_added c.as_slice-3.result.now (contains nat_cmp c.args.live.now) (contains nat_cmp c.hold.new.live) adds c.args.nets.now.items c.extend_from_slice.new.self.items
    (c.in_ok-extend_from_slice.ensures.items ∙ ap (λ (l : List ℕ). c.args.nets.now.items ++ l) (c.as_slice.ensures.value ∙ sym c.as_slice-3.ensures.value)))

pub returns-clause-gates : goal.returns-clause-gates
returns-clause-gates c =
    let d = netlist c.args.new.now in
    let live = contains nat_cmp c.args.live.now in
    let later = contains nat_cmp c.hold.new.live in
    let slice = c.as_slice-3.result.now in
    both_ok c.hold.result c.hold.ensures.live c.hold.ensures.drivers
    (λ adds drivers q on off.
    let low = drivers.gates q on in
    let out = (gate_at d q).output in
    c.in_ok-add_drivers.ensures.drivers q low
    (live_gained d later live (is_among c.as_slice-2.result.now)
    (λ p. adds p ∙ ap (λ (l : List ℕ). is_among l p || live p) (c.as_slice-3.ensures.value ∙ sym c.as_slice-2.ensures.value)) out
    (sym (drivers.drivers q low) ∙ on) (sym (c.requires.drivers.drivers q low) ∙ off)))
