use Rattle.std.proofs.Common.{◌≡◌, ◌∙◌, ◌<◌, ◌++◌, ap, sym, subst, ℕ, List}
use Rattle.edits.specs.kept.Touched.{is_touched}
use Rattle.rundiff.proofs.Unchanged.{are_changed}
use Rattle.rundiff.proofs.front.Front.changed_nets.Goals as goal

pub returns : goal.returns
returns g c =
    let answer = g.S.Stepper.answer in
    let old = c.args.former.now.old.now in let new = c.args.former.now.new.now in
    let front = c.args.self.now in
    let nets = c.args.touched.now.nets.items in
    let added : c.extend_from_slice.new.self.items ≡ nets =
    c.in_ok-extend_from_slice.ensures.items ∙ ap (λ (l : List ℕ). l ++ c.as_slice.result.now) c.new-keys.ensures.items ∙ c.as_slice.ensures.value in
    are_changed answer old new c.names_are_keys.ensures.nets c.requires.horizon c.same_changes.ensures front.waves c.requires.front.live.waves
    nets c.args.touched.now.gates.items c.add_places.new.places.items c.add_keys.new.keys.items c.requires.touched
    (λ p low off. c.in_ok-add_places.ensures.kept p (subst (λ (n : ℕ). p < n) (sym c.net_count.ensures) low) off)
    (λ key on. c.in_ok-add_keys.ensures.more key (ap (λ (l : List ℕ). is_touched l key) added ∙ on))
    (λ p key among at. c.in_ok-add_keys.ensures.added p key (ap (λ (l : List ℕ). is_touched l p) c.as_slice-2.ensures.value ∙ among) at)
