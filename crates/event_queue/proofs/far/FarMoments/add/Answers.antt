use Rattle.std.proofs.Common.{◌≡◌, ◌≢◌, ◌++◌, ◌∷◌, ◌∙◌, ap, sym, subst, [], Some, Result, Ok, Err, OnErr}
use Rattle.std.specs.BTreeMap.{get}
use Rattle.std.specs.Option.{is_some}
use Rattle.std.specs.Ordering.{nat_cmp}
use Rattle.event_queue.specs.kept.Noted.{AreSame, IsAdded}
use Rattle.event_queue.proofs.Moments.{added, filled, items, kept, not_empty, seen, some_there}
use Rattle.event_queue.proofs.far.FarMoments.add.Goals as goal

held_err : {A E P : Type 0} (r : Result A E) → P → OnErr r P
held_err (Ok x) p = tt
held_err (Err e) p = p

pub invariant_of-self : goal.invariant_of-self
invariant_of-self c =
    let m = c.self.inside.moments in
    let at : get nat_cmp m c.args.t ≡ Some c.in-Some.numbers.now = sym c.in-Some.ensures.value in
    let same : c.push.new.self.items ≡ c.in-Some.numbers.now.items = c.in_err-push.ensures.items in
    let some : c.push.new.self.items ≢ [] = rw same (some_there m c.args.t c.in-Some.numbers.now c.self.invariant at) in
    filled m (c.get_mut.follows.lender c.push.new.self) c.args.t (Some c.push.new.self) ((c.get_mut.follows.holds c.push.new.self).3 (ap is_some at)).0 some c.self.invariant

pub returns-in_err-push-clause-err : goal.returns-in_err-push-clause-err
returns-in_err-push-clause-err c =
    let m = c.self.inside.moments in
    let at : get nat_cmp m c.args.t ≡ Some c.in-Some.numbers.now = sym c.in-Some.ensures.value in
    let now = c.get_mut.follows.lender c.push.new.self in
    held_err c.from_residual.result
    (subst (λ q. AreSame q (seen now)) c.self.view_is (kept m now c.args.t (Some c.push.new.self) ((c.get_mut.follows.holds c.push.new.self).3 (ap is_some at)).0 (c.in_err-push.ensures.items ∙ sym (ap items at))))

pub invariant_of-self-in-Some : goal.invariant_of-self-in-Some
invariant_of-self-in-Some c =
    let m = c.self.inside.moments in
    let at : get nat_cmp m c.args.t ≡ Some c.in-Some.numbers.now = sym c.in-Some.ensures.value in
    let some : c.push.new.self.items ≢ [] = rw c.in_ok-push.ensures.items (not_empty c.in-Some.numbers.now.items c.args.number) in
    filled m (c.get_mut.follows.lender c.push.new.self) c.args.t (Some c.push.new.self) ((c.get_mut.follows.holds c.push.new.self).3 (ap is_some at)).0 some c.self.invariant

pub returns-in-Some-clause-ok : goal.returns-in-Some-clause-ok
returns-in-Some-clause-ok c =
    let m = c.self.inside.moments in
    let at : get nat_cmp m c.args.t ≡ Some c.in-Some.numbers.now = sym c.in-Some.ensures.value in
    let now = c.get_mut.follows.lender c.push.new.self in
    subst (λ q. IsAdded c.args.t c.args.number q (seen now)) c.self.view_is
    (added m now c.args.t (Some c.push.new.self) ((c.get_mut.follows.holds c.push.new.self).3 (ap is_some at)).0 c.args.number
    (c.in_ok-push.ensures.items ∙ ap (λ l. l ++ c.args.number ∷ []) (sym (ap items at))))

pub invariant_of-self-2 : goal.invariant_of-self-2
invariant_of-self-2 c =
    let one : c.push-2.new.self.items ≡ c.args.number ∷ [] = c.in_ok-push-2.ensures.items ∙ ap (λ l. l ++ c.args.number ∷ []) c.empty_list-numbers.ensures in
    let same = c.get_mut.follows.holds-at-none in
    filled c.self.inside.moments c.insert.new.self c.args.t (Some c.push-2.new.self) (rw same at c.in_ok-insert.ensures.updates.0) (rw one (not_empty [] c.args.number)) c.self.invariant

pub returns-clause-ok : goal.returns-clause-ok
returns-clause-ok c =
    let m = c.self.inside.moments in
    let one : c.push-2.new.self.items ≡ c.args.number ∷ [] = c.in_ok-push-2.ensures.items ∙ ap (λ l. l ++ c.args.number ∷ []) c.empty_list-numbers.ensures in
    let same = c.get_mut.follows.holds-at-none in
    subst (λ q. IsAdded c.args.t c.args.number q (seen c.insert.new.self)) c.self.view_is
    (added m c.insert.new.self c.args.t (Some c.push-2.new.self) (rw same at c.in_ok-insert.ensures.updates.0) c.args.number (one ∙ ap (λ l. l ++ c.args.number ∷ []) (sym (ap items (sym c.in_default.ensures.value)))))
