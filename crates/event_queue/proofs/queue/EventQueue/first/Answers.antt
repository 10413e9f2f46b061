use Rattle.std.proofs.Common.{◌≡◌, ◌≢◌, ◌<◌, ◌∙◌, ap, sym, subst, ℕ, [], arith}
use Rattle.event_queue.specs.kept.Noted.{noted}
use Rattle.event_queue.proofs.Changes.{by_none, by_some, lesser, none_both, none_first, none_second}
use Rattle.event_queue.proofs.queue.EventQueue.first.Goals as goal

pub returns-in_default-clause-noted : goal.returns-in_default-clause-noted
returns-in_default-clause-noted c =
    by_some (λ t. noted c.self.inside.far t ≢ []) (λ t. noted c.args.self.now t ≢ []) c.first-in_default.result c.first-in_default.ensures.noted
    (λ t some none. some (none_first c.self.inside.far c.self.inside.near t (ap (λ q. noted q t) c.self.view_is ∙ none)))

pub returns-in_default-clause-least : goal.returns-in_default-clause-least
returns-in_default-clause-least c =
    by_some (λ t. (u : ℕ) → u < t → noted c.self.inside.far u ≡ []) (λ t. (u : ℕ) → u < t → noted c.args.self.now u ≡ []) c.first-in_default.result c.first-in_default.ensures.least
    (λ t least u low. ap (λ q. noted q u) (sym c.self.view_is) ∙ none_both c.self.inside.far c.self.inside.near u (least u low) (c.in_default.ensures.none u))

pub returns-in_default-clause-none : goal.returns-in_default-clause-none
returns-in_default-clause-none c =
    by_none c.first-in_default.result c.first-in_default.ensures.none
    (λ none u. ap (λ q. noted q u) (sym c.self.view_is) ∙ none_both c.self.inside.far c.self.inside.near u (none u) (c.in_default.ensures.none u))

pub returns-in_default-first-clause-noted : goal.returns-in_default-first-clause-noted
returns-in_default-first-clause-noted c = λ none.
    c.in-Some.ensures.noted (none_second c.self.inside.far c.self.inside.near c.in-Some.near (ap (λ q. noted q c.in-Some.near) c.self.view_is ∙ none))

pub returns-in_default-first-clause-least : goal.returns-in_default-first-clause-least
returns-in_default-first-clause-least c = λ u low.
    ap (λ q. noted q u) (sym c.self.view_is) ∙ none_both c.self.inside.far c.self.inside.near u (c.in_default-first.ensures.none u) (c.in-Some.ensures.least u low)

pub returns-clause-noted : goal.returns-clause-noted
returns-clause-noted c =
    let far = c.self.inside.far in let near = c.self.inside.near in
    subst (λ t. noted c.args.self.now t ≢ []) (sym c.min.ensures)
    (lesser (λ t. noted c.args.self.now t ≢ []) c.in-Some.near c.in-Some-first.far
    (λ none. c.in-Some.ensures.noted (none_second far near c.in-Some.near (ap (λ q. noted q c.in-Some.near) c.self.view_is ∙ none)))
    (λ none. c.in-Some-first.ensures.noted (none_first far near c.in-Some-first.far (ap (λ q. noted q c.in-Some-first.far) c.self.view_is ∙ none))))

pub returns-clause-least : goal.returns-clause-least
returns-clause-least c = λ u low.
    ap (λ q. noted q u) (sym c.self.view_is) ∙ none_both c.self.inside.far c.self.inside.near u (c.in-Some-first.ensures.least u (omega arith)) (c.in-Some.ensures.least u (omega arith))
