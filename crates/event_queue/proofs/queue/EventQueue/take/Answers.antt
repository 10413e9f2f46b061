use Rattle.std.proofs.Common.{◌++◌, ◌∙◌, ap, sym, subst, refl, length, arith}
use Rattle.event_queue.specs.kept.Noted.{IsTaken, noted}
use Rattle.event_queue.specs.kept.Lists.{joined}
use Rattle.event_queue.proofs.Changes.{exchanged, joined_taken, noted_joined, nothing_taken}
use Rattle.event_queue.proofs.Rows.{emptied}
use Rattle.event_queue.proofs.queue.EventQueue.take.Goals as goal

pub returns-then-is_empty-2-clause-taken : goal.returns-then-is_empty-2-clause-taken
returns-then-is_empty-2-clause-taken c =
    let none = sym c.numbers.ensures ∙ emptied c.numbers.result.now (length c.numbers.result.now) c.is_empty-then-is_empty.result refl c.is_empty-then-is_empty.ensures c.if-is_empty-2.true in
    exchanged c.args.out.now.items c.exchange.new.out.items c.self.inside.far c.self.inside.near c.args.self.now c.args.t c.self.view_is
    (emptied c.args.out.now.items c.args.out.now.len c.is_empty.result (omega arith) c.is_empty.ensures c.if-is_empty.true) none c.exchange.ensures.numbers

pub returns-then-is_empty-2-clause-rest : goal.returns-then-is_empty-2-clause-rest
returns-then-is_empty-2-clause-rest c =
    let far = c.self.inside.far in let near = c.self.inside.near in
    let none = sym c.numbers.ensures ∙ emptied c.numbers.result.now (length c.numbers.result.now) c.is_empty-then-is_empty.result refl c.is_empty-then-is_empty.ensures c.if-is_empty-2.true in
    subst (λ q. IsTaken c.args.t q (joined far c.exchange.new.self)) c.self.view_is
    (joined_taken far near far c.exchange.new.self c.args.t (nothing_taken c.args.t far none) c.exchange.ensures.rest)

pub returns-clause-taken : goal.returns-clause-taken
returns-clause-taken c =
    let far = c.self.inside.far in let near = c.self.inside.near in
    c.in_ok-append_both.ensures.ok
    ∙ ap (λ l. c.args.out.now.items ++ l)
    (ap (λ l. l ++ c.numbers-3.result.now) c.numbers-2.ensures ∙ ap (λ l. noted far c.args.t ++ l) c.numbers-3.ensures ∙ sym (noted_joined far near c.args.t) ∙ ap (λ q. noted q c.args.t) c.self.view_is)

pub returns-clause-rest : goal.returns-clause-rest
returns-clause-rest c =
    subst (λ q. IsTaken c.args.t q (joined c.clear.new.self c.clear-2.new.self)) c.self.view_is
    (joined_taken c.self.inside.far c.self.inside.near c.clear.new.self c.clear-2.new.self c.args.t c.clear.ensures c.clear-2.ensures)
