use Rattle.std.proofs.Common.{◌≡◌, ◌+◌, ℕ, suc, length, ap, ◌∙◌, arith}
use Rattle.elaboration.specs.Tops.{reaches}
use Rattle.elaboration.proofs.RingLemmas.{reached_in_all}
use Rattle.elaboration.proofs.rings.is_reached.Goals as goal

pub returns-then-not-branch : goal.returns-then-not-branch
returns-then-not-branch c =
    let modules = c.args.modules.now.modules in
    let between = c.loop-between._between in
    c.contains.ensures
    ∙ reached_in_all modules c.args.name c.loop-between.reached.keys c.reach_on.new.reached.keys between
    (omega (arith, c.loop-between-test.true, c.count-between-end.ensures)) c.loop-between.invariant
    (c.in_ok-reach_on.ensures.names c.args.name between c.loop-between.invariant) (c.in_ok-reach_on.ensures.same c.if-not-branch.true) c.args.name

pub loop-between-preserved : goal.loop-between-preserved
loop-between-preserved c = λ to.
    let between = c.loop-between._between in
    let next : suc between ≡ between + 1 = omega arith in
    c.in_ok-reach_on.ensures.names c.args.name between c.loop-between.invariant to
    ∙ ap (λ (n : ℕ). reaches c.args.modules.now.modules c.args.name n to) next

pub returns : goal.returns
returns c =
    let modules = c.args.modules.now.modules in
    let all : c.loop-between._between ≡ length modules = omega (arith, c.loop-between-test.false, c.count-between-end.ensures, c.loop-between.auto._between-end) in
    c.contains-2.ensures
    ∙ c.loop-between.invariant c.args.name
    ∙ ap (λ (n : ℕ). reaches modules c.args.name n c.args.name) all
