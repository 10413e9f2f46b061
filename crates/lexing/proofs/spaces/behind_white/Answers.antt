use Rattle.std.proofs.Common.{◌∙◌, sym, arith, length-drop}
use Rattle.std.proofs.lemmas.List.{take_rest}
use Rattle.lexing.proofs.SpaceLemmas.{over_white, none_in_front}
use Rattle.lexing.proofs.spaces.behind_white.Goals as goal

pub pieces-preserved : goal.pieces-preserved
pieces-preserved c =
    let over = over_white c.pieces.rest.now c.in-Takes.n (sym c.in-Takes.ensures.value) c.in-Takes.ensures.some c.in-Takes.ensures.within in
    let within = c.pieces.invariant.within in
    rw take_rest (record { same = over ∙ c.pieces.invariant.same; within = omega (arith, within, length-drop c.in-Takes.n c.pieces.rest.now) })

pub returns-in_default : goal.returns-in_default
returns-in_default c =
    let none = none_in_front c.pieces.rest.now (λ n e. c.in_default.not-Takes n (c.white_space.ensures.value ∙ e)) in
    record { value = sym none ∙ c.pieces.invariant.same; within = c.pieces.invariant.within }
