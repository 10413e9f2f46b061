use Rattle.std.proofs.Common.{[], arith}
use Rattle.std.proofs.lemmas.List.{take_rest}
use Rattle.lexing.proofs.TextLemmas.{within_text, front_past_white, front_past_token, front_to_unending, front_to_stray, front_to_end}
use Rattle.lexing.proofs.laws.some_spelling.Goals as goal

pub loop-position-init : goal.loop-position-init
loop-position-init c = record { within = omega arith; front = ([], λ more rest. rest) }

pub loop-position-preserved-in-Takes : goal.loop-position-preserved-in-Takes
loop-position-preserved-in-Takes c =
    let known = rw take_rest at c.in-Takes.ensures in
    record {
      within = within_text c.args.text.now c.loop-position.position c.in-Takes.length known.within (omega (arith, c.loop-position-test.true));
      front = front_past_white c.args.text.now c.loop-position.position c.in-Takes.length known.value c.loop-position.invariant.front;
    }

pub loop-position-preserved : goal.loop-position-preserved
loop-position-preserved c =
    let known = rw take_rest at c.first_lexeme-lexeme.ensures in
    record {
      within = within_text c.args.text.now c.loop-position.position c.first_lexeme-lexeme.result.length known.within (omega (arith, c.loop-position-test.true));
      front = front_past_token c.args.text.now c.loop-position.position c.first_lexeme-lexeme.result.length c.first_lexeme-lexeme.result.shape
          c.in_default.not-Stray (rw take_rest at c.in-Nothing.ensures.value) known.value c.loop-position.invariant.front;
    }

pub returns-in-Unending : goal.returns-in-Unending
returns-in-Unending c =
    front_to_unending c.args.text.now c.loop-position.position (rw take_rest at c.in-Unending.ensures.value) c.loop-position.invariant.front

pub returns-in-Stray : goal.returns-in-Stray
returns-in-Stray c =
    front_to_stray c.args.text.now c.loop-position.position c.first_lexeme-lexeme.result.length c.first_lexeme-lexeme.result.shape c.in-Stray.is
    c.loop-position-test.true (rw take_rest at c.in-Nothing.ensures.value) (rw take_rest at c.first_lexeme-lexeme.ensures.value)
    c.loop-position.invariant.front

pub returns : goal.returns
returns c =
    front_to_end c.args.text.now c.loop-position.position (omega (arith, c.loop-position-test.false, c.loop-position.invariant.within))
    c.loop-position.invariant.front
