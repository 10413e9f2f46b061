use Rattle.std.proofs.Common.{◌∙◌, sym, arith}
use Rattle.std.proofs.lemmas.List.{take_rest}
use Rattle.lexing.proofs.TextLemmas.{within_text, reach_past_white, reach_past_space, reach_to_end, next_lexeme, next_unending, next_mark, next_name}
use Rattle.lexing.proofs.scan.next_token.Goals as goal

pub loop-position-preserved-then-is_space : goal.loop-position-preserved-then-is_space
loop-position-preserved-then-is_space c = record {
  behind = omega arith;
  within = omega (arith, c.loop-position-test.true);
  reach = reach_past_space c.args.text.now c.args.from c.loop-position.position c.loop-position-test.true
      (sym c.is_space.ensures ∙ c.if-is_space.true) c.loop-position.invariant.reach;
}

pub returns-then-is_mark-clause-some : goal.returns-then-is_mark-clause-some
returns-then-is_mark-clause-some c =
    next_mark c.args.text.now c.args.from c.loop-position.position c.token_at.result c.token_at.ensures c.loop-position-test.true
    (sym c.is_mark.ensures ∙ c.if-is_mark.true) c.loop-position.invariant.behind c.loop-position.invariant.reach

pub returns-then-is_letter-clause-some : goal.returns-then-is_letter-clause-some
returns-then-is_letter-clause-some c =
    let known = rw take_rest at c.name_length.ensures in
    next_name c.args.text.now c.args.from c.loop-position.position c.name_length.result c.token_at-then-is_letter.result c.token_at-then-is_letter.ensures
    c.loop-position-test.true (sym c.is_letter.ensures ∙ c.if-is_letter.true) known.value c.loop-position.invariant.behind known.some
    (within_text c.args.text.now c.loop-position.position c.name_length.result known.within (omega (arith, c.loop-position-test.true)))
    c.loop-position.invariant.reach

pub loop-position-preserved : goal.loop-position-preserved
loop-position-preserved c =
    let known = rw take_rest at c.in-Takes.ensures in
    record {
      behind = omega arith;
      within = within_text c.args.text.now c.loop-position.position c.in-Takes.length known.within (omega (arith, c.loop-position-test.true));
      reach = reach_past_white c.args.text.now c.args.from c.loop-position.position c.in-Takes.length known.value c.loop-position.invariant.reach;
    }

pub returns-in-Unending-clause-some : goal.returns-in-Unending-clause-some
returns-in-Unending-clause-some c =
    next_unending c.args.text.now c.args.from c.loop-position.position c.token_at-in-Unending.result c.token_at-in-Unending.ensures
    (rw take_rest at c.in-Unending.ensures.value) c.loop-position.invariant.behind c.loop-position-test.true c.loop-position.invariant.reach

pub returns-in-Nothing-clause-some : goal.returns-in-Nothing-clause-some
returns-in-Nothing-clause-some c =
    let known = rw take_rest at c.first_lexeme-lexeme.ensures in
    next_lexeme c.args.text.now c.args.from c.loop-position.position c.first_lexeme-lexeme.result.length c.first_lexeme-lexeme.result.shape
    c.token_at-in-Nothing.result c.token_at-in-Nothing.ensures (rw take_rest at c.in-Nothing.ensures.value) known.value c.loop-position.invariant.behind known.some
    (within_text c.args.text.now c.loop-position.position c.first_lexeme-lexeme.result.length known.within (omega (arith, c.loop-position-test.true)))
    c.loop-position.invariant.reach

pub returns-clause-none : goal.returns-clause-none
returns-clause-none c = λ none.
    reach_to_end c.args.text.now c.args.from c.loop-position.position (omega (arith, c.loop-position-test.false, c.loop-position.invariant.within))
    c.loop-position.invariant.reach
