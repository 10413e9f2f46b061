use Rattle.std.proofs.Common.{refl, ap, sym, ◌∙◌}
use Rattle.vtext.specs.declared.word.Placed.{Placed}
use Rattle.vtext.proofs.WordLemmas.{said_at_end, said_at_last, so_far_more, within_more}
use Rattle.vtext.proofs.words.words.Goals as goal

pub returns-then-is_last-clause-said : goal.returns-then-is_last-clause-said
returns-then-is_last-clause-said c =
    said_at_last c.args.text.now c.loop-token.position c.loop-token.table.names c.loop-token.table.directive c.loop-token.words.items c.loop-token.invariant.so_far c.in-Some.token
    c.word.new.self.names c.word.new.self.directive c.in_ok-word.field-0 c.push.new.self.items c.in-Some.ensures.some c.in_ok-word.ensures.names c.in_ok-word.ensures.directive
    c.in_ok-word.ensures.word c.in_ok-push.ensures.items (sym c.is_last.ensures ∙ c.if-is_last.true)

pub returns-then-is_last-clause-starts : goal.returns-then-is_last-clause-starts
returns-then-is_last-clause-starts c =
    within_more c.args.text.now c.in-Some.token c.loop-token.words.items c.push.new.self.items c.in_ok-word.field-0 c.in-Some.ensures.some.inside
    (ap (λ (w : Placed). w.start) c.in_ok-word.ensures.word) c.in_ok-push.ensures.items c.loop-token.invariant.starts

pub loop-token-preserved : goal.loop-token-preserved
loop-token-preserved c = record {
  within = c.in-Some.ensures.some.inside.within;
  meanings = c.in_ok-word.ensures.meanings;
  so_far = so_far_more c.args.text.now c.loop-token.position c.loop-token.table.names c.loop-token.table.directive c.loop-token.words.items c.loop-token.invariant.so_far c.in-Some.token
      c.word.new.self.names c.word.new.self.directive c.in_ok-word.field-0 c.push.new.self.items c.in-Some.ensures.some c.in_ok-word.ensures.names c.in_ok-word.ensures.directive
      c.in_ok-word.ensures.word c.in_ok-push.ensures.items (sym c.is_last.ensures ∙ c.if-is_last.false);
  starts = within_more c.args.text.now c.in-Some.token c.loop-token.words.items c.push.new.self.items c.in_ok-word.field-0 c.in-Some.ensures.some.inside
      (ap (λ (w : Placed). w.start) c.in_ok-word.ensures.word) c.in_ok-push.ensures.items c.loop-token.invariant.starts;
}

pub returns-clause-said : goal.returns-clause-said
returns-clause-said c =
    said_at_end c.args.text.now c.loop-token.position c.loop-token.table.names c.loop-token.table.directive c.loop-token.words.items c.loop-token.invariant.so_far
    (c.in_default.ensures.none refl)
