use Rattle.std.proofs.Common.{◌∙◌, ◌<◌, ◌≤◌, ap, sym, subst, ℕ, List, length, inl, inr, arith}
use Rattle.std.proofs.lemmas.List.{take_all}
use Rattle.edits.specs.kept.Touched.{is_touched}
use Rattle.bench.proofs.TouchedLemmas.{item_is, touched_more}
use Rattle.bench.proofs.since.reach_all.Goals as goal

pub loop-key-preserved : goal.loop-key-preserved
loop-key-preserved c =
    let keys = c.args.keys.now in let i = c.loop-key.key-index in
    let now = c.reach.new.versions.items in
    let longer : length c.loop-key.versions.items ≤ length now = c.reach.ensures.longer in
    record {
      same = λ key. c.reach.ensures.same key ∙ c.loop-key.invariant.same key;
      longer = let before = c.loop-key.invariant.longer in omega (arith, longer, before);
      room = λ key on.
          elim (touched_more keys i key c.loop-key-test.true on) [
            | inl so_far ↦ let low = c.loop-key.invariant.room key so_far in omega (arith, longer, low)
            | inr same ↦ subst (λ (k : ℕ). k < length now) (sym (item_is keys i c.key-item.result c.loop-key-test.true c.key-item.is) ∙ same) c.in_ok-reach.ensures.room
          ];
    }

pub returns-clause-room : goal.returns-clause-room
returns-clause-room c = λ key on.
    c.loop-key.invariant.room key (ap (λ (l : List ℕ). is_touched l key) (take_all c.loop-key.key-index c.args.keys.now c.loop-key-test.false) ∙ on)
